use Rattle.std.proofs.Common.{◌≡◌, Err, sym, rules, ◌∙◌}
use Rattle.csv.specs.Records.{fields_of}
use Rattle.hq_import.proofs.Limits.{no_messages, no_bytes, no_lines, no_notices, quota_is}
use Rattle.hq_import.proofs.directory.quota_read.Goals as goal

pub returns-in_err-messages : goal.returns-in_err-messages
returns-in_err-messages c =
    let told : c.from_residual.result ≡ Err c.in_err-messages.field-0.0 = search rules in
    told ∙ sym (no_messages c.args.row (fields_of c.args.record.now) _ c.in_err-messages.ensures)

pub returns-in_err-bytes : goal.returns-in_err-bytes
returns-in_err-bytes c =
    let told : c.from_residual-in_err-bytes.result ≡ Err c.in_err-bytes.field-0.0 = search rules in
    told ∙ sym (no_bytes c.args.row (fields_of c.args.record.now) _ _
    c.in_ok-messages.ensures.1 c.in_err-bytes.ensures)

pub returns-in_err-lines : goal.returns-in_err-lines
returns-in_err-lines c =
    let told : c.from_residual-in_err-lines.result ≡ Err c.in_err-lines.field-0.0 = search rules in
    told ∙ sym (no_lines c.args.row (fields_of c.args.record.now) _ _ _
    c.in_ok-messages.ensures.1 c.in_ok-bytes.ensures.1 c.in_err-lines.ensures)

pub returns-in_err-notices : goal.returns-in_err-notices
returns-in_err-notices c =
    let told : c.from_residual-in_err-notices.result ≡ Err c.in_err-notices.field-0.0 =
    search rules in
    told ∙ sym (no_notices c.args.row (fields_of c.args.record.now) _ _ _ _
    c.in_ok-messages.ensures.1 c.in_ok-bytes.ensures.1 c.in_ok-lines.ensures.1
    c.in_err-notices.ensures)

pub returns : goal.returns
returns c =
    sym (quota_is c.args.row (fields_of c.args.record.now) _ _ _ _ _
    c.in_ok-messages.ensures.1 c.in_ok-bytes.ensures.1 c.in_ok-lines.ensures.1
    c.in_ok-notices.ensures.1)

use Rattle.std.proofs.Common.{◌≡◌, ◌==◌, ◌∙◌, Ok, Err, true, false, length, rules}
use Rattle.csv.specs.Records.{fields_of}
use Rattle.hq_import.specs.Directories.{quota_read}
use Rattle.hq_import.specs.declared.refused.DirectoryFail.TheVariants.{Refused}
use Rattle.hq_import.proofs.Rows.{fails_as, other_count, no_name, no_key, no_quota, no_delay}
use Rattle.hq_import.proofs.Rows.{no_span, customer_is}
use Rattle.hq_import.proofs.directory.customer_read.Goals as goal

pub returns-then-len-columns : goal.returns-then-len-columns
returns-then-len-columns g c =
    let fields = fields_of c.args.record.now in
    let other : (length fields == c.args.columns) ≡ false = search rules in
    other_count c.args.columns c.args.row fields other ∙ search rules

pub returns-in_err-name : goal.returns-in_err-name
returns-in_err-name g c =
    let fields = fields_of c.args.record.now in
    let all : (length fields == c.args.columns) ≡ true = search rules in
    let told : c.from_residual.result ≡ Err c.in_err-name.field-0.0 = search rules in
    rw told (fails_as g.M.Memory.refused c.in_err-name.field-0.0 _ _ c.in_err-name.ensures
    (no_name c.args.columns c.args.row fields all))

pub returns-in_err-key : goal.returns-in_err-key
returns-in_err-key g c =
    let fields = fields_of c.args.record.now in
    let all : (length fields == c.args.columns) ≡ true = search rules in
    let told : c.from_residual-in_err-key.result ≡ Err c.in_err-key.field-0.0 = search rules in
    rw told (fails_as g.M.Memory.refused c.in_err-key.field-0.0 _ _ c.in_err-key.ensures
    (no_key c.args.columns c.args.row fields all _ c.in_ok-name.ensures))

pub returns-in_err-quota : goal.returns-in_err-quota
returns-in_err-quota g c =
    let fields = fields_of c.args.record.now in
    let all : (length fields == c.args.columns) ≡ true = search rules in
    let told : c.from_residual-in_err-quota.result ≡ Err (Refused c.in_err-quota.field-0.0) =
    search rules in
    rw told (no_quota c.args.columns c.args.row fields all _ _ c.in_ok-name.ensures
    c.in_ok-key.ensures c.in_err-quota.field-0.0 (search rules))

pub returns-in_err-delay : goal.returns-in_err-delay
returns-in_err-delay g c =
    let fields = fields_of c.args.record.now in
    let all : (length fields == c.args.columns) ≡ true = search rules in
    let limited : quota_read c.args.row fields ≡ Ok c.in_ok-quota.quota = search rules in
    let told : c.from_residual-in_err-delay.result ≡ Err (Refused c.in_err-delay.field-0.0) =
    search rules in
    rw told (no_delay c.args.columns c.args.row fields all _ _ c.in_ok-name.ensures
    c.in_ok-key.ensures _ limited c.in_err-delay.field-0.0 c.in_err-delay.ensures)

pub returns-in_err-history : goal.returns-in_err-history
returns-in_err-history g c =
    let fields = fields_of c.args.record.now in
    let all : (length fields == c.args.columns) ≡ true = search rules in
    let limited : quota_read c.args.row fields ≡ Ok c.in_ok-quota.quota = search rules in
    let told : c.from_residual-in_err-history.result ≡ Err (Refused c.in_err-history.field-0.0) =
    search rules in
    rw told (no_span c.args.columns c.args.row fields all _ _ c.in_ok-name.ensures
    c.in_ok-key.ensures _ limited _ c.in_ok-delay.ensures.1 c.in_err-history.field-0.0
    c.in_err-history.ensures)

pub returns : goal.returns
returns g c =
    let fields = fields_of c.args.record.now in
    let all : (length fields == c.args.columns) ≡ true = search rules in
    let limited : quota_read c.args.row fields ≡ Ok c.in_ok-quota.quota = search rules in
    customer_is c.args.columns c.args.row fields all _ _ c.in_ok-name.ensures c.in_ok-key.ensures _
    limited _ c.in_ok-delay.ensures.1 _ c.in_ok-history.ensures.1 _ _

use Rattle.std.proofs.Common.{◌≡◌, ◌==◌, true, false, length, codes, sym, refl, ◌∙◌}
use Rattle.hq_text.proofs.Joined.{field_then, no_line}
use Rattle.hq_rules.specs.TextLines.{crlf}
use Rattle.hq_rules.specs.NoticeTexts.{diagnostic_lines}
use Rattle.hq_text.proofs.notices.put_diagnostic.Goals as goal

pub returns-then-is_empty : goal.returns-then-is_empty
unfolding diagnostic_lines
returns-then-is_empty g c =
    let silent : (length c.args.said.now == 0) ≡ true = sym c.is_empty.ensures
    ∙ c.if-is_empty.true in
    rw silent (no_line crlf _)

pub returns : goal.returns
unfolding diagnostic_lines
returns g c =
    let spoke : (length c.args.said.now == 0) ≡ false = sym c.is_empty.ensures
    ∙ c.if-is_empty.false in
    rw spoke (field_then crlf _ _ _ (codes "Diagnostic-Code: x-desk; ") _ _ _
    c.in_ok-put_field.ensures refl (no_line crlf _))

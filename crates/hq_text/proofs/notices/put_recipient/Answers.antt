use Rattle.std.proofs.Common.{[], codes, refl}
use Rattle.hq_text.proofs.Joined.{field_then, lines_then}
use Rattle.hq_rules.specs.TextLines.{crlf}
use Rattle.hq_rules.specs.NoticeTexts.{recipient_fields}
use Rattle.hq_text.proofs.notices.put_recipient.Goals as goal

pub returns : goal.returns
unfolding recipient_fields
returns g c =
    let said = rw c.as_str-3.ensures at c.in_ok-put_diagnostic.ensures in
    field_then crlf _ _ _ [] [] [] _ c.in_ok-put_field.ensures refl
    (field_then crlf _ _ _ (codes "Final-Recipient: rfc822; ") _ _ _ c.in_ok-put_field-2.ensures
    c.as_str.ensures
    (field_then crlf _ _ _ (codes "Action: ") _ _ _ c.in_ok-put_field-3.ensures c.action.ensures
    (field_then crlf _ _ _ (codes "Status: ") _ _ _ c.in_ok-put_field-4.ensures c.as_str-2.ensures
    (lines_then crlf _ _ _ _ _ said c.in_ok-put_retry.ensures))))

use Rattle.std.proofs.Common.{codes, ◌∙◌}
use Rattle.hq_text.proofs.Joined.{field_then, no_line}
use Rattle.hq_rules.specs.TextLines.{crlf}
use Rattle.hq_rules.specs.NoticeTexts.{message_fields}
use Rattle.hq_text.proofs.notices.put_message.Goals as goal

pub returns : goal.returns
unfolding message_fields
returns g c =
    field_then crlf _ _ _ (codes "Reporting-MTA: dns; ") _ _ _ c.in_ok-put_field.ensures
    c.as_str.ensures
    (field_then crlf _ _ _ (codes "Arrival-Date: ") _ _ _ c.in_ok-put_field-2.ensures
    (c.as_str-2.ensures.value ∙ c.in_ok-arrival.ensures)
    (field_then crlf _ _ _ (codes "X-Desk-Queue-Id: ") _ _ _ c.in_ok-put_field-3.ensures
    (c.as_str-3.ensures.value ∙ c.in_ok-id.ensures) (no_line crlf _)))

use Rattle.std.proofs.Common.{[], ◌++◌, codes, refl, ap, ◌∙◌}
use Rattle.hq_values.specs.Serials.{serial_text}
use Rattle.hq_text.proofs.Joined.{line_then, no_line}
use Rattle.hq_rules.specs.TextLines.{crlf}
use Rattle.hq_rules.specs.NoticeTexts.{opening_lines, what_follows}
use Rattle.hq_text.proofs.notices.put_opening.Goals as goal

pub returns : goal.returns
unfolding opening_lines
returns g c =
    line_then crlf _ _ _ _ _ _ c.in_ok-put_line.ensures
    (ap (λ host. codes "This is the mail relay at " ++ host ++ codes ".") c.as_str.ensures)
    (line_then crlf _ _ _ [] [] _ c.in_ok-put_field.ensures refl
    (line_then crlf _ _ _ _ _ _ c.in_ok-put_line-2.ensures
    (ap (λ id. codes "Message " ++ id ++ c.what_happened.result.now) (c.as_str-2.ensures.value
    ∙ c.in_ok-id.ensures) ∙ ap (λ what. codes "Message "
    ++ serial_text c.args.message.now.serial ++ what) c.what_happened.ensures)
    (line_then crlf _ _ _ _ _ _ c.in_ok-put_what_follows.ensures
    (ap what_follows (c.lent.ensures ∙ c.in_ok-until.ensures))
    (line_then crlf _ _ _ [] [] _ c.in_ok-put_field-2.ensures refl (no_line crlf _)))))

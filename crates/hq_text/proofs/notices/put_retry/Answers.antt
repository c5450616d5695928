use Rattle.std.proofs.Common.{codes, refl}
use Rattle.hq_text.proofs.Joined.{field_then, no_line}
use Rattle.hq_rules.specs.TextLines.{crlf}
use Rattle.hq_rules.specs.NoticeTexts.{retry_lines}
use Rattle.hq_text.proofs.notices.put_retry.Goals as goal

pub returns-in-None : goal.returns-in-None
unfolding retry_lines
returns-in-None g c = rw c.in-None.is (no_line crlf _)

pub returns-in_ok-put_field-in-Some : goal.returns-in_ok-put_field-in-Some
unfolding retry_lines
returns-in_ok-put_field-in-Some g c = rw c.in-Some.is
    (field_then crlf _ _ _ (codes "Will-Retry-Until: ") _ _ _ c.in_ok-put_field-in-Some.ensures refl
    (no_line crlf _))

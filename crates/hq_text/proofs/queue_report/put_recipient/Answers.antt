use Rattle.std.proofs.Common.{codes}
use Rattle.hq_text.proofs.Joined.{field_then, lines_then, no_line}
use Rattle.hq_rules.specs.TextLines.{lf}
use Rattle.hq_rules.specs.QueueReports.{recipient_lines}
use Rattle.hq_text.proofs.queue_report.put_recipient.Goals as goal

pub returns : goal.returns
unfolding recipient_lines
returns g c =
    lines_then lf _ _ _ _ _ c.in_ok-put_reason.ensures
    (field_then lf _ _ _ (codes "    ") _ _ _ c.in_ok-put_address.ensures c.as_str.ensures
    (no_line lf _))

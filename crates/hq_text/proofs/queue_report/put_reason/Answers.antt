use Rattle.std.proofs.Common.{ap, ◌∙◌}
use Rattle.hq_text.proofs.Joined.{line_then, no_line}
use Rattle.hq_rules.specs.TextLines.{lf}
use Rattle.hq_rules.specs.QueueReports.{reason_line, reason_lines}
use Rattle.hq_text.proofs.queue_report.put_reason.Goals as goal

pub returns-in-None : goal.returns-in-None
unfolding reason_lines
returns-in-None g c = rw c.in-None.is (no_line lf _)

pub returns-in_ok-put_status-in-Some : goal.returns-in_ok-put_status-in-Some
unfolding reason_lines
returns-in_ok-put_status-in-Some g c =
    let line = ap (λ status. reason_line status c.as_str-in-Some.result.now) c.as_str.ensures
    ∙ ap (reason_line c.in-Some.status) c.as_str-in-Some.ensures in
    rw c.in-Some.is (line_then lf _ _ _ _ _ _ c.in_ok-put_status-in-Some.ensures line
    (no_line lf _))

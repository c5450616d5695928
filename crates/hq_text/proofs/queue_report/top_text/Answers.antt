use Rattle.std.proofs.Common.{[]}
use Rattle.hq_text.proofs.Joined.{line_then}
use Rattle.hq_rules.specs.TextLines.{lf}
use Rattle.hq_rules.specs.QueueReports.{top_lines}
use Rattle.hq_text.proofs.queue_report.top_text.Goals as goal

pub returns : goal.returns
unfolding top_lines
returns g c = line_then lf [] _ _ _ _ _ c.in_ok-append.ensures.bytes c.in_ok-text.ensures
    c.in_ok-put_hold.ensures

use Rattle.std.proofs.Common.{string_bytes, ◌∙◌}
use Rattle.hq_rules.specs.QueueReports.{Written}
use Rattle.hq_text.proofs.Writing.{finished_is}
use Rattle.hq_text.proofs.queue_report.Report.finish.Goals as goal

pub returns : goal.returns
returns g c =
    let self : Written = record {
      text = string_bytes c.self.inside.text;
      queued = c.self.inside.queued;
      bytes = c.self.inside.bytes;
      held = c.self.inside.held;
    } in
    λ messages is. finished_is self _ c.in_ok-put_last.ensures messages (c.self.view_is ∙ is)

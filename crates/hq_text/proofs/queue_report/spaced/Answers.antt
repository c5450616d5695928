use Rattle.std.proofs.Common.{append_assoc}
use Rattle.hq_text.proofs.queue_report.spaced.Goals as goal

pub returns : goal.returns
returns g c = simp append_assoc c.show.ensures.ok

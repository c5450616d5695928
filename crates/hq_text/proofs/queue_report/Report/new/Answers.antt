use Rattle.std.proofs.Common.{refl}
use Rattle.hq_text.proofs.Writing.{begun}
use Rattle.hq_text.proofs.queue_report.Report.new.Goals as goal

pub returns : goal.returns
returns g c = begun _ c.no_text.ensures.bytes refl refl refl

use Rattle.hq_kept.proofs.Forms.{cut_at_dot}
use Rattle.hq_kept.proofs.status.cut.Goals as goal

pub returns : goal.returns
returns c = cut_at_dot c.args.text.now c.split_once.result c.split_once.ensures.cases

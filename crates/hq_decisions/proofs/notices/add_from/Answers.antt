use Rattle.std.proofs.Common.{arith}
use Rattle.std.proofs.lemmas.Grind.{common_steps}
use Rattle.hq_decisions.proofs.Numbers.{added_more}
use Rattle.hq_decisions.proofs.notices.add_from.Goals as goal

pub loop-draft-preserved : goal.loop-draft-preserved
loop-draft-preserved g c = grind (arith, common_steps, added_more)

use Rattle.hq_rules.specs.Desks.{or_memory}
use Rattle.hq_across.proofs.Lost.{lost}
use Rattle.hq_across.proofs.laws.lost_reply_is_under_way.Goals as goal

pub returns : goal.returns
returns g c = lost (or_memory g.M.Memory.refused g.D.Acts.sight.store).may_answer

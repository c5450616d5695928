use Rattle.hq_rules.specs.Desks.{or_memory}
use Rattle.hq_wire.proofs.OneLine.{reply_one_line}
use Rattle.hq_wire.proofs.laws.replies_are_one_line.Goals as goal

pub returns : goal.returns
returns g c = λ host d a r t t' names replied.
    reply_one_line (or_memory g.M.Memory.refused g.D.Acts.sight.store).may_answer host d t t' a.at
    names a.called r replied

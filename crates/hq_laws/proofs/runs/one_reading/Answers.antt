use Rattle.hq_rules.specs.Desks.{or_memory}
use Rattle.hq_laws.proofs.Readings.{one_reading}
use Rattle.hq_laws.proofs.runs.one_reading.Goals as goal

pub returns : goal.returns
returns g c = λ host d a r q t t' u u' one other status body.
    let may = (or_memory g.M.Memory.refused g.D.Acts.sight.store).may_answer in
    one_reading may (or_memory g.N.Memory.refused g.E.Acts.sight.store).may_answer host host d t t'
    u u' a.at a.at a.called r q one
    other status body

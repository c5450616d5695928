use Rattle.hq_wire.specs.Exchanges.{with_refusals}
use Rattle.hq_together.proofs.InTurns.{are_rounds_of_session}
use Rattle.hq_together.proofs.laws.rounds_are_a_session.Goals as goal

pub returns : goal.returns
returns g c = λ d old new asked replied each opened clean.
    are_rounds_of_session (with_refusals g.M.Memory.refused g.D.Acts.sight) d old new asked replied
    each opened clean

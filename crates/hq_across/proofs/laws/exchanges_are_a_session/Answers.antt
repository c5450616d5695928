use Rattle.hq_wire.specs.Exchanges.{with_refusals}
use Rattle.hq_across.proofs.Running.{is_session, is_whole}
use Rattle.hq_across.proofs.laws.exchanges_are_a_session.Goals as goal

pub returns-clause-stopped : goal.returns-clause-stopped
returns-clause-stopped g c = λ d.
    is_session (with_refusals g.M.Memory.refused g.D.Acts.sight) d

pub returns-clause-open : goal.returns-clause-open
returns-clause-open g c = λ d.
    is_whole (with_refusals g.M.Memory.refused g.D.Acts.sight) d

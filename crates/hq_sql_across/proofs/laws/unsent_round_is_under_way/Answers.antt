use Rattle.hq_wire.specs.Exchanges.{with_refusals}
use Rattle.hq_sql_across.proofs.Cut.{unsent}
use Rattle.hq_sql_across.proofs.laws.unsent_round_is_under_way.Goals as goal

pub returns : goal.returns
returns g c = λ d old mid new asked replied asks rs firsts one open_ opened clean.
    unsent (with_refusals g.M.Memory.refused g.D.Acts.sight) d old mid new asked replied asks rs
    firsts one (one.stays_open open_) opened clean open_

use Rattle.hq_wire.specs.Exchanges.{with_refusals}
use Rattle.hq_sql_across.proofs.Cut.{cut}
use Rattle.hq_sql_across.proofs.laws.cut_rounds_are_a_session.Goals as goal

pub returns : goal.returns
returns g c = λ d old mid new asked replied asks rs firsts one open_ opened clean.
    cut (with_refusals g.M.Memory.refused g.D.Acts.sight) d old mid new asked replied asks rs firsts
    one open_ opened clean

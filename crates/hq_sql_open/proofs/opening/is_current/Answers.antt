use Rattle.std.proofs.Common.{sym, subst}
use Rattle.sqlite.specs.Held.{state}
use Rattle.hq_sql_open.specs.Opening.{ShowsOne}
use Rattle.hq_sql_open.proofs.Current.{tells_one}
use Rattle.hq_sql_open.proofs.opening.is_current.Goals as goal

pub returns-clause-found : goal.returns-clause-found
returns-clause-found g c clean has =
    tells_one (state g.S.Store c.args.conn.now) (state g.S.Store c.versions.new.conn)
    c.in_ok-rows.rows.items c.is_one.result (c.in_ok-rows.ensures.found clean has)
    (λ yes. subst ShowsOne c.as_slice.ensures.value (c.is_one.ensures.0 yes))
    (λ is. c.is_one.ensures.1 (subst ShowsOne (sym c.as_slice.ensures.value) is))

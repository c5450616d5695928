use Rattle.std.proofs.Common.{sym, subst}
use Rattle.sqlite.specs.Held.{state}
use Rattle.hq_sql_open.specs.Migration.{ShowsVersion}
use Rattle.hq_sql_open.proofs.Versions.{tells}
use Rattle.hq_sql_open.proofs.version.is_first_version.Goals as goal

pub returns-clause-found : goal.returns-clause-found
returns-clause-found g c clean has =
    tells 1 (state g.S.Store c.args.conn.now) (state g.S.Store c.versions.new.conn)
    c.in_ok-rows.rows.items c.is_one.result (c.in_ok-rows.ensures.found clean has)
    (λ yes. subst (ShowsVersion 1) c.as_slice.ensures.value (c.is_one.ensures.0 yes))
    (λ is. c.is_one.ensures.1 (subst (ShowsVersion 1) (sym c.as_slice.ensures.value) is))

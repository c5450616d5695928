use Rattle.std.proofs.Common.{Ok}
use Rattle.sqlite.specs.Held.{state}
use Rattle.hq_keyed.proofs.Left.{query_left, left_keeps, on_err}
use Rattle.hq_sql_open.proofs.Versions.{version_shows, version_keeps}
use Rattle.hq_sql_open.proofs.version.versions.Goals as goal

pub returns-in_err-rows-clause-kept : goal.returns-in_err-rows-clause-kept
returns-in_err-rows-clause-kept g c = version_keeps _ _ _ c.in_err-rows.ensures.survives
    (λ clean has. on_err _ (left_keeps _ _
    (query_left _ _ _ _ _ (c.in_err-rows.ensures.err clean))))

pub returns-clause-found : goal.returns-clause-found
returns-clause-found g c clean has =
    version_shows (state g.S.Store c.args.conn.now) (state g.S.Store c.query_all.new.conn)
    c.in_ok-rows.rows.items has (c.in_ok-rows.ensures.ok clean)

pub returns-clause-kept : goal.returns-clause-kept
returns-clause-kept g c = version_keeps _ _ (Ok c.in_ok-rows.rows) c.in_ok-rows.ensures.survives
    (λ clean has. tt)

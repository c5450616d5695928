use Rattle.sqlite.specs.Held.{state}
use Rattle.hq_sql_across.proofs.Found.{begins}
use Rattle.hq_sql_across.proofs.laws.migration_begins_a_history.Goals as goal

pub returns : goal.returns
returns g c clean settled first =
    begins (state g.S.Store c.args.conn.now) (state g.S.Store c.migrate.new.conn)
    (c.migrate.ensures.stops settled first clean)

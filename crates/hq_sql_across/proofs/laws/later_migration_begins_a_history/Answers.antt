use Rattle.sqlite.specs.Held.{state}
use Rattle.hq_sql_across.proofs.Found.{upgraded}
use Rattle.hq_sql_across.proofs.laws.later_migration_begins_a_history.Goals as goal

pub returns : goal.returns
returns g c clean settled second =
    upgraded (state g.S.Store c.args.conn.now) (state g.S.Store c.migrate.new.conn)
    (c.migrate.ensures.later_stops settled second clean)

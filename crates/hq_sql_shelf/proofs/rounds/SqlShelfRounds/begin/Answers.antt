use Rattle.std.specs.Prelude.{⊤}
use Rattle.sqlite.specs.Held.{state}
use Rattle.hq_sql_shelf.proofs.Reading.{gave_up}
use Rattle.hq_sql_shelf.proofs.RoundEnds.{as_read, begins, stays_out}
use Rattle.hq_sql_shelf.proofs.rounds.SqlShelfRounds.begin.Goals as goal

pub returns-in-Ok-begin-clause-begun : goal.returns-in-Ok-begin-clause-begun
returns-in-Ok-begin-clause-begun g c =
    begins g.M.Memory.refused g.M.SqliteMemory.failed g.S.Store g.met.S.Store.settled c.args.self
    c.ready.new.self c.begin.new.conn _ _ c.sees_database.ensures c.in-Ok.ensures.kept
    c.in-Ok.ensures.open c.in-Ok.ensures.stops c.in-Ok-begin.ensures.begun
    c.in-Ok-begin.ensures.kept

pub returns-in-Err-clause-kept : goal.returns-in-Err-clause-kept
returns-in-Err-clause-kept g c =
    stays_out g.M.Memory.refused g.M.SqliteMemory.failed g.S.Store {X = ⊤} c.args.self
    c.give_up.new.self c.give_up.result
    (gave_up g.M.Memory.refused g.M.SqliteMemory.failed g.S.Store c.args.self c.ready.new.self _
    c.in-Ok.ensures.kept c.in-Ok.ensures.open c.in-Ok.ensures.stops c.begin.new.conn
    c.give_up.new.self c.in-Err.error c.give_up.result
    (as_read (state g.S.Store c.ready.new.self.conn) (state g.S.Store c.begin.new.conn)
    c.in-Err.error c.in-Err.ensures.kept) c.give_up.ensures.kept c.give_up.ensures.tally
    (c.give_up.ensures.cause c.in-Err.ensures.cause))

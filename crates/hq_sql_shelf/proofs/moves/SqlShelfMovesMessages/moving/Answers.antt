use Rattle.sqlite.specs.Held.{state}
use Rattle.hq_sql_shelf.specs.Shelf.{sight_over}
use Rattle.hq_sql_shelf.proofs.Moved.{keeps_more}
use Rattle.hq_sql_shelf.proofs.Reading.{answered, gave_up}
use Rattle.hq_sql_shelf.proofs.moves.SqlShelfMovesMessages.moving.Goals as goal

pub returns-in-Ok-clause-kept : goal.returns-in-Ok-clause-kept
returns-in-Ok-clause-kept g c = keeps_more g.N.Memory.refused
    (sight_over g.M.Memory.refused g.M.SqliteMemory.failed (state g.S.Store)) _ _ _
    (answered g.M.Memory.refused g.M.SqliteMemory.failed g.S.Store c.args.self.now c.ready.new.self
    _ c.in_ok-ready.ensures.kept
    c.in_ok-ready.ensures.open c.in_ok-ready.ensures.stops c.moving.new.conn _ _
    c.in-Ok.ensures.kept)

pub returns-in-Err-clause-kept : goal.returns-in-Err-clause-kept
returns-in-Err-clause-kept g c = keeps_more g.N.Memory.refused
    (sight_over g.M.Memory.refused g.M.SqliteMemory.failed (state g.S.Store)) _ _ _
    (gave_up g.M.Memory.refused g.M.SqliteMemory.failed g.S.Store c.args.self.now c.ready.new.self _
    c.in_ok-ready.ensures.kept
    c.in_ok-ready.ensures.open c.in_ok-ready.ensures.stops c.moving.new.conn c.give_up.new.self
    c.in-Err.error c.give_up.result c.in-Err.ensures.kept c.give_up.ensures.kept
    c.give_up.ensures.tally (c.give_up.ensures.cause c.in-Err.ensures.cause))

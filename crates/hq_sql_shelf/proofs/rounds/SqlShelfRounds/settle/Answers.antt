use Rattle.hq_sql_shelf.proofs.RoundEnds.{goes_back, leaves_all, stands}
use Rattle.hq_sql_shelf.proofs.rounds.SqlShelfRounds.settle.Goals as goal

pub returns-in-Ok : goal.returns-in-Ok
returns-in-Ok g c =
    stands g.M.Memory.refused g.M.SqliteMemory.failed g.S.Store g.met.S.Store.settled c.args.round
    c.commit.new.conn c.new-shelf.result c.args.faults _ c.if-over.false c.new-shelf.ensures
    c.sees_database.ensures c.sees_database-in-Ok.ensures c.in-Ok.ensures.done
    c.in-Ok.ensures.kept

pub returns-in-Err : goal.returns-in-Err
returns-in-Err g c =
    goes_back g.M.Memory.refused g.M.SqliteMemory.failed g.S.Store g.met.S.Store.settled
    c.args.round c.commit.new.conn c.go_back-in-Err.new.self c.args.faults
    c.sees_database.ensures c.sees_database-in-Err.ensures c.in-Err.ensures.kept.kept
    c.in-Err.ensures.kept.quiet
    (leaves_all g.M.Memory.refused g.M.SqliteMemory.failed g.S.Store g.met.S.Store.settled
    c.args.round c.commit.new.conn c.if-over.false c.in-Err.ensures.kept.stops)
    c.go_back-in-Err.ensures.kept c.go_back-in-Err.ensures.counted

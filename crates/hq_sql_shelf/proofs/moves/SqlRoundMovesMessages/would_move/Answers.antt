use Rattle.hq_sql_shelf.proofs.RoundCalls.{answered, failed}
use Rattle.hq_sql_shelf.proofs.moves.SqlRoundMovesMessages.would_move.Goals as goal

pub returns-in-Ok-clause-kept : goal.returns-in-Ok-clause-kept
returns-in-Ok-clause-kept g c = answered g.S.Store c.args.self.now c.ready.new.self
    c.in_ok-ready.ensures.same c.would_move.new.conn _ _ c.in-Ok.ensures.kept

pub returns-in-Err-clause-kept : goal.returns-in-Err-clause-kept
returns-in-Err-clause-kept g c = failed g.S.Store c.args.self.now c.ready.new.self
    c.in_ok-ready.ensures.same c.would_move.new.conn _ c.end.new.self c.end.result
    c.end.ensures.over c.end.ensures.told c.in-Err.ensures.kept

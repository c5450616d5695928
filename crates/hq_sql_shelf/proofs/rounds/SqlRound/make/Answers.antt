use Rattle.hq_sql_shelf.proofs.RoundCalls.{changed, made, unchanged}
use Rattle.hq_sql_shelf.proofs.rounds.SqlRound.make.Goals as goal

pub returns-in-Ok-clause-made : goal.returns-in-Ok-clause-made
returns-in-Ok-clause-made g c = made g.S.Store c.args.self.now c.ready.new.self
    c.in_ok-ready.ensures.same c.make.new.conn c.args.customer.now c.args.work.now
    c.in-Ok.ensures.made

pub returns-in-Ok-clause-kept : goal.returns-in-Ok-clause-kept
returns-in-Ok-clause-kept g c = changed g.S.Store c.args.self.now c.ready.new.self
    c.in_ok-ready.ensures.same c.make.new.conn c.args.customer.now c.args.work.now
    c.in-Ok.ensures.made c.in-Ok.ensures.kept

pub returns-in-Err-clause-kept : goal.returns-in-Err-clause-kept
returns-in-Err-clause-kept g c = unchanged g.S.Store c.args.self.now c.ready.new.self
    c.in_ok-ready.ensures.same c.make.new.conn c.end.new.self c.end.result c.end.ensures.over
    c.end.ensures.told c.in-Err.ensures.kept

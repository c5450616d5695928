use Rattle.std.proofs.Common.{Ok, Err}
use Rattle.sqlite.specs.Held.{state}
use Rattle.hq_sql_open.proofs.Statements.{fills, filled_keeps, filled_goes}
use Rattle.hq_sql_open.proofs.lifting.fill_holds.Goals as goal

pub returns-in_err-count-clause-kept : goal.returns-in_err-count-clause-kept
returns-in_err-count-clause-kept g c has within =
    let bound = c.bind-params.ensures in
    filled_keeps _ _ c.args.reason.now (Err _) has within
    (rw bound at c.in_err-count.ensures.survives) (rw bound at c.in_err-count.ensures.runs)

pub returns-clause-made : goal.returns-clause-made
returns-clause-made g c it clean =
    let bound = c.bind-params.ensures in
    fills (state g.S.Store c.args.conn.now) (state g.S.Store c.execute.new.conn) c.args.reason.now _
    it (rw bound at (c.in_ok-count.ensures.runs clean))

pub returns-clause-goes : goal.returns-clause-goes
returns-clause-goes g c has clean =
    let bound = c.bind-params.ensures in
    filled_goes (state g.S.Store c.args.conn.now) (state g.S.Store c.execute.new.conn)
    c.args.reason.now _ has (rw bound at (c.in_ok-count.ensures.runs clean))

pub returns-clause-kept : goal.returns-clause-kept
returns-clause-kept g c has within =
    let bound = c.bind-params.ensures in
    filled_keeps _ _ c.args.reason.now (Ok _) has within
    (rw bound at c.in_ok-count.ensures.survives) (rw bound at c.in_ok-count.ensures.runs)

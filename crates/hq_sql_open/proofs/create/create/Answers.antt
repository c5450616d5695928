use Rattle.std.proofs.Common.{Ok, Err}
use Rattle.sqlite.specs.Held.{state}
use Rattle.hq_sql_open.proofs.Making.{table_made, made_keeps}
use Rattle.hq_sql_open.proofs.create.create.Goals as goal

pub returns-in_err-execute-clause-kept : goal.returns-in_err-execute-clause-kept
returns-in_err-execute-clause-kept g c s table it has within =
    made_keeps _ _ s c.args.text.now table it has (Err _) within c.in_err-execute.ensures.survives
    c.in_err-execute.ensures.runs

pub returns-clause-made : goal.returns-clause-made
returns-clause-made g c s table it has clean =
    table_made (state g.S.Store c.args.conn.now) (state g.S.Store c.execute.new.conn) s
    c.args.text.now table it has _ (c.in_ok-execute.ensures.runs clean)

pub returns-clause-kept : goal.returns-clause-kept
returns-clause-kept g c s table it has within =
    made_keeps _ _ s c.args.text.now table it has (Ok _) within c.in_ok-execute.ensures.survives
    c.in_ok-execute.ensures.runs

use Rattle.std.proofs.Common.{Ok, Err}
use Rattle.sqlite.specs.Held.{state}
use Rattle.hq_sql_open.proofs.Current.{stamped, stamp_keeps}
use Rattle.hq_sql_open.proofs.opening.stamp.Goals as goal

pub returns-in_err-execute-clause-kept : goal.returns-in_err-execute-clause-kept
returns-in_err-execute-clause-kept g c has within =
    stamp_keeps _ _ (Err _) has within c.in_err-execute.ensures.survives
    c.in_err-execute.ensures.runs

pub returns-clause-made : goal.returns-clause-made
returns-clause-made g c has empty clean =
    stamped (state g.S.Store c.args.conn.now) (state g.S.Store c.execute.new.conn) _ has empty
    (c.in_ok-execute.ensures.runs clean)

pub returns-clause-kept : goal.returns-clause-kept
returns-clause-kept g c has within =
    stamp_keeps _ _ (Ok _) has within c.in_ok-execute.ensures.survives c.in_ok-execute.ensures.runs

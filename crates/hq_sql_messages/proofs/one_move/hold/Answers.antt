use Rattle.std.proofs.Common.{refl}
use Rattle.sqlite.specs.Held.{state}
use Rattle.hq_sql.proofs.Keeping.{write_done, write_failed}
use Rattle.hq_sql_messages.proofs.OnOneMove.{one_was_held}
use Rattle.hq_sql_messages.proofs.MoveTexts.{hold_one_text, hold_one_known}
use Rattle.hq_sql_messages.proofs.one_move.hold.Goals as goal

pub returns-in_err-execute-clause-kept : goal.returns-in_err-execute-clause-kept
returns-in_err-execute-clause-kept g c = write_failed _ _ hold_one_text _ _ hold_one_known refl
    c.in_err-execute.ensures.survives _ c.in_err-execute.ensures.runs

pub returns-clause-made : goal.returns-clause-made
returns-clause-made g c clean desk =
    one_was_held (state g.S.Store c.args.conn.now) (state g.S.Store c.execute.new.conn)
    (c.args.customer.now, c.args.serial) _ desk
    (rw c.message_key-params.ensures at (c.in_ok-execute.ensures.runs clean))

pub returns-clause-kept : goal.returns-clause-kept
returns-clause-kept g c = write_done _ _ hold_one_text _ _ hold_one_known refl
    c.in_ok-execute.ensures.survives _ c.in_ok-execute.ensures.runs

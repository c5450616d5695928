use Rattle.std.proofs.Common.{refl}
use Rattle.sqlite.specs.Held.{state}
use Rattle.hq_sql.proofs.Keeping.{write_done, write_failed}
use Rattle.hq_sql_messages.proofs.OnHolds.{hold_deleted}
use Rattle.hq_sql_messages.proofs.HoldTexts.{hold_delete_text, hold_delete_known}
use Rattle.hq_sql_messages.proofs.holds.remove.Goals as goal

pub returns-in_err-execute-clause-kept : goal.returns-in_err-execute-clause-kept
returns-in_err-execute-clause-kept g c = write_failed _ _ hold_delete_text _ _ hold_delete_known
    refl c.in_err-execute.ensures.survives _ c.in_err-execute.ensures.runs

pub returns-clause-made : goal.returns-clause-made
returns-clause-made g c clean desk =
    hold_deleted (state g.S.Store c.args.conn.now) (state g.S.Store c.execute.new.conn)
    (c.args.customer.now, c.args.key) _ desk
    (rw c.message_key-params.ensures at (c.in_ok-execute.ensures.runs clean))

pub returns-clause-kept : goal.returns-clause-kept
returns-clause-kept g c = write_done _ _ hold_delete_text _ _ hold_delete_known refl
    c.in_ok-execute.ensures.survives _ c.in_ok-execute.ensures.runs

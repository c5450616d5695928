use Rattle.std.proofs.Common.{refl}
use Rattle.sqlite.specs.Held.{state}
use Rattle.hq_rows.specs.Lookups.{message_row}
use Rattle.hq_sql.proofs.Keeping.{write_done, write_failed}
use Rattle.hq_sql_messages.proofs.MessageTexts.{message_insert_text, message_insert_known}
use Rattle.hq_sql_messages.proofs.OnMessages.{message_inserted}
use Rattle.hq_sql_messages.proofs.messages.insert.Goals as goal

pub returns-in_err-execute-clause-kept : goal.returns-in_err-execute-clause-kept
returns-in_err-execute-clause-kept g c = write_failed _ _ message_insert_text _ _
    message_insert_known refl c.in_err-execute.ensures.survives _ c.in_err-execute.ensures.runs

pub returns-clause-made : goal.returns-clause-made
returns-clause-made g c clean desk free =
    message_inserted (state g.S.Store c.args.conn.now) (state g.S.Store c.execute.new.conn)
    (message_row c.args.customer.now c.args.message.now) c.message-params.ensures.back _ desk
    free (rw c.message-params.ensures.columns at (c.in_ok-execute.ensures.runs clean))

pub returns-clause-kept : goal.returns-clause-kept
returns-clause-kept g c = write_done _ _ message_insert_text _ _ message_insert_known refl
    c.in_ok-execute.ensures.survives _ c.in_ok-execute.ensures.runs

use Rattle.std.proofs.Common.{refl}
use Rattle.sqlite.specs.Held.{state}
use Rattle.hq_sql.proofs.Keeping.{write_done, write_failed}
use Rattle.hq_sql_recipients.proofs.Texts.{recipient_insert_text, recipient_insert_known}
use Rattle.hq_sql_recipients.specs.Recipients.{recipient_row}
use Rattle.hq_sql_recipients.proofs.OnRecipients.{recipient_inserted}
use Rattle.hq_sql_recipients.proofs.recipients.insert.Goals as goal

pub returns-in_err-execute-clause-kept : goal.returns-in_err-execute-clause-kept
returns-in_err-execute-clause-kept g c = write_failed _ _ recipient_insert_text _ _
    recipient_insert_known refl c.in_err-execute.ensures.survives _ c.in_err-execute.ensures.runs

pub returns-clause-made : goal.returns-clause-made
returns-clause-made g c clean desk free =
    let bound = c.columns-params.ensures.columns in
    recipient_inserted (state g.S.Store c.args.conn.now) (state g.S.Store c.execute.new.conn)
    (recipient_row c.args.customer.now c.args.serial c.args.place c.args.recipient.now) _ desk
    c.columns-params.ensures.back free (rw bound at (c.in_ok-execute.ensures.runs clean))

pub returns-clause-kept : goal.returns-clause-kept
returns-clause-kept g c = write_done _ _ recipient_insert_text _ _ recipient_insert_known refl
    c.in_ok-execute.ensures.survives _ c.in_ok-execute.ensures.runs

use Rattle.std.proofs.Common.{refl}
use Rattle.sqlite.specs.Held.{state}
use Rattle.hq_rows.specs.Lookups.{message_row}
use Rattle.hq_sql.proofs.Keeping.{write_done, write_failed}
use Rattle.hq_sql_messages.proofs.MessageTexts.{sized_update_text, sized_update_known}
use Rattle.hq_sql_messages.proofs.OnMessages.{sized_updated}
use Rattle.hq_sql_messages.proofs.messages.update_of_size.Goals as goal

pub returns-in_err-changed-clause-kept : goal.returns-in_err-changed-clause-kept
returns-in_err-changed-clause-kept g c = write_failed _ _ sized_update_text _ _ sized_update_known
    refl c.in_err-changed.ensures.survives _ c.in_err-changed.ensures.runs

pub returns-clause-made : goal.returns-clause-made
returns-clause-made g c clean desk =
    sized_updated (state g.S.Store c.args.conn.now) (state g.S.Store c.execute.new.conn)
    (message_row c.args.customer.now c.args.message.now) c.message-params.ensures.back _ desk
    (rw c.message-params.ensures.columns at (c.in_ok-changed.ensures.runs clean))

pub returns-clause-kept : goal.returns-clause-kept
returns-clause-kept g c = write_done _ _ sized_update_text _ _ sized_update_known refl
    c.in_ok-changed.ensures.survives _ c.in_ok-changed.ensures.runs

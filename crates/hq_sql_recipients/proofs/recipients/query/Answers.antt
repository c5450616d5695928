use Rattle.sqlite.specs.Held.{state}
use Rattle.hq_sql.proofs.Keeping.{query_failed, query_answered}
use Rattle.hq_sql_recipients.proofs.Texts.{recipients_read_text, recipients_read_known}
use Rattle.hq_sql_recipients.proofs.OnRecipients.{recipients_shown}
use Rattle.hq_sql_recipients.proofs.recipients.query.Goals as goal

pub returns-in_err-rows-clause-kept : goal.returns-in_err-rows-clause-kept
returns-in_err-rows-clause-kept g c =
    query_failed _ _ recipients_read_text _ recipients_read_known.plain
    c.in_err-rows.ensures.survives _ _ c.from_residual.ensures.0 c.in_err-rows.ensures.err

pub returns-clause-found : goal.returns-clause-found
returns-clause-found g c clean desk =
    recipients_shown (state g.S.Store c.args.conn.now) (state g.S.Store c.query_all.new.conn)
    c.args.customer.now c.args.serial c.in_ok-rows.rows.items desk
    (rw c.message_key-params.ensures at (c.in_ok-rows.ensures.ok clean))

pub returns-clause-kept : goal.returns-clause-kept
returns-clause-kept g c = query_answered _ _ recipients_read_text _ recipients_read_known.plain
    c.in_ok-rows.ensures.survives c.in_ok-rows.rows.items _ c.in_ok-rows.ensures.ok

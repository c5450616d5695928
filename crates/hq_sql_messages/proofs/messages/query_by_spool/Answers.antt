use Rattle.sqlite.specs.Held.{state}
use Rattle.hq_sql.proofs.Keeping.{query_failed, query_answered}
use Rattle.hq_sql_messages.proofs.MessageTexts.{spool_read_text, spool_read_known}
use Rattle.hq_sql_messages.proofs.OnMessages.{spool_shown}
use Rattle.hq_sql_messages.proofs.messages.query_by_spool.Goals as goal

pub returns-in_err-rows-clause-kept : goal.returns-in_err-rows-clause-kept
returns-in_err-rows-clause-kept g c = query_failed _ _ spool_read_text _ spool_read_known.plain
    c.in_err-rows.ensures.survives _ _ c.from_residual.ensures.0 c.in_err-rows.ensures.err

pub returns-clause-found : goal.returns-clause-found
returns-clause-found g c clean desk =
    spool_shown (state g.S.Store c.args.conn.now) (state g.S.Store c.query_all.new.conn)
    c.args.customer.now c.args.spool.now c.in_ok-rows.rows.items desk
    (rw c.spool-params.ensures at (c.in_ok-rows.ensures.ok clean))

pub returns-clause-kept : goal.returns-clause-kept
returns-clause-kept g c = query_answered _ _ spool_read_text _ spool_read_known.plain
    c.in_ok-rows.ensures.survives c.in_ok-rows.rows.items _ c.in_ok-rows.ensures.ok

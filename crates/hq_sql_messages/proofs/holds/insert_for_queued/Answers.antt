use Rattle.std.proofs.Common.{refl}
use Rattle.sqlite.specs.Held.{state}
use Rattle.hq_sql.proofs.Keeping.{insert_tried, write_failed}
use Rattle.hq_sql_messages.proofs.OnQueued.{reasons_added}
use Rattle.hq_sql_messages.proofs.MoveTexts.{reasoned_text, reasoned_known}
use Rattle.hq_sql_messages.proofs.holds.insert_for_queued.Goals as goal

pub returns-in_err-had-clause-kept : goal.returns-in_err-had-clause-kept
returns-in_err-had-clause-kept g c = write_failed _ _ reasoned_text _ _ reasoned_known
    refl c.in_err-had.ensures.survives _ (λ clean. (c.in_err-had.ensures.runs clean).0)

pub returns-clause-made : goal.returns-clause-made
returns-clause-made g c clean desk =
    reasons_added (state g.S.Store c.args.conn.now) (state g.S.Store c.try_insert.new.conn)
    c.args.customer.now c.args.reason.now desk _ _
    c.reasoned-params.ensures (c.in_ok-had.ensures.runs clean)

pub returns-clause-kept : goal.returns-clause-kept
returns-clause-kept g c = insert_tried _ _ reasoned_text _ _ reasoned_known refl
    c.in_ok-had.ensures.survives _ c.in_ok-had.ensures.runs

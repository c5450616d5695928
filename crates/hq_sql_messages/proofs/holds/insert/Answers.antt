use Rattle.std.proofs.Common.{refl}
use Rattle.sqlite.specs.Held.{state}
use Rattle.hq_sql.proofs.Keeping.{insert_tried, write_failed}
use Rattle.hq_sql_messages.specs.Holds.{hold_row}
use Rattle.hq_sql_messages.proofs.OnHolds.{hold_added}
use Rattle.hq_sql_messages.proofs.HoldTexts.{hold_insert_text, hold_insert_known}
use Rattle.hq_sql_messages.proofs.holds.insert.Goals as goal

pub returns-in_err-there-clause-kept : goal.returns-in_err-there-clause-kept
returns-in_err-there-clause-kept g c = write_failed _ _ hold_insert_text _ _ hold_insert_known
    refl c.in_err-there.ensures.survives _ (λ clean. (c.in_err-there.ensures.runs clean).0)

pub returns-clause-made : goal.returns-clause-made
returns-clause-made g c clean desk =
    hold_added (state g.S.Store c.args.conn.now) (state g.S.Store c.try_insert.new.conn)
    (hold_row c.args.customer.now c.args.key c.args.reason.now) _ _ desk c.hold-params.ensures
    (c.in_ok-there.ensures.runs clean)

pub returns-clause-kept : goal.returns-clause-kept
returns-clause-kept g c = insert_tried _ _ hold_insert_text _ _ hold_insert_known refl
    c.in_ok-there.ensures.survives _ c.in_ok-there.ensures.runs

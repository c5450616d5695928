use Rattle.std.proofs.Common.{refl}
use Rattle.sqlite.specs.Held.{state}
use Rattle.hq_sql.proofs.Keeping.{insert_tried, write_failed}
use Rattle.hq_sql_lines.specs.Marks.{mark_row}
use Rattle.hq_sql_lines.proofs.OnMarks.{mark_added}
use Rattle.hq_sql_lines.proofs.MarkTexts.{mark_insert_text, mark_insert_known}
use Rattle.hq_sql_lines.proofs.marks.insert.Goals as goal

pub returns-in_err-there-clause-kept : goal.returns-in_err-there-clause-kept
returns-in_err-there-clause-kept g c = write_failed _ _ mark_insert_text _ _ mark_insert_known
    refl c.in_err-there.ensures.survives _ (λ clean. (c.in_err-there.ensures.runs clean).0)

pub returns-clause-made : goal.returns-clause-made
returns-clause-made g c clean desk =
    mark_added (state g.S.Store c.args.conn.now) (state g.S.Store c.try_insert.new.conn)
    (mark_row c.args.customer.now c.args.mark.now) _ _ desk
    (c.mark-params.ensures c.in_ok-numbers.ensures) (c.in_ok-there.ensures.runs clean)

pub returns-clause-kept : goal.returns-clause-kept
returns-clause-kept g c = insert_tried _ _ mark_insert_text _ _ mark_insert_known refl
    c.in_ok-there.ensures.survives _ c.in_ok-there.ensures.runs

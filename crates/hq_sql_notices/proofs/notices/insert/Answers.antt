use Rattle.std.proofs.Common.{refl}
use Rattle.sqlite.specs.Held.{state}
use Rattle.hq_sql.proofs.Keeping.{insert_tried, write_failed}
use Rattle.hq_sql_notices.specs.Notices.{notice_row}
use Rattle.hq_sql_notices.proofs.OnNotices.{notice_added}
use Rattle.hq_sql_notices.proofs.NoticeTexts.{notice_insert_text, notice_insert_known}
use Rattle.hq_sql_notices.proofs.notices.insert.Goals as goal

pub returns-in_err-there-clause-kept : goal.returns-in_err-there-clause-kept
returns-in_err-there-clause-kept g c = write_failed _ _ notice_insert_text _ _ notice_insert_known
    refl c.in_err-there.ensures.survives _ (λ clean. (c.in_err-there.ensures.runs clean).0)

pub returns-clause-made : goal.returns-clause-made
returns-clause-made g c clean desk =
    notice_added (state g.S.Store c.args.conn.now) (state g.S.Store c.try_insert.new.conn)
    (notice_row c.args.customer.now c.args.notice.now) _ _ desk
    (c.notice-params.ensures c.in_ok-numbers.ensures) (c.in_ok-there.ensures.runs clean)

pub returns-clause-kept : goal.returns-clause-kept
returns-clause-kept g c = insert_tried _ _ notice_insert_text _ _ notice_insert_known refl
    c.in_ok-there.ensures.survives _ c.in_ok-there.ensures.runs

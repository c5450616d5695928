use Rattle.std.proofs.Common.{ap, ◌++◌, ◌∙◌}
use Rattle.sqlite.specs.Held.{state}
use Rattle.hq_sql.proofs.Keeping.{keeps_ok, keeps_err}
use Rattle.hq_sql.proofs.Walking.{pushed_all}
use Rattle.hq_sql_notices.specs.Notices.{notice_in, notices_in}
use Rattle.hq_sql_notices.specs.declared.notice_pages.TakenNotices.{TakenNotices}
use Rattle.hq_sql_notices.proofs.OnNotices.{page_shown}
use Rattle.hq_sql_notices.proofs.NoticeTexts.{notice_page_known}
use Rattle.hq_sql_notices.proofs.notice_pages.page.Goals as goal

pub returns-in_err-taken-clause-kept : goal.returns-in_err-taken-clause-kept
returns-in_err-taken-clause-kept g c = keeps_err _ _ _ _ c.from_residual-in_err-taken.ensures.0
    (c.in_err-taken.ensures.kept (record { plain = notice_page_known.plain }))

pub returns-clause-found : goal.returns-clause-found
returns-clause-found g c clean desk =
    let all = rw
    (c.page-params.ensures c.args.limit c.args.after c.in_ok-most.ensures c.in_ok-from.ensures)
    at (c.in_ok-taken.ensures.found (record { plain = notice_page_known.plain }) clean desk) in
    c.from_vec.ensures ∙ pushed_all (λ (it : TakenNotices). it.notices.items) notice_in all.rows _
    c.in_ok-taken.taken all.taken
    ∙ ap (λ l. l ++ notices_in all.rows) c.none-notices.ensures.items
    ∙ page_shown (state g.S.Store c.args.conn.now) (state g.S.Store c.walk.new.conn)
    c.args.customer.now c.args.after c.args.limit all.rows desk all.shown

pub returns-clause-kept : goal.returns-clause-kept
returns-clause-kept g c = keeps_ok _ _ c.in_ok-taken.taken _
    (c.in_ok-taken.ensures.kept (record { plain = notice_page_known.plain }))

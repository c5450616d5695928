use Rattle.sqlite.specs.Held.{state}
use Rattle.hq_sql.specs.Tables.{tables_in}
use Rattle.hq_sql.proofs.Keeping.{keeps_ok, keeps_err}
use Rattle.hq_sql_queue.proofs.Texts.{holds_between_known}
use Rattle.hq_sql_queue.proofs.Between.{reasons_shown}
use Rattle.hq_sql_queue.proofs.Parts.{reasons_given}
use Rattle.hq_sql_queue.proofs.page_parts.reasons.Goals as goal

pub returns-in_err-given-clause-kept : goal.returns-in_err-given-clause-kept
returns-in_err-given-clause-kept g c = keeps_err _ _ _ _ c.from_residual.ensures.0
    (c.in_err-given.ensures.kept (record { plain = holds_between_known.plain }))

pub returns-clause-found : goal.returns-clause-found
returns-clause-found g c spans rise clean desk =
    let old = state g.S.Store c.args.conn.now in
    let all = c.in_ok-given.ensures.found (record { plain = holds_between_known.plain }) clean
    desk in
    reasons_given c.args.customer.now c.args.low c.args.high (tables_in old.now)
    c.args.page.items c.in_ok-given.given.items all.rows rise spans
    (reasons_shown old (state g.S.Store c.deal.new.conn) c.args.customer.now c.args.low
    c.args.high all.rows desk all.shown) (all.dealt rise)

pub returns-clause-kept : goal.returns-clause-kept
returns-clause-kept g c = keeps_ok _ _ c.in_ok-given.given _
    (c.in_ok-given.ensures.kept (record { plain = holds_between_known.plain }))

use Rattle.std.proofs.Common.{ap, map, ◌++◌, ◌∙◌}
use Rattle.sqlite.specs.Held.{state}
use Rattle.hq_sql.proofs.Keeping.{keeps_ok, keeps_err}
use Rattle.hq_sql_messages.proofs.MessageTexts.{message_due_known}
use Rattle.hq_sql.proofs.Walking.{pushed_all}
use Rattle.hq_sql_messages.specs.declared.messages.TakenMessages.{TakenMessages}
use Rattle.hq_sql_messages.specs.Messages.{bare}
use Rattle.hq_sql_messages.proofs.OnMessages.{due_shown}
use Rattle.hq_sql_messages.proofs.OnMessages.{page_bare}
use Rattle.hq_sql_messages.proofs.messages.due.Goals as goal

pub returns-in_err-taken-clause-kept : goal.returns-in_err-taken-clause-kept
returns-in_err-taken-clause-kept g c = keeps_err _ _ _ _ c.from_residual-in_err-taken.ensures.0
    (c.in_err-taken.ensures.kept (record { plain = message_due_known.plain }))

pub returns-clause-found : goal.returns-clause-found
returns-clause-found g c clean desk =
    let old = state g.S.Store c.args.conn.now in
    let all = rw (c.due-params.ensures c.args.limit c.in_ok-most.ensures) at
    (c.in_ok-taken.ensures.found (record { plain = message_due_known.plain }) clean desk) in
    pushed_all (λ (it : TakenMessages). it.page.items) bare all.rows _ c.in_ok-taken.taken all.taken
    ∙ ap (λ l. l ++ map bare all.rows) c.none-page.ensures.items
    ∙ page_bare all.rows _
    (due_shown old (state g.S.Store c.walk.new.conn) c.args.customer.now c.args.at c.args.after
    c.args.limit all.rows desk all.shown)

pub returns-clause-kept : goal.returns-clause-kept
returns-clause-kept g c = keeps_ok _ _ c.in_ok-taken.taken _
    (c.in_ok-taken.ensures.kept (record { plain = message_due_known.plain }))

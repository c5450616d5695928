use Rattle.std.proofs.Common.{ap, map, ◌++◌, ◌∙◌}
use Rattle.sqlite.specs.Held.{state}
use Rattle.hq_sql.specs.Rows.{message_shown}
use Rattle.hq_sql.proofs.Keeping.{keeps_ok, keeps_err}
use Rattle.hq_sql.proofs.Walking.{pushed_all}
use Rattle.hq_sql_messages.specs.declared.moves.TakenSerials.{TakenSerials}
use Rattle.hq_sql_messages.proofs.MoveTexts.{held_known}
use Rattle.hq_sql_messages.proofs.OnMoves.{held_shown}
use Rattle.hq_sql_messages.proofs.moves.held.Goals as goal

pub returns-in_err-taken-clause-kept : goal.returns-in_err-taken-clause-kept
returns-in_err-taken-clause-kept g c = keeps_err _ _ _ _ c.from_residual.ensures.0
    (c.in_err-taken.ensures.kept (record { plain = held_known.plain }))

pub returns-clause-found : goal.returns-clause-found
returns-clause-found g c clean desk =
    let old = state g.S.Store c.args.conn.now in
    let all = rw c.customer-params.ensures at
    (c.in_ok-taken.ensures.found (record { plain = held_known.plain }) clean desk) in
    pushed_all (λ (it : TakenSerials). it.serials.items) (λ r. (message_shown r).serial) all.rows _
    c.in_ok-taken.taken all.taken
    ∙ ap (λ l. l ++ map (λ r. (message_shown r).serial) all.rows) c.none-serials.ensures.items
    ∙ held_shown old (state g.S.Store c.walk.new.conn) c.args.customer.now all.rows desk all.shown

pub returns-clause-kept : goal.returns-clause-kept
returns-clause-kept g c = keeps_ok _ _ c.in_ok-taken.taken _
    (c.in_ok-taken.ensures.kept (record { plain = held_known.plain }))

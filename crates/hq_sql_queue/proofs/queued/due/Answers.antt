use Rattle.std.proofs.Common.{List, map, length, refl, ap, sym, subst, ◌∙◌}
use Rattle.sqlite.specs.Held.{state}
use Rattle.hq_kept.specs.declared.message.Message.{Message}
use Rattle.hq_sql.specs.Tables.{tables_in}
use Rattle.hq_sql_queue.specs.Dealt.{Rise, serials_of}
use Rattle.hq_sql_queue.specs.Parts.{with_parts}
use Rattle.hq_sql_queue.proofs.OnQueued.{none_dealt, due_rises, due_whole, finds_both}
use Rattle.hq_sql_queue.proofs.OnQueued.{first_found, spans_kept}
use Rattle.hq_sql_queue.proofs.queued.due.Goals as goal

pub returns-in-None-clause-found : goal.returns-in-None-clause-found
returns-in-None-clause-found g c clean desk =
    let t = tables_in (state g.S.Store c.args.conn.now).now in
    let none = ap length (sym c.as_slice.ensures.value) ∙ c.in-None.ensures.none refl in
    c.from_vec.ensures ∙ none_dealt (with_parts c.args.customer.now t) c.in_ok-page.page.items none
    ∙ ap (map (with_parts c.args.customer.now t)) (c.in_ok-page.ensures.found clean desk)
    ∙ due_whole c.args.customer.now t c.args.at c.args.after c.args.limit

pub returns-in_ok-filled-in-Some-clause-found : goal.returns-in_ok-filled-in-Some-clause-found
returns-in_ok-filled-in-Some-clause-found g c clean desk =
    let old = state g.S.Store c.args.conn.now in
    let between = state g.S.Store c.due.new.conn in
    let new = state g.S.Store c.filled.new.conn in
    let t = tables_in old.now in
    let first = c.in_ok-page.ensures.kept in
    let second = c.in_ok-filled-in-Some.ensures.kept in
    let bare = first_found old between new _ _ first second c.in_ok-page.ensures.found clean desk in
    let rise = subst (λ (page : List Message). Rise (serials_of page)) (sym bare)
    (due_rises c.args.customer.now c.args.at c.args.after c.args.limit t) in
    c.from_vec-in-Some.ensures
    ∙ finds_both old between new _ _ first second
    (λ t. map (with_parts c.args.customer.now t) c.in_ok-page.page.items)
    (λ filled. filled.items) (c.in_ok-filled-in-Some.ensures.found
    (spans_kept _ _ _ _ (sym (ap serials_of c.as_slice.ensures.value)) c.in-Some.ensures.some)
    rise) clean desk
    ∙ ap (map (with_parts c.args.customer.now t)) bare
    ∙ due_whole c.args.customer.now t c.args.at c.args.after c.args.limit

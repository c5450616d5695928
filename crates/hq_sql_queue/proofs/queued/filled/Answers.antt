use Rattle.std.proofs.Common.{map, ap, sym, subst, ◌∙◌}
use Rattle.sqlite.specs.Held.{state}
use Rattle.sqlite_keyed.proofs.ListLemmas.{map-map}
use Rattle.hq_sql.specs.Tables.{tables_in}
use Rattle.hq_sql_queue.specs.Dealt.{Rise}
use Rattle.hq_sql_queue.specs.Parts.{with_dealt, with_held}
use Rattle.hq_sql_queue.proofs.OnQueued.{spans_kept, dealt_serials, finds_both, first_found}
use Rattle.hq_sql_queue.proofs.queued.filled.Goals as goal

pub returns-clause-found : goal.returns-clause-found
returns-clause-found g c spans rise clean desk =
    let old = state g.S.Store c.args.conn.now in
    let between = state g.S.Store c.recipients.new.conn in
    let new = state g.S.Store c.reasons.new.conn in
    let t = tables_in old.now in
    let customer = c.args.customer.now in
    let page = c.args.page.items in
    let first = c.in_ok-dealt.ensures.kept in
    let second = c.in_ok-given.ensures.kept in
    let dealt = first_found old between new _ _ first second
    (c.in_ok-dealt.ensures.found spans rise) clean desk in
    let same = dealt_serials customer t page c.in_ok-dealt.dealt.items dealt in
    finds_both old between new _ _ first second
    (λ t. map (with_held customer t) c.in_ok-dealt.dealt.items) (λ given. given.items)
    (c.in_ok-given.ensures.found (spans_kept page c.in_ok-dealt.dealt.items c.args.low
    c.args.high same spans) (subst Rise (sym same) rise)) clean desk
    ∙ ap (map (with_held customer t)) dealt
    ∙ map-map (with_held customer t) (with_dealt customer t) page

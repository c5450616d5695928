use Rattle.std.proofs.Common.{Some, slice_get, option_map, ap, ◌∙◌}
use Rattle.sqlite.specs.Held.{state}
use Rattle.hq_sql.specs.Tables.{tables_in}
use Rattle.hq_sql_queue.specs.Queued.{whole}
use Rattle.hq_sql_queue.proofs.OnQueued.{spool_whole, finds_both, first_found}
use Rattle.hq_sql_queue.proofs.queued.by_spool.Goals as goal

pub returns-in-None-clause-found : goal.returns-in-None-clause-found
returns-in-None-clause-found g c clean desk =
    let t = tables_in (state g.S.Store c.args.conn.now).now in
    ap (option_map (whole c.args.customer.now t)) (c.in-None.ensures.value
    ∙ ap (λ rows. slice_get rows 0) c.as_slice.ensures.value)
    ∙ spool_whole c.args.customer.now t c.args.spool.now c.in_ok-rows.rows.items
    (c.in_ok-rows.ensures.found clean desk)

pub returns-clause-found : goal.returns-clause-found
returns-clause-found g c clean desk =
    let old = state g.S.Store c.args.conn.now in
    let t = tables_in old.now in
    let first = c.in_ok-rows.ensures.kept in
    let second = c.in_ok-message-in-Some.ensures.kept in
    let is = finds_both old (state g.S.Store c.query_by_spool.new.conn)
    (state g.S.Store c.whole.new.conn) _ _ first second
    (λ t. whole c.args.customer.now t c.in-Some.row.now) (λ m. m)
    c.in_ok-message-in-Some.ensures.found clean desk in
    let found = first_found old (state g.S.Store c.query_by_spool.new.conn)
    (state g.S.Store c.whole.new.conn) _ _ first second c.in_ok-rows.ensures.found clean desk in
    ap Some is ∙ ap (option_map (whole c.args.customer.now t)) (c.in-Some.ensures.value
    ∙ ap (λ rows. slice_get rows 0) c.as_slice.ensures.value)
    ∙ spool_whole c.args.customer.now t c.args.spool.now c.in_ok-rows.rows.items found

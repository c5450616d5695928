use Rattle.sqlite.specs.Held.{state}
use Rattle.hq_tables.specs.Tables.{reason_of}
use Rattle.hq_sql_queue.proofs.OnQueued.{finds_both, first_found}
use Rattle.hq_sql_queue.proofs.queued.parts.Goals as goal

pub returns-clause-found : goal.returns-clause-found
returns-clause-found g c clean desk =
    let old = state g.S.Store c.args.conn.now in
    let between = state g.S.Store c.pending.new.conn in
    let new = state g.S.Store c.reason.new.conn in
    let first = c.in_ok-pending.ensures.kept in
    let second = c.in_ok-reason.ensures.kept in
    let pending = first_found old between new _ _ first second c.in_ok-pending.ensures.found clean
    desk in
    let reason = finds_both old between new _ _ first second
    (λ t. reason_of c.args.customer.now c.args.serial t.holds) (λ r. r)
    c.in_ok-reason.ensures.found clean desk in
    λ i. (pending i, reason i)

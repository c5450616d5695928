use Rattle.std.proofs.Common.{◌≡◌, ◌+◌, length, Some, slice_get, refl, ap, ◌∙◌, subst, sym, rules}
use Rattle.sqlite.specs.Held.{state}
use Rattle.std.specs.List.{list_any}
use Rattle.std.proofs.lemmas.Option.{slice_get-get_or}
use Rattle.sqlite.specs.State.{HasCleanDisk}
use Rattle.hq_sql.specs.Rows.{recipient_shown}
use Rattle.hq_sql.specs.Tables.{IsDesk, Leaves, tables_in}
use Rattle.hq_sql.specs.Kept.{KeepsCommitted}
use Rattle.hq_sql_recipients.specs.Places.{is_far, StandsAfter}
use Rattle.hq_sql_recipients.specs.Recipients.{without_beside, with_pending}
use Rattle.hq_sql_recipients.proofs.Loop.{Placed, no_rows, begun, skipped, stepped, kept_on, ended}
use Rattle.hq_sql_recipients.proofs.Loop.{dropped}
use Rattle.hq_sql_recipients.proofs.recipients.put.Goals.{then-not-is_there+in_ok-put_at}
use Rattle.hq_sql_recipients.proofs.recipients.put.Goals.{else-not-is_there}
use Rattle.hq_sql_recipients.proofs.recipients.put.Goals.{then-branch+in_ok-drop_beside}
use Rattle.hq_sql_recipients.proofs.recipients.put.Goals.{else-branch}
use Rattle.hq_sql_recipients.proofs.recipients.put.Goals as goal

pub loop-recipient-init : goal.loop-recipient-init
loop-recipient-init g c = record {
  last = refl;
  placed = begun (state g.S.Store c.args.conn.now) (state g.S.Store c.query.new.conn)
      c.args.customer.now c.args.serial c.args.pending.now c.in_ok-rows.rows.items c.in_ok-rows.rows
      c.in_ok-rows.ensures.found c.in_ok-rows.ensures.kept;
}

pub returns-in_err-is_there-clause-kept : goal.returns-in_err-is_there-clause-kept
returns-in_err-is_there-clause-kept g c = c.loop-recipient.invariant.placed.kept

pub overflow_add-last : goal.overflow_add-last
overflow_add-last g c = search rules

pub returns-in_err-put_at-clause-kept : goal.returns-in_err-put_at-clause-kept
returns-in_err-put_at-clause-kept g c = kept_on (state g.S.Store c.args.conn.now)
    (state g.S.Store c.loop-recipient.conn) _ _ _ _ _ c.loop-recipient.invariant.placed
    (state g.S.Store c.put_at.new.conn) c.put_at.ensures.kept

pub loop-recipient-preserved : goal.loop-recipient-preserved
loop-recipient-preserved g c =
    let item : slice_get c.args.pending.now c.loop-recipient.last ≡ Some c.recipient-item.result =
    subst (λ n. slice_get c.args.pending.now n ≡ Some c.recipient-item.result)
    (sym c.loop-recipient.invariant.last)
    (slice_get-get_or c.args.pending.now c.loop-recipient.recipient-index
    c.recipient-item.result c.loop-recipient-test.true ∙ ap Some (sym c.recipient-item.is)) in
    elim c.if-not-is_there.branch [
      | then-not-is_there+in_ok-put_at w ↦ record {
        last = ap (λ n. n + 1) c.loop-recipient.invariant.last;
        placed = subst (λ conn. Placed (state g.S.Store c.args.conn.now) (state g.S.Store conn)
            c.args.customer.now c.args.serial c.args.pending.now c.in_ok-rows.rows.items
            (c.loop-recipient.last + 1)) (sym w.conn-is)
            (stepped (state g.S.Store c.args.conn.now) (state g.S.Store c.loop-recipient.conn)
            c.args.customer.now c.args.serial c.args.pending.now c.in_ok-rows.rows.items
            c.loop-recipient.last c.loop-recipient.invariant.placed
            (state g.S.Store w.put_at.new.conn) w.put_at.ensures.kept c.recipient-item.result
            item _ (λ yes. sym c.as_slice.ensures.value
            ∙ no_rows c.as_slice.result.now (sym c.is_empty-are_free.ensures ∙ yes))
            w.in_ok-put_at.ensures.made);
      }
      | else-not-is_there w ↦ record {
        last = ap (λ n. n + 1) c.loop-recipient.invariant.last;
        placed = subst (λ conn. Placed (state g.S.Store c.args.conn.now) (state g.S.Store conn)
            c.args.customer.now c.args.serial c.args.pending.now c.in_ok-rows.rows.items
            (c.loop-recipient.last + 1)) (sym w.conn-is)
            (skipped (state g.S.Store c.args.conn.now) (state g.S.Store c.loop-recipient.conn)
            c.args.customer.now c.args.serial c.args.pending.now c.in_ok-rows.rows.items
            c.loop-recipient.last c.loop-recipient.invariant.placed c.recipient-item.result item
            (subst (λ rows. StandsAfter rows c.loop-recipient.last c.recipient-item.result)
            c.as_slice-in-loop-recipient.ensures.value
            (c.in_ok-is_there.ensures.0 w.if-not-is_there.false)));
      }
    ]

pub returns-in_err-are_beside-clause-kept : goal.returns-in_err-are_beside-clause-kept
returns-in_err-are_beside-clause-kept g c = c.loop-recipient.invariant.placed.kept

pub returns-in_err-drop_beside-clause-kept : goal.returns-in_err-drop_beside-clause-kept
returns-in_err-drop_beside-clause-kept g c =
    kept_on (state g.S.Store c.args.conn.now) (state g.S.Store c.loop-recipient.conn) _ _ _ _ _
    c.loop-recipient.invariant.placed (state g.S.Store c.drop_beside.new.conn)
    c.drop_beside.ensures.kept

pub returns-clause-made : goal.returns-clause-made
returns-clause-made g c =
    let end : c.loop-recipient.last ≡ length c.args.pending.now = search rules in
    let old = state g.S.Store c.args.conn.now in
    let ps = c.args.pending.now in
    let it = subst (Placed old (state g.S.Store c.loop-recipient.conn) c.args.customer.now
    c.args.serial ps c.in_ok-rows.rows.items) end c.loop-recipient.invariant.placed in
    elim c.if-branch.branch [
      | then-branch+in_ok-drop_beside w ↦ subst (λ conn. HasCleanDisk (state g.S.Store conn) →
          IsDesk old.now → Leaves old (state g.S.Store conn)
          (with_pending c.args.customer.now c.args.serial ps (tables_in old.now))) (sym w.conn-is)
          (dropped old (state g.S.Store c.loop-recipient.conn) c.args.customer.now c.args.serial ps
          c.in_ok-rows.rows.items it (state g.S.Store w.drop_beside.new.conn)
          w.drop_beside.ensures.kept
          (subst (λ n. HasCleanDisk (state g.S.Store w.drop_beside.new.conn) →
          IsDesk (state g.S.Store c.loop-recipient.conn).now →
          Leaves (state g.S.Store c.loop-recipient.conn)
          (state g.S.Store w.drop_beside.new.conn)
          (without_beside c.args.customer.now c.args.serial n
          (tables_in (state g.S.Store c.loop-recipient.conn).now))) c.in_ok-count.ensures
          w.in_ok-drop_beside.ensures.made))
      | else-branch w ↦ subst (λ conn. HasCleanDisk (state g.S.Store conn) → IsDesk old.now →
          Leaves old (state g.S.Store conn)
          (with_pending c.args.customer.now c.args.serial ps (tables_in old.now))) (sym w.conn-is)
          (ended old (state g.S.Store c.loop-recipient.conn) c.args.customer.now c.args.serial ps
          c.in_ok-rows.rows.items it
          ((λ i. list_any (λ r. is_far (sym c.in_ok-count.ensures i) (recipient_shown r).place)
          (sym c.as_slice-2.ensures.value i)) ∙ sym c.in_ok-are_beside.ensures
          ∙ w.if-branch.false))
    ]

pub returns-clause-kept : goal.returns-clause-kept
returns-clause-kept g c =
    elim c.if-branch.branch [
      | then-branch+in_ok-drop_beside w ↦ subst
          (λ conn. KeepsCommitted (state g.S.Store c.args.conn.now) (state g.S.Store conn))
          (sym w.conn-is)
          (kept_on (state g.S.Store c.args.conn.now) (state g.S.Store c.loop-recipient.conn) _ _ _ _
          _ c.loop-recipient.invariant.placed (state g.S.Store w.drop_beside.new.conn)
          w.drop_beside.ensures.kept)
      | else-branch w ↦ subst (λ conn. KeepsCommitted (state g.S.Store c.args.conn.now)
          (state g.S.Store conn)) (sym w.conn-is) c.loop-recipient.invariant.placed.kept
    ]

use Rattle.std.proofs.Common.{false, sym, subst, ◌∙◌}
use Rattle.sqlite.specs.Held.{state}
use Rattle.sqlite.specs.State.{HasCleanDisk}
use Rattle.hq_keyed.proofs.Left.{clean_before}
use Rattle.hq_values.specs.Words.{customer_hold}
use Rattle.hq_sql.specs.Tables.{IsDesk, Leaves, tables_in}
use Rattle.hq_sql_messages.specs.Moves.{standing_serials}
use Rattle.hq_sql_changes.specs.Moved.{with_reasons}
use Rattle.hq_sql_changes.proofs.Reasoned.{given_at_once, given_each}
use Rattle.hq_sql_changes.proofs.sets.give_queued.Goals.{else-branch}
use Rattle.hq_sql_changes.proofs.sets.give_queued.Goals.{then-branch+in_ok-serials+in_ok-give_each}
use Rattle.hq_sql_changes.proofs.sets.give_queued.Goals as goal

pub returns-clause-made : goal.returns-clause-made
returns-clause-made g c =
    let old = state g.S.Store c.args.conn.now in
    let put = state g.S.Store c.insert_for_queued.new.conn in
    let told = c.in_ok-insert_for_queued.ensures.made in
    elim c.if-branch.branch [
      | then-branch+in_ok-serials+in_ok-give_each w ↦ subst (λ conn.
          HasCleanDisk (state g.S.Store conn) → IsDesk old.now → Leaves old (state g.S.Store conn)
          (with_reasons c.args.customer.now customer_hold
          (standing_serials c.args.customer.now false (tables_in old.now)) (tables_in old.now)))
          (sym w.conn-is) (λ clean desk.
          let seen = state g.S.Store w.serials.new.conn in
          let new = state g.S.Store w.give_each.new.conn in
          let clean2 = clean_before seen new w.in_ok-give_each.ensures.kept.quiet clean in
          let clean1 = clean_before put seen w.in_ok-serials.ensures.kept.quiet clean2 in
          given_each old put seen new c.args.customer.now _ _ _ _ c.in_ok-reason.ensures
          w.if-branch.true (told clean1 desk) (w.in_ok-serials.ensures.kept.same clean2)
          (λ is. w.as_slice.ensures.value ∙ w.in_ok-serials.ensures.found clean2 is)
          (λ was is. w.in_ok-give_each.ensures.made was clean is))
      | else-branch w ↦ subst (λ conn. HasCleanDisk (state g.S.Store conn) → IsDesk old.now →
          Leaves old (state g.S.Store conn) (with_reasons c.args.customer.now customer_hold
          (standing_serials c.args.customer.now false (tables_in old.now)) (tables_in old.now)))
          (sym w.conn-is) (λ clean desk. given_at_once old put c.args.customer.now _ _
          c.in_ok-reason.ensures w.if-branch.false (told clean desk))
    ]

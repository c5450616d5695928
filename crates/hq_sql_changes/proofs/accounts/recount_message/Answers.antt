use Rattle.std.proofs.Common.{◌≡◌, Some, ap, sym, ◌∙◌, subst, rules}
use Rattle.sqlite.specs.Held.{state}
use Rattle.hq_tables.specs.Tables.{Tables}
use Rattle.hq_sql.specs.Tables.{Leaves, tables_in}
use Rattle.hq_sql_changes.proofs.Recounted.{size_same, size_none, size_other}
use Rattle.hq_sql_changes.proofs.Steps.{made_after, unchanged_leaves, desk_after}
use Rattle.hq_sql_changes.specs.Accounts.{counted_message, resized_message}
use Rattle.hq_keyed.proofs.Left.{clean_before}
use Rattle.hq_sql_changes.proofs.accounts.recount_message.Goals as goal

pub returns-then-before-size-clause-made : goal.returns-then-before-size-clause-made
returns-then-before-size-clause-made g c clean desk =
    let old = state g.S.Store c.args.conn.now in
    let new = state g.S.Store c.size.new.conn in
    let t : Tables = tables_in old.now in
    let e : c.in-Some.before ≡ c.args.size = search rules in
    subst (Leaves old new) (ap (λ h. record t { heads = h })
    (size_same c.args.customer.now c.args.serial c.args.size t (ap Some (sym e)
    ∙ sym c.in-Some.is ∙ c.in_ok-before.ensures.found clean desk)))
    (unchanged_leaves old new desk (c.in_ok-before.ensures.kept.same clean desk))

pub returns-in_default-clause-made : goal.returns-in_default-clause-made
returns-in_default-clause-made g c clean desk =
    let old = state g.S.Store c.args.conn.now in
    let mid = state g.S.Store c.size.new.conn in
    let new = state g.S.Store c.count_message.new.conn in
    let was = clean_before mid new c.in_ok-count_message.ensures.kept.quiet clean in
    let same = c.in_ok-before.ensures.kept.same was desk in
    let t : Tables = tables_in old.now in
    made_after (counted_message c.args.customer.now c.args.size) old mid new _ same
    (c.in_ok-count_message.ensures.made clean (desk_after old mid same desk))
    (ap (λ h. record t { heads = h })
    (size_none c.args.customer.now c.args.serial c.args.size t (sym c.in_default.is
    ∙ c.in_ok-before.ensures.found was desk)))

pub returns-clause-made : goal.returns-clause-made
returns-clause-made g c clean desk =
    let old = state g.S.Store c.args.conn.now in
    let mid = state g.S.Store c.size.new.conn in
    let new = state g.S.Store c.resize_message.new.conn in
    let was = clean_before mid new c.in_ok-resize_message.ensures.kept.quiet clean in
    let same = c.in_ok-before.ensures.kept.same was desk in
    let t : Tables = tables_in old.now in
    made_after (resized_message c.args.customer.now c.in-Some.before c.args.size) old mid new _ same
    (c.in_ok-resize_message.ensures.made clean (desk_after old mid same desk))
    (ap (λ h. record t { heads = h })
    (size_other c.args.customer.now c.args.serial c.in-Some.before c.args.size t
    c.if-before-size.false (sym c.in-Some.is ∙ c.in_ok-before.ensures.found was desk)))

use Rattle.std.proofs.Common.{◌≡◌, Option, Some, None, refl, sym, ◌∙◌, subst}
use Rattle.std.specs.Option.{option_map}
use Rattle.std.specs.FinMap.{get}
use Rattle.sqlite.specs.Held.{state}
use Rattle.hq_tables.specs.Tables.{Row}
use Rattle.hq_sql.specs.Tables.{tables_in}
use Rattle.hq_sql_messages.specs.Messages.{with_row}
use Rattle.hq_keyed.proofs.Left.{clean_before}
use Rattle.hq_sql_changes.proofs.Steps.{made_after, desk_after}
use Rattle.hq_sql_changes.proofs.one_message.put_uncounted_row.Goals as goal

no_row : (o : Option Row) → None ≡ option_map (λ (r : Row). r.size) o → o ≡ None
no_row None e = refl
no_row (Some r) e = cc

pub returns-in_default-clause-made : goal.returns-in_default-clause-made
returns-in_default-clause-made g c clean desk =
    let old = state g.S.Store c.args.conn.now in
    let mid = state g.S.Store c.size.new.conn in
    let new = state g.S.Store c.insert.new.conn in
    let was = clean_before mid new c.in_ok-insert.ensures.kept.quiet clean in
    let same = c.in_ok-before.ensures.kept.same was desk in
    let found = sym c.in_default.is ∙ c.in_ok-before.ensures.found was desk in
    record {
      is = found;
      left = made_after (with_row c.args.customer.now c.args.message.now) old mid new _ same
          (c.in_ok-insert.ensures.made clean (desk_after old mid same desk)
          (subst (λ d. get (tables_in d).messages (
            c.args.customer.now,
            c.args.message.now.serial,
          ) ≡ None) (sym same.0.now_is) (no_row _ found))) refl;
    }

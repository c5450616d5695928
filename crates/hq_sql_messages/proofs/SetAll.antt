-- An UPDATE of all rows of a table that pass a test, as another value at their keys.
use Rattle.std.proofs.Common.{◌≡◌, ℕ, ℤ, Bool, cond, List, [], ◌∷◌, map, drop, Ok, ap, ◌∙◌}
use Rattle.std.specs.List.{list_all}
use Rattle.std.specs.FinMap.{FinMap}
use Rattle.sqlite.specs.Order.{Row}
use Rattle.sqlite.specs.Tree.{rowid}
use Rattle.sqlite.specs.Term.{Term, holds, eval_all}
use Rattle.sqlite.specs.Cast.{cast_row}
use Rattle.sqlite.specs.Command.TheVariants.{Update}
use Rattle.sqlite.specs.Edit.{id_in}
use Rattle.sqlite.specs.State.{State, Executes}
use Rattle.sqlite.proofs.Callers.{runs_as}
use Rattle.hq_owned.specs.Owned.{map_values}
use Rattle.hq_owned.specs.Rows.{map_of}
use Rattle.hq_keyed.proofs.Known.{Orders, goes_on}
use Rattle.hq_keyed.proofs.Placed.{map_in}
use Rattle.hq_keyed.proofs.Select.{query_of}
use Rattle.hq_schema.specs.Schema.{desk_schema}
use Rattle.hq_sql.specs.Tables.{IsDesk, Leaves, tables_in}
use Rattle.hq_sql.proofs.Tables.{DeskTable, left}
use Rattle.hq_sql_messages.proofs.AllRows.{updated_all, all_typed, stored_all, table_all}

module _ {X K V : Type 0} (t : DeskTable X K V) (old new : State) (desk : IsDesk old.now) where
  abbrev rows : List Row
  rows = old.now.trees t.place.table.tree

  abbrev before : FinMap t.kind.order V
  before = map_in desk_schema t.place t.kind rows

  pub sets_all : (text : List ℕ) (terms project : List Term) →
      Orders desk_schema text (Update t.place.at (record {
        lets = [];
        body = query_of t.place.table.tree terms project;
      })) → (params : Row) (count : ℕ) (p : X → Bool) (f : X → X) (g : K → V → V)
      → ((x : X) → t.kind.key (f x) ≡ t.kind.key x)
      → ((x : X) → t.kind.val (cond (p x) (f x) x) ≡ g (t.kind.key x) (t.kind.val x))
      → ((x : ℤ × X) → t.kind.decode (t.kind.encode x) ≡ x.1 →
      t.kind.decode (t.kind.encode (x.0, f x.1)) ≡ f x.1)
      → ((x : ℤ × X) → list_all (holds (params ∷ t.kind.encode x ∷ [])) terms ≡ p x.1)
      → ((x : ℤ × X) → id_in (rowid (eval_all project (params ∷ t.kind.encode x ∷ []))) ≡ x.0)
      → ((x : ℤ × X) → cast_row t.place.table
      (drop 1 (eval_all project (params ∷ t.kind.encode x ∷ []))) ≡ t.kind.encode (x.0, f x.1))
      → Executes text params old new (Ok count)
      → Leaves old new (t.put (tables_in old.now) (map_values g before))
  sets_all text terms project known params count p f g keeps values back tests ids set h =
      let k = t.kind in
      let s = t.stored old.now desk in
      let w = runs_as text params old new desk_schema desk.schema_is _ known.is known.plain count h
      in
      left t old new _ desk (record {
        rows = _;
        sets = updated_all desk_schema k.encode k.numbered t.place.at t.place.table t.place.listed
            t.place.plain t.place.unlinked terms project old new _ params count s.kept
            (λ x. p x.1) f tests ids set desk.schema_is s.rows_are s.rises w;
        stored = stored_all k.encode k.decode k.total k.exact k.key k.val p f keeps rows s back;
        map_is = ap (map_of k.order k.key k.val) (all_typed k.encode k.decode k.total k.exact k.key
            k.val p f keeps rows s back) ∙ table_all k.encode k.decode k.total k.exact k.key k.val
            p f keeps g values (map k.decode rows);
        on = goes_on old new _ _ params count w;
      })

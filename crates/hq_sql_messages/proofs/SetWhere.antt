-- An UPDATE of the row at a key, where that row passes a test besides: its count tells whether
-- there is such a row.
use Rattle.std.proofs.Common.{◌≡◌, ◌⊎◌, inl, inr, ◌&&◌, ℕ, ℤ, Bool, true, false, cond, List, []}
use Rattle.std.proofs.Common.{◌∷◌, map, filter, find, drop, length, slice_get, option_map, Some, Ok}
use Rattle.std.proofs.Common.{refl, sym, ap, ap₂, ◌∙◌, subst}
use Rattle.std.specs.List.{list_all, AllByRecursion}
use Rattle.std.specs.Ordering.{eq_by_cmp}
use Rattle.std.specs.FinMap.{FinMap, get, insert}
use Rattle.sqlite.specs.Order.{Row}
use Rattle.sqlite.specs.Tree.{rowid}
use Rattle.sqlite.specs.Term.{Term, holds, eval_all}
use Rattle.sqlite.specs.Cast.{cast_row}
use Rattle.sqlite.specs.Command.TheVariants.{Update}
use Rattle.sqlite.specs.Edit.{id_in}
use Rattle.sqlite.specs.State.{State, Executes}
use Rattle.sqlite.proofs.Callers.{runs_as}
use Rattle.sqlite_keyed.specs.Lists.{update_where}
use Rattle.sqlite_keyed.proofs.ListLemmas.{slice_get-filter}
use Rattle.hq_owned.specs.Rows.{map_of}
use Rattle.hq_keyed.specs.Changed.{Sets}
use Rattle.hq_keyed.proofs.Known.{Orders, goes_on}
use Rattle.hq_keyed.proofs.Keyed as keyed
use Rattle.hq_keyed.proofs.Placed.{Wrote, map_in}
use Rattle.hq_keyed.proofs.Select.{query_of}
use Rattle.hq_keyed.proofs.Writes.{updated}
use Rattle.hq_schema.specs.Schema.{desk_schema}
use Rattle.hq_sql.specs.Tables.{IsDesk, Leaves, tables_in}
use Rattle.hq_sql.proofs.Tables.{DeskTable, left}

-- ---- lists

none_where : {A : Type 0} (p : A → Bool) (f : A → A) (xs : List A) → filter p xs ≡ [] →
    update_where p f xs ≡ xs
none_where p f [] h = refl
none_where p f (x ∷ xs) h = go (p x) h (none_where p f xs)
  where
    go : (b : Bool) → cond b (x ∷ filter p xs) (filter p xs) ≡ [] →
        (filter p xs ≡ [] → update_where p f xs ≡ xs) → cond b (f x) x ∷ update_where p f xs ≡ x
        ∷ xs
    go true e more = cc
    go false e more = ap (λ l. x ∷ l) (more e)

module _ {A : Type 0} (p m : A → Bool) where
  abbrev both : A → Bool
  both x = p x && m x

  filter_both : (xs : List A) → filter both xs ≡ filter m (filter p xs)
  filter_both [] = refl
  filter_both (x ∷ xs) = go (p x) (filter_both xs)
    where
      go : (b : Bool) → filter both xs ≡ filter m (filter p xs) →
          cond (b && m x) (x ∷ filter both xs) (filter both xs) ≡ filter m
          (cond b (x ∷ filter p xs) (filter p xs))
      go false e = e
      go true e = ap (λ l. cond (m x) (x ∷ l) l) e

  -- where all that pass the first test pass the other, it adds nothing
  same_where : (f : A → A) (xs : List A) → AllByRecursion (λ x. m x ≡ true) (filter p xs) →
      update_where both f xs ≡ update_where p f xs
  same_where f [] h = refl
  same_where f (x ∷ xs) h = go (p x) h (same_where f xs)
    where
      go : (b : Bool) → AllByRecursion (λ x. m x ≡ true) (cond b (x ∷ filter p xs) (filter p xs)) →
          (AllByRecursion (λ x. m x ≡ true) (filter p xs) →
          update_where both f xs ≡ update_where p f xs) → cond (b && m x) (f x) x
          ∷ update_where both f xs ≡ cond b (f x) x ∷ update_where p f xs
      go false h more = ap (λ l. x ∷ l) (more h)
      go true h more = ap₂ ◌∷◌ (ap (λ b. cond b (f x) x) h.0) (more h.1)

  -- of one that passes the first test
  one_both : (xs : List A) (x : A) (b : Bool) → filter p xs ≡ x ∷ [] → m x ≡ b →
      filter both xs ≡ cond b (x ∷ []) []
  one_both xs x b e h = filter_both xs ∙ ap (filter m) e ∙ ap (λ b. cond b (x ∷ []) []) h

  none_both : (xs : List A) → filter p xs ≡ [] → filter both xs ≡ []
  none_both xs e = filter_both xs ∙ ap (filter m) e

  most_one : (xs : List A) → (filter p xs ≡ []) ⊎ ((x : A) × (filter p xs ≡ x ∷ [])) →
      (filter both xs ≡ []) ⊎ ((x : A) × (filter both xs ≡ x ∷ []))
  most_one xs (inl none) = inl (none_both xs none)
  most_one xs (inr some) = go (m some.0) refl
    where
      go : (b : Bool) → m some.0 ≡ b → (filter both xs ≡ []) ⊎ ((x : A) × (filter both xs ≡ x ∷ []))
      go true h = inr (some.0, one_both xs some.0 true some.1 h)
      go false h = inl (one_both xs some.0 false some.1 h)

-- ---- the table

module _ {X K V : Type 0} (t : DeskTable X K V) (old new : State) (desk : IsDesk old.now) where
  abbrev rows : List Row
  rows = old.now.trees t.place.table.tree

  abbrev before : FinMap t.kind.order V
  before = map_in desk_schema t.place t.kind rows

  abbrev Left : FinMap t.kind.order V → Type 0
  Left = Wrote desk_schema t.place.table.tree t.kind old new

  pub sets_where : (text : List ℕ) (terms project : List Term) →
      Orders desk_schema text (Update t.place.at (record {
        lets = [];
        body =
            query_of t.place.table.tree terms project;
      })) → (params : Row) (count : ℕ) (q : K) (more : X →
      Bool) (f : X → X) (v : V)
      → ((x : X) → t.kind.key (f x) ≡ t.kind.key x) → ((x : X) → t.kind.val (f x) ≡ v) →
      ((x : ℤ × X) → t.kind.decode (t.kind.encode (x.0, f x.1)) ≡ f x.1)
      → ((x : ℤ × X) → list_all (holds (params ∷ t.kind.encode x ∷ [])) terms ≡
      (eq_by_cmp t.kind.order q (t.kind.key x.1) && more x.1))
      → ((x : ℤ × X) → id_in (rowid (eval_all project (params ∷ t.kind.encode x ∷ []))) ≡ x.0)
      → ((x : ℤ × X) → cast_row t.place.table
      (drop 1 (eval_all project (params ∷ t.kind.encode x ∷ []))) ≡ t.kind.encode (x.0, f x.1))
      → Executes text params old new (Ok count)
      → ((count ≡ 0) × Leaves old new (t.put (tables_in old.now) before))
      ⊎ ((count ≡ 1) × ((x : X) × (get before q ≡ Some (t.kind.val x)) × (more x ≡ true)
      × Leaves old new (t.put (tables_in old.now) (insert before q v))))
  sets_where text terms project known params count q more f v keeps value back tests ids set h =
      let k = t.kind in
      let s = t.stored old.now desk in
      let w = runs_as text params old new desk_schema desk.schema_is _ known.is known.plain count h
      in
      let is : ℤ × X → Bool = λ x. eq_by_cmp t.kind.order q (t.kind.key x.1) in
      let test : ℤ × X → Bool = λ x. more x.1 in
      let move : ℤ × X → ℤ × X = λ x. (x.0, f x.1) in
      let one = keyed.one k.encode k.decode k.total k.exact k.key k.val rows s q in
      let done = updated desk_schema k.encode k.numbered t.place.at t.place.table t.place.listed
      t.place.plain t.place.unlinked terms project old new _ params count s.kept (both is test)
      f tests ids set (most_one is test s.kept one) desk.schema_is s.rows_are s.rises w in
      let quiet : filter (both is test) s.kept ≡ [] → (count ≡ 0)
      × Leaves old new (t.put (tables_in old.now) before) = λ none. (
        done.1 ∙ ap length none,
        left t old new _ desk (record {
          rows = rows;
          sets = subst (Sets desk_schema old.now new.now t.place.table.tree)
              (ap (map k.encode) (none_where (both is test) move s.kept none) ∙ sym s.rows_are)
              done.0;
          stored = s;
          map_is = refl;
          on = goes_on old new _ _ params count w;
        }),
      ) in
      elim one [
        | inl none ↦ inl (quiet (none_both is test s.kept none))
        | inr some ↦
            let there : find is s.kept ≡ Some some.0 = sym (slice_get-filter is s.kept)
            ∙ ap (λ l. slice_get l 0) some.1 in
            let found : find (λ x. eq_by_cmp t.kind.order q (t.kind.key x)) (map k.decode rows) ≡
            Some some.0.1 = keyed.first_of k.encode k.decode k.total k.exact k.key k.val rows s
            q ∙ ap (option_map (λ x. x.1)) there in
            elim (more some.0.1) as (λ b. more some.0.1 ≡ b →
            ((count ≡ 0) × Leaves old new (t.put (tables_in old.now) before))
            ⊎ ((count ≡ 1) × ((x : X) × (get before q ≡ Some (t.kind.val x)) × (more x ≡ true)
            × Leaves old new (t.put (tables_in old.now) (insert before q v))))) [
              | true ↦ λ passes. inr (
                done.1 ∙ ap length (one_both is test s.kept some.0 true some.1 passes),
                (
                  some.0.1,
                  keyed.got k.encode k.decode k.total k.exact k.key k.val rows q
                      ∙ ap (option_map k.val) found,
                  passes,
                  left t old new _ desk (record {
                    rows = _;
                    sets = subst (Sets desk_schema old.now new.now t.place.table.tree)
                        (ap (map k.encode) (same_where is test move s.kept
                        (subst (AllByRecursion (λ x. test x ≡ true)) (sym some.1) (passes, tt))))
                        done.0;
                    stored = keyed.stored_update k.encode k.decode k.total k.exact k.key k.val q f
                        keeps rows s back;
                    map_is = ap (map_of t.kind.order k.key k.val)
                        (keyed.update_typed k.encode k.decode k.total k.exact k.key k.val q f keeps
                        rows s back) ∙ keyed.table_update k.encode k.decode k.total k.exact k.key
                        k.val q f keeps (map k.decode rows) some.0.1 found
                        ∙ ap (insert before q) (value some.0.1);
                    on = goes_on old new _ _ params count w;
                  }),
                ),
              )
              | false ↦ λ fails. inl (quiet (one_both is test s.kept some.0 false some.1 fails))
            ] refl
      ]

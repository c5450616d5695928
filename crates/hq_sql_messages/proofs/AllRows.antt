-- An UPDATE of all rows that pass, however many they are and in whatever order they are met.
use Rattle.std.proofs.Common.{◌≡◌, ℕ, ℤ, Bool, true, false, cond, List, [], ◌∷◌, map, filter}
use Rattle.std.proofs.Common.{find, fold, drop, slice_get, option_map, Option, Some, None, Ok, T}
use Rattle.std.proofs.Common.{◌<ℤ◌, refl, sym, ap, ap₂, ◌∙◌, subst, subst₂, IsPermutation}
use Rattle.std.specs.List.{list_all, AllByRecursion, IsDistinct}
use Rattle.std.specs.declared.cmp.Ordering.{Ordering}
use Rattle.std.specs.Ordering.{eq_by_cmp}
use Rattle.std.specs.Cmp.{IsTotalOrder}
use Rattle.std.specs.FinMap.{same_map}
use Rattle.std.proofs.lemmas.List.Folds.{fold-map}
use Rattle.std.proofs.lemmas.List.Sorted.{IsPermutation-map}
use Rattle.std.proofs.lemmas.Map.Lookups.{CmpEqualImpliesEq}
use Rattle.sqlite.specs.declared.types.Value.TheVariants.{Null, Int}
use Rattle.sqlite.specs.Cast.{cast_row}
use Rattle.sqlite.specs.Command.TheVariants.{Update}
use Rattle.sqlite.specs.Does.{Tally, Does, AtPlace, OnRows}
use Rattle.sqlite.specs.Edit.{edit_of, edited, without_all, put_all, numbered, id_in}
use Rattle.sqlite.specs.Effect.{Database}
use Rattle.sqlite.specs.Order.{Row}
use Rattle.sqlite.specs.Program.{overlay}
use Rattle.sqlite.specs.Query.{IsAnswer, Output, output}
use Rattle.sqlite.specs.Rowids.TheVariants.{Given}
use Rattle.sqlite.specs.Rows.{Written, Task}
use Rattle.sqlite.specs.Schema.{Schema}
use Rattle.sqlite.specs.State.{State, mode_of, Writes}
use Rattle.sqlite.specs.Table.{Table}
use Rattle.sqlite.specs.Term.{Term, holds, eval_all}
use Rattle.sqlite.specs.Tree.{Trees, rowid, put_row}
use Rattle.sqlite.proofs.Callers.{one_step}
use Rattle.sqlite_rules.specs.Action.{works}
use Rattle.sqlite_rules.specs.Calls.{ids_of}
use Rattle.sqlite_rules.specs.Edit.{taken_by}
use Rattle.sqlite_schema.specs.declared.schema.Keys.TheVariants.{Enforced}
use Rattle.sqlite_keyed.specs.Keyed.{IsKeyedBy, insert_by}
use Rattle.sqlite_keyed.specs.Lists.{update_where, delete_where}
use Rattle.sqlite_keyed.proofs.KeyedLemmas.{IsKeyedBy-update_where}
use Rattle.sqlite_keyed.proofs.ListLemmas.{map-map, map_same, ascending-filter, ascending-map}
use Rattle.sqlite_typed.proofs.RowLemmas.{deletes-map, puts-map}
use Rattle.hq_owned.specs.Owned.{map_values}
use Rattle.hq_owned.specs.Rows.{map_of}
use Rattle.hq_owned.proofs.Cases.{equal}
use Rattle.hq_owned.proofs.Lists.{get_table}
use Rattle.hq_owned.proofs.Parts.{get-map_values}
use Rattle.hq_keyed.specs.Changed.{Sets}
use Rattle.hq_keyed.specs.Stored.{IsStored}
use Rattle.hq_keyed.proofs.Keyed as keyed
use Rattle.hq_keyed.proofs.Rows.{removed, moved}
use Rattle.hq_keyed.proofs.Select.{query_of, answer_is}
use Rattle.hq_keyed.proofs.Writes.{went, same_value}
use Rattle.hq_sql_messages.proofs.PutBack.{unmapped, put_in_any_order}

-- ---- the rows of the tree

module _ {X : Type 0} (schema : Schema) (encode : ℤ × X → Row) (numbered_by : (k : ℤ × X) →
    rowid (encode k) ≡ Int k.0) (at : ℕ) (table : Table)
    (listed : slice_get schema.tables at ≡ Some table) (plain_tree : (db : Trees) →
    overlay db [] table.tree ≡ db table.tree)
    (unlinked : (olds news : List Row) → works schema Enforced 0 table.tree olds news ≡ []) where
  abbrev number : ℤ × X → ℤ
  number k = k.0

  given_alone : (rows rs : List Row) → numbered Given rows rs ≡ rs
  given_alone rows [] = refl
  given_alone rows (r ∷ rs) = ap (λ l. r ∷ l) (given_alone (put_row r rows) rs)

  -- UPDATE changes the rows that pass WHERE in their places
  pub updated_all : (filter_terms project : List Term) (old new : State) (text : List ℕ)
      (params : Row) (count : ℕ) (xs : List (ℤ × X)) (p : ℤ × X → Bool) (f : X → X)
      → ((k : ℤ × X) → list_all (holds (params ∷ encode k ∷ [])) filter_terms ≡ p k)
      → ((k : ℤ × X) → id_in (rowid (eval_all project (params ∷ encode k ∷ []))) ≡ k.0)
      → ((k : ℤ × X) → cast_row table (drop 1 (eval_all project (params ∷ encode k ∷ []))) ≡ encode
      (k.0, f k.1))
      → old.now.schema ≡ schema → old.now.trees table.tree ≡ map encode xs → IsKeyedBy number xs
      → Writes old new None (Update at (record {
        lets = [];
        body = query_of table.tree filter_terms project;
      })) text params count
      → Sets schema old.now new.now table.tree (map encode (update_where p (λ k. (k.0, f k.1)) xs))
  updated_all filter_terms project old new text params count xs p f tests ids_are rows_are has
      stored rises w =
      let q = query_of table.tree filter_terms project in
      let db = old.now.trees in
      let command = Update at (record { lets = []; body = q }) in
      let does = subst (λ k. Does old.step_limit (mode_of old) params
      (record old.now { schema = k }) text None command (Ok (w.tally, new.now))) has w.changed
      in
      let task = λ (t : Table). let it : Task =
      record {
        limit = old.step_limit;
        keys = Enforced;
        schema = schema;
        table = t;
        params = params;
      } in it in
      let on = subst (λ o. AtPlace (λ t. OnRows (task t) (mode_of old) None command db) o
      (Ok (w.tally, new.now))) listed does in
      let done = went on in
      let now = ap (λ (r : Tally × Database). r.1) (same_value (went (went done.2).2).2) in
      let given = went done.1 in
      let written = went given.2 in
      let trees : done.0.trees ≡ written.0 =
      ap (λ (it : Written). it.trees) (same_value written.2) in
      let edit = edit_of db table (ids_of given.0) Given 1 given.0 in
      let applies = one_step schema Enforced db written.0 edit
      (unlinked (taken_by db edit) edit.news) written.1 in
      let a : IsAnswer q (overlay db []) params given.0 = given.1.answer Null in
      let same = answer_is q (overlay db []) table.tree params encode xs p refl refl refl
      (plain_tree db ∙ stored) tests given.0 a in
      let fs = filter p xs in
      let show = λ (k : ℤ × X). eval_all project (params ∷ encode k ∷ []) in
      let shown : IsPermutation (map show fs) given.0 = subst₂ IsPermutation
      (map-map (λ (o : Output). o.1) (λ (k : ℤ × X). output q (params ∷ encode k ∷ [])) fs)
      (sym a.shown) (IsPermutation-map (λ (o : Output). o.1) _ _ same) in
      let found = unmapped show fs given.0 shown in
      let ys = found.0 in
      let move : ℤ × X → ℤ × X = λ k. (k.0, f k.1) in
      let ids : ids_of given.0 ≡ map number ys = ap ids_of found.2 ∙ map-map _ _ ys
      ∙ map_same _ number ids_are ys in
      let news : edit.news ≡ map encode (map move ys) =
      given_alone _ _ ∙ ap (map (λ s. cast_row table (drop 1 s))) found.2 ∙ map-map _ show ys
      ∙ map_same _ (λ k. encode (move k)) rows_are ys ∙ sym (map-map encode move ys) in
      let left : without_all (db table.tree) (ids_of given.0) ≡ map encode (delete_where p xs) =
      ap₂ without_all stored ids ∙ deletes-map number encode numbered_by (map number ys) xs
      ∙ ap (map encode) (removed number p (map number ys) xs rises
      (IsPermutation-map number fs ys found.1)) in
      let order : fold (insert_by number) (delete_where p xs) (map move fs) ≡ fold
      (insert_by number) (delete_where p xs) (map move ys) =
      put_in_any_order number (map move fs) (map move ys) (delete_where p xs)
      (ascending-map (λ a b. number a <ℤ number b) move fs (ascending-filter _ p xs rises))
      (IsPermutation-map move fs ys found.1) in
      let put : edited db edit ≡ map encode (update_where p move xs) =
      ap₂ put_all left news ∙ fold-map _ encode (map encode (delete_where p xs)) (map move ys)
      ∙ puts-map number encode numbered_by (map move ys) (delete_where p xs)
      ∙ ap (map encode) (sym order ∙ moved number p move (λ k. refl) xs rises) in
      record {
        schema_is = ap (λ (d : Database). d.schema) now;
        rows_are = ap (λ (d : Database). d.trees table.tree) now
            ∙ ap (λ (t : Trees). t table.tree) trees ∙ applies.rows ∙ put;
        others = λ t apart none. ap (λ (d : Database). d.trees t) now
            ∙ ap (λ (u : Trees). u t) trees ∙ applies.others t apart none;
      }

-- ---- the typed rows

module _ {X K V : Type 0} (encode : ℤ × X → Row) (decode : Row → X) {R : K → K → Ordering}
    (o : IsTotalOrder R) (exact : CmpEqualImpliesEq R) (key : X → K) (val : X → V)
    (p : X → Bool) (f : X → X) (keeps : (x : X) → key (f x) ≡ key x) where
  abbrev Are : List Row → Type 0
  Are = IsStored encode decode R key

  abbrev passes : ℤ × X → Bool
  passes k = p k.1

  abbrev move : ℤ × X → ℤ × X
  move k = (k.0, f k.1)

  abbrev changed : X → X
  changed x = cond (p x) (f x) x

  same_key : (x : X) → key (changed x) ≡ key x
  same_key x = elim (p x) as (λ b. key (cond b (f x) x) ≡ key x) [ true ↦ keeps x | false ↦ refl ]

  keys_kept : (xs : List X) → map key (update_where p f xs) ≡ map key xs
  keys_kept [] = refl
  keys_kept (x ∷ xs) = ap₂ ◌∷◌ (same_key x) (keys_kept xs)

  moved_typed : (ks : List (ℤ × X)) → map (λ k. k.1) (update_where passes move ks) ≡ update_where p
      f (map (λ k. k.1) ks)
  moved_typed [] = refl
  moved_typed (k ∷ ks) = ap₂ ◌∷◌ (elim (passes k) as
      (λ b. (cond b (move k) k).1 ≡ cond b (f k.1) k.1) [ true ↦ refl | false ↦ refl ])
      (moved_typed ks)

  -- what can be read back can be so when it is changed
  abbrev pub ComesBack : Type 0
  ComesBack = (k : ℤ × X) → decode (encode k) ≡ k.1 → decode (encode (k.0, f k.1)) ≡ f k.1

  moved_back : ComesBack → (ks : List (ℤ × X)) →
      AllByRecursion (λ k. decode (encode k) ≡ k.1) ks →
      AllByRecursion (λ k. decode (encode k) ≡ k.1) (update_where passes move ks)
  moved_back back [] h = tt
  moved_back back (k ∷ ks) h = (
    elim (passes k) as
        (λ b. decode (encode (cond b (move k) k)) ≡ (cond b (move k) k).1)
        [ true ↦ back k h.0 | false ↦ h.0 ],
    moved_back back ks h.1,
  )

  pub all_typed : (rows : List Row) (s : Are rows) → ComesBack →
      map decode (map encode (update_where passes move s.kept)) ≡ update_where p f
      (map decode rows)
  all_typed rows s back =
      keyed.read_back encode decode o exact key val _ (moved_back back s.kept s.back)
      ∙ moved_typed s.kept
      ∙ ap (update_where p f) (sym (keyed.typed encode decode o exact key val rows s))

  pub stored_all : (rows : List Row) (s : Are rows) → ComesBack →
      Are (map encode (update_where passes move s.kept))
  stored_all rows s back = record {
    kept = update_where passes move s.kept;
    rows_are = refl;
    rises = IsKeyedBy-update_where (λ k. k.0) passes move (λ k. refl) s.kept s.rises;
    back = moved_back back s.kept s.back;
    unique = subst (IsDistinct (eq_by_cmp R)) (sym (ap (map key) (all_typed rows s back)
        ∙ keys_kept (map decode rows))) s.unique;
  }

  find_changed : (q : K) (xs : List X) → find (λ x. eq_by_cmp R q (key x)) (update_where p f xs) ≡
      option_map changed (find (λ x. eq_by_cmp R q (key x)) xs)
  find_changed q [] = refl
  find_changed q (x ∷ xs) =
      ap (λ k. cond (eq_by_cmp R q k) (Some (changed x))
      (find (λ y. eq_by_cmp R q (key y)) (update_where p f xs))) (same_key x)
      ∙ ap (cond (eq_by_cmp R q (key x)) (Some (changed x))) (find_changed q xs)
      ∙ elim (eq_by_cmp R q (key x)) as (λ b. cond b (Some (changed x))
      (option_map changed (find (λ y. eq_by_cmp R q (key y)) xs)) ≡
      option_map changed (cond b (Some x) (find (λ y. eq_by_cmp R q (key y)) xs)))
      [ true ↦ refl | false ↦ refl ]

  -- the map has the values of all rows, changed
  pub table_all : (g : K → V → V) → ((x : X) → val (changed x) ≡ g (key x) (val x)) →
      (xs : List X) → map_of R key val (update_where p f xs) ≡ map_values g (map_of R key val xs)
  table_all g values xs = same_map o exact _ _ (λ q.
      get_table o exact key val (update_where p f xs) q
      ∙ ap (option_map val) (find_changed q xs)
      ∙ at_key q (find (λ x. eq_by_cmp R q (key x)) xs) refl
      ∙ ap (option_map (g q)) (sym (get_table o exact key val xs q))
      ∙ sym (get-map_values R g exact (map_of R key val xs) q))
    where
      at_key : (q : K) (y : Option X) → find (λ x. eq_by_cmp R q (key x)) xs ≡ y →
          option_map val (option_map changed y) ≡ option_map (g q) (option_map val y)
      at_key q None e = refl
      at_key q (Some y) e =
          let there : q ≡ key y = exact q (key y) (equal _
          (subst T (sym (keyed.find_passes (λ x. eq_by_cmp R q (key x)) xs y e)) tt)) in
          ap Some (values y ∙ ap (λ k. g k (val y)) (sym there))

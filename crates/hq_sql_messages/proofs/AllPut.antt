-- An INSERT .. SELECT into a table that one unique index guards, whatever rows it has: the new rows
-- stand behind those that were there, and no key stands twice; or a key was taken, and all is as it
-- was.
use Rattle.std.proofs.Common.{◌≡◌, ℕ, ℤ, ◌<ℤ◌, Bool, true, false, not, ◌&&◌, cond, List, [], ◌∷◌}
use Rattle.std.proofs.Common.{◌++◌, map, find, fold, drop, slice_get, option_map, Option, Some}
use Rattle.std.proofs.Common.{None, Result, Ok, Err, MatchBool, is_lt, int_cmp, inl, inr, eqb}
use Rattle.std.proofs.Common.{refl, sym, ap, ap₂, ◌∙◌, subst, arith, append-nil, append_assoc}
use Rattle.std.specs.List.{AllByRecursion, IsDistinct, list_all}
use Rattle.std.specs.declared.cmp.Ordering.{Ordering}
use Rattle.std.specs.Ordering.{eq_by_cmp}
use Rattle.std.specs.Cmp.{IsTotalOrder, eq_by_cmp_equiv}
use Rattle.std.specs.FinMap.{FinMap, insert}
use Rattle.std.proofs.lemmas.Bool.{cases_Bool, or_parts}
use Rattle.std.proofs.lemmas.Int.{ints}
use Rattle.std.proofs.lemmas.Map.Keys.{IsDistinct-cons, IsDistinct-head, IsDistinct-tail}
use Rattle.std.proofs.lemmas.Map.Lookups.{CmpEqualImpliesEq}
use Rattle.sqlite.specs.declared.error.Error.{Error}
use Rattle.sqlite.specs.declared.error.Error.TheVariants.{SqliteFailure}
use Rattle.sqlite.specs.declared.error.ErrorCode.TheVariants.{ConstraintViolation}
use Rattle.sqlite.specs.declared.types.Value.TheVariants.{Null, Int}
use Rattle.sqlite.specs.Cast.{cast_row}
use Rattle.sqlite.specs.Command.TheVariants.{Insert}
use Rattle.sqlite.specs.Does.{Tally, Does, AtPlace, OnRows}
use Rattle.sqlite.specs.Edit.{edit_of, edited, put_all, numbered}
use Rattle.sqlite.specs.Effect.{Answers, Database}
use Rattle.sqlite.specs.Order.{Row}
use Rattle.sqlite.specs.Rowids.TheVariants.{Chosen, Above}
use Rattle.sqlite.specs.Rows.{Written, Task, rowids_for, count_of, CountsIn, sequence, higher}
use Rattle.sqlite.specs.Rows.{stamped}
use Rattle.sqlite.specs.Schema.{Schema}
use Rattle.sqlite.specs.Source.TheVariants as source
use Rattle.sqlite.specs.State.{State, Executes, ExecutesIn, Fails, IsNotRun, IsUnchanged, Writes}
use Rattle.sqlite.specs.State.{mode_of, shows_rows, store_error}
use Rattle.sqlite.specs.Table.{Table}
use Rattle.sqlite.specs.Tree.{Trees, rowid}
use Rattle.sqlite.proofs.Callers.{one_step, runs_as}
use Rattle.sqlite_keyed.specs.Keyed.{IsKeyedBy}
use Rattle.sqlite_keyed.proofs.ListLemmas.{all-slice_get, all_unmap, all_map, all_both}
use Rattle.sqlite_keyed.proofs.ListLemmas.{all_weaker, map-map}
use Rattle.sqlite_rules.specs.Action.{works}
use Rattle.sqlite_rules.specs.Edit.{taken_by}
use Rattle.sqlite_schema.specs.Rules.{Keeps, clashes, differ}
use Rattle.sqlite_schema.specs.declared.program.Program.{Program}
use Rattle.sqlite_schema.specs.declared.schema.Constraint.TheVariants.{Unique}
use Rattle.sqlite_schema.specs.declared.schema.Index.{Index}
use Rattle.sqlite_schema.specs.declared.schema.Keys.TheVariants.{Enforced}
use Rattle.sqlite_sql.specs.declared.ops.CompareOp.TheVariants.{Ne}
use Rattle.sqlite_trees.specs.declared.error.StoreError.{StoreError}
use Rattle.sqlite_trees.specs.declared.error.StoreError.TheVariants as fault
use Rattle.sqlite_typed.proofs.TestLemmas.{at_ints}
use Rattle.hq_owned.specs.Rows.{map_of, HasUniqueKeys}
use Rattle.hq_owned.proofs.Lists.{get_table, table_push}
use Rattle.hq_keyed.specs.Changed.{Sets}
use Rattle.hq_keyed.specs.Filled.{added}
use Rattle.hq_keyed.proofs.Filling.{all_put, added_typed, added_rises}
use Rattle.hq_keyed.proofs.Keyed as keyed
use Rattle.hq_keyed.proofs.Known.{Orders, goes_on}
use Rattle.hq_keyed.proofs.Placed.{Kind, Place, Wrote, Are, map_in}
use Rattle.hq_keyed.proofs.Unique.{Guard}
use Rattle.hq_keyed.proofs.Writes.{went, same_value}

-- ---- a key that was taken

abbrev refusal : Error
refusal = SqliteFailure (ConstraintViolation Unique)

no_fault : (cause : StoreError) → refusal ≡ store_error cause → ⊥
no_fault fault.OutOfMemory e = let f = e in cc
no_fault fault.Io e = let f = e in cc
no_fault fault.Corrupt e = let f = e in cc
no_fault fault.Full e = let f = e in cc
no_fault fault.Broken e = let f = e in cc
no_fault fault.Unstorable e = let f = e in cc

never_fails : (old new : State) (P : Type 0) → Fails old new P refusal → ⊥
never_fails old new P h = no_fault h.0 h.1

-- it left the transaction as it was, and open
pub refused_leaves : (old new : State) (text : List ℕ) (params : Row) →
    Executes text params old new (Err (SqliteFailure (ConstraintViolation Unique))) →
    IsUnchanged old new
unfolding ExecutesIn IsNotRun
refused_leaves old new text params (inl (inl h)) = h.1
refused_leaves old new text params (inl (inr h)) = absurd (never_fails old new _ h)
refused_leaves old new text params (inr h) = elim (cases_Bool (shows_rows false h.0)) [
  | inl shows ↦ (rw shows at h.2).1
  | inr runs ↦ elim (rw runs at h.2) [
    | inl it ↦ it.1
    | inr why ↦ absurd (never_fails old new _ why)
  ]
]

-- ---- keys that the index keeps apart

module _ {X K V : Type 0} (schema : Schema) (p : Place schema) (k : Kind X K V)
    (g : Guard schema p k) where
  abbrev Hits : List Row → Row → Bool
  Hits = clashes g.order g.places

  abbrev Rule : ℕ → List Row → Type 0
  Rule tree rows = AllByRecursion (λ row. list_all (λ (i : Index). not ((i.is_unique
      && eqb i.table tree) && clashes i.order i.columns rows row)) schema.indexes ≡ true) rows

  no_clash : (b : Bool) → (not b && true) ≡ true → b ≡ false
  no_clash true h = absurd (let f = h in cc)
  no_clash false h = refl

  first_false : (a b : Bool) → b ≡ true → (a && b) ≡ false → a ≡ false
  first_false false b e h = refl
  first_false true true e h = absurd (let f = h in cc)
  first_false true false e h = absurd (let f = e in cc)

  hit_none : (rows : List Row) → Rule p.table.tree rows →
      AllByRecursion (λ row. Hits rows row ≡ false) rows
  hit_none rows h = all_weaker _ (λ row. Hits rows row ≡ false)
      (λ row e. no_clash _ (sym (g.alone (λ _. rows) row) ∙ e)) rows h

  differs : (a b : ℤ × X) → a.0 <ℤ b.0 → differ (rowid (k.encode a)) (rowid (k.encode b)) ≡ true
  differs a b below = ap₂ differ (k.numbered a) (k.numbered b) ∙ at_ints false Ne a.0 b.0
      ∙ grind (arith, ints)

  -- a row of a higher number that the first does not hit has another key
  apart_from : (x y : ℤ × X) (more : List Row) → x.0 <ℤ y.0 →
      Hits (k.encode x ∷ more) (k.encode y) ≡ false → eq_by_cmp k.order (k.key x.1) (k.key y.1) ≡
      false
  apart_from x y more below h =
      (eq_by_cmp_equiv k.total).symm (k.key x.1) (k.key y.1) ∙ sym (g.agrees x y)
      ∙ first_false _ _ (differs x y below) (or_parts _ _ h).0

  unique_kept : (xs : List (ℤ × X)) → IsKeyedBy (λ n. n.0) xs →
      AllByRecursion (λ y. Hits (map k.encode xs) (k.encode y) ≡ false) xs →
      HasUniqueKeys k.order k.key (map (λ n. n.1) xs)
  unfolding IsDistinct
  unique_kept [] up h = tt
  unique_kept (x ∷ xs) up h =
      let more = map k.encode xs in
      IsDistinct-cons (eq_by_cmp k.order) (k.key x.1) (map k.key (map (λ n. n.1) xs))
      (all_map _ k.key (map (λ n. n.1) xs) (all_map _ (λ (n : ℤ × X). n.1) xs
      (all_both (λ y. x.0 <ℤ y.0) (λ y. Hits (k.encode x ∷ more) (k.encode y) ≡ false)
      (λ y. eq_by_cmp k.order (k.key x.1) (k.key y.1) ≡ false)
      (λ y below apart. apart_from x y more below apart) xs up.0 h.1)))
      (unique_kept xs up.1 (all_weaker _ (λ y. Hits more (k.encode y) ≡ false)
      (λ y apart. (or_parts _ _ apart).1) xs h.1))

  -- where the rule holds, no key stands twice
  pub unique_where : (xs : List (ℤ × X)) → IsKeyedBy (λ n. n.0) xs → (db : Trees) →
      Keeps Unique schema db → db p.table.tree ≡ map k.encode xs →
      HasUniqueKeys k.order k.key (map (λ n. n.1) xs)
  unique_where xs up db keeps is =
      let rule : Rule p.table.tree (map k.encode xs) = subst (Rule p.table.tree) is
      (all-slice_get _ schema.tables p.at p.table p.listed keeps) in
      unique_kept xs up (all_unmap _ k.encode xs (hit_none (map k.encode xs) rule))

-- ---- the map of rows with more behind them

module _ {A K V : Type 0} {R : K → K → Ordering} (o : IsTotalOrder R) (exact : CmpEqualImpliesEq R)
    (key : A → K) (val : A → V) where
  at_middle : (P : K → Type 0) (xs : List A) (r : A) (rs : List A) →
      AllByRecursion P (map key (xs ++ r ∷ rs)) → P (key r)
  at_middle P [] r rs a = a.0
  at_middle P (x ∷ xs) r rs a = at_middle P xs r rs a.1

  none_yet : (xs : List A) (r : A) (rs : List A) → HasUniqueKeys R key (xs ++ r ∷ rs) →
      find (λ y. eq_by_cmp R (key r) (key y)) xs ≡ None
  none_yet [] r rs u = refl
  none_yet (x ∷ xs) r rs u =
      let ks = map key (xs ++ r ∷ rs) in
      ap (λ b. cond b (Some x) (find (λ y. eq_by_cmp R (key r) (key y)) xs))
      ((eq_by_cmp_equiv o).symm (key r) (key x) ∙ at_middle (λ y. eq_by_cmp R (key x) y ≡ false)
      xs r rs (IsDistinct-head (eq_by_cmp R) (key x) ks u))
      ∙ none_yet xs r rs (IsDistinct-tail (eq_by_cmp R) (key x) ks u)

  pub table_more : (xs more : List A) → HasUniqueKeys R key (xs ++ more) →
      map_of R key val (xs ++ more) ≡ fold (λ m r. insert m (key r) (val r)) (map_of R key val xs)
      more
  table_more xs [] u = ap (map_of R key val) (append-nil xs)
  table_more xs (r ∷ rs) u =
      let turned : (xs ++ r ∷ []) ++ rs ≡ xs ++ r ∷ rs = append_assoc xs (r ∷ []) rs in
      ap (map_of R key val) (sym turned)
      ∙ table_more (xs ++ r ∷ []) rs (subst (HasUniqueKeys R key) (sym turned) u)
      ∙ ap (λ m. fold (λ m r. insert m (key r) (val r)) m rs)
      (table_push o exact key val xs r (get_table o exact key val xs (key r)
      ∙ ap (option_map val) (none_yet xs r rs u)))

-- ---- the statement

module _ (schema : Schema) (at : ℕ) (table : Table)
    (listed : slice_get schema.tables at ≡ Some table)
    (unlinked : (olds news : List Row) → works schema Enforced 0 table.tree olds news ≡ [])
    (uncounted : table.is_counted ≡ false) where
  pub rows_put : (q : Program) (old new : State) (text : List ℕ) (params : Row) (count : ℕ) →
      old.now.schema ≡ schema
      → Writes old new None (Insert at (source.Query q)) text params count → (rows : List Row)
      × Answers (record old.now { schema = schema }) q (stamped table params) rows
      × Sets schema old.now new.now table.tree (put_all (old.now.trees table.tree)
      (numbered Chosen (old.now.trees table.tree) (map (cast_row table) rows)))
  rows_put q old new text params count has w =
      let db = old.now.trees in
      let command = Insert at (source.Query q) in
      let does = subst (λ k. Does old.step_limit (mode_of old) params
      (record old.now { schema = k }) text None command (Ok (w.tally, new.now))) has w.changed
      in
      let task = λ (t : Table). let it : Task =
      record {
        limit = old.step_limit;
        keys = Enforced;
        schema = schema;
        table = t;
        params = params;
      } in it in
      let on = subst (λ o. AtPlace (λ t. OnRows (task t) (mode_of old) None command db) o
      (Ok (w.tally, new.now))) listed does in
      let done = went on in
      let now = ap (λ (r : Tally × Database). r.1) (same_value (went (went done.2).2).2) in
      let given = went done.1 in
      let counter = went given.2 in
      let written = went counter.2 in
      let counts = went written.2 in
      let rowids = rowids_for table (count_of counter.0) in
      let edit = edit_of db table [] rowids 0 given.0 in
      let top = fold higher (count_of counter.0) edit.news in
      let trees : done.0.trees ≡ written.0 = ap (λ (it : Written). it.trees) (same_value counts.2)
      ∙ same_value (subst (λ b. MatchBool
      (cond b (is_lt (int_cmp (count_of counter.0) top)) false)
      (CountsIn (task table) written.0 counter.0 top (sequence schema) (Ok counts.0))
      (◌≡◌ {A = Result Trees (Option Error)} (Ok counts.0) (Ok written.0))) uncounted counts.1)
      in
      let applies = one_step schema Enforced db written.0 edit
      (unlinked (taken_by db edit) edit.news) written.1 in
      let chosen : rowids ≡ Chosen = ap (λ b. cond b (Above (count_of counter.0)) Chosen) uncounted
      in
      let put : edited db edit ≡ put_all (db table.tree)
      (numbered Chosen (db table.tree) (map (cast_row table) given.0)) =
      ap (λ how. edited db (edit_of db table [] how 0 given.0)) chosen in (
        given.0,
        given.1,
        record {
          schema_is = ap (λ (d : Database). d.schema) now;
          rows_are = ap (λ (d : Database). d.trees table.tree) now
              ∙ ap (λ (t : Trees). t table.tree) trees ∙ applies.rows ∙ put;
          others = λ t apart none. ap (λ (d : Database). d.trees t) now
              ∙ ap (λ (u : Trees). u t) trees ∙ applies.others t apart none;
        },
      )

module _ {X K V Z : Type 0} (schema : Schema) (p : Place schema) (k : Kind X K V)
    (g : Guard schema p k) (show : Z → Row) (typed : Z → X)
    (null : (z : Z) → rowid (cast_row p.table (show z)) ≡ Null)
    (row : (z : Z) (n : ℤ) → Int n ∷ drop 1 (cast_row p.table (show z)) ≡ k.encode (n, typed z))
    (back : (x : ℤ × X) → k.decode (k.encode x) ≡ x.1) where
  all_back : (xs : List (ℤ × X)) → AllByRecursion (λ x. k.decode (k.encode x) ≡ x.1) xs
  all_back [] = tt
  all_back (x ∷ xs) = (back x, all_back xs)

  module _ (old new : State) (has : old.now.schema ≡ schema)
      (s : Are schema p k (old.now.trees p.table.tree)) where
    abbrev rows : List Row
    rows = old.now.trees p.table.tree

    abbrev with_more : List Z → FinMap k.order V
    with_more zs = fold (λ m z. insert m (k.key (typed z)) (k.val (typed z)))
        (map_in schema p k rows) zs

    pub puts_all : (text : List ℕ) (q : Program) →
        Orders schema text (Insert p.at (source.Query q)) → (params : Row) (count : ℕ)
        (Meant : List Z → Type 0) → ((given : List Row) →
        Answers (record old.now { schema = schema }) q (stamped p.table params) given →
        (zs : List Z) × Meant zs × (given ≡ map show zs)) →
        Executes text params old new (Ok count) → (zs : List Z) × Meant zs
        × Wrote schema p.table.tree k old new (with_more zs)
    puts_all text q known params count Meant meant h =
        let w = runs_as text params old new schema has _ known.is known.plain count h in
        let it = rows_put schema p.at p.table p.listed p.unlinked p.uncounted q old new _ params
        count has w in
        let said = meant it.0 it.1 in
        let zs = said.0 in
        let news = map typed zs in
        let kept = added s.kept news in
        let made = λ (z : Z). cast_row p.table (show z) in
        let put : put_all rows (numbered Chosen rows (map (cast_row p.table) it.0)) ≡ map k.encode
        kept =
        ap (λ l. put_all rows (numbered Chosen rows l))
        (ap (map (cast_row p.table)) said.2 ∙ map-map (cast_row p.table) show zs)
        ∙ all_put k.encode k.numbered made typed null row zs rows s.kept s.rows_are s.rises in
        let sets : Sets schema old.now new.now p.table.tree (map k.encode kept) =
        subst (Sets schema old.now new.now p.table.tree) put it.2 in
        let rises = added_rises s.kept news s.rises in
        let apart : HasUniqueKeys k.order k.key (map (λ n. n.1) kept) =
        unique_where schema p k g kept rises new.now.trees
        (subst (λ it. Keeps Unique it new.now.trees) sets.schema_is (w.sound.obeys.rules Unique))
        sets.rows_are in
        let read : map k.decode (map k.encode kept) ≡ map (λ n. n.1) kept =
        keyed.read_back k.encode k.decode k.total k.exact k.key k.val kept (all_back kept) in
        let all : map k.decode (map k.encode kept) ≡ map k.decode rows ++ news =
        read ∙ added_typed s.kept news ∙ ap (λ l. l ++ news)
        (sym (keyed.typed k.encode k.decode k.total k.exact k.key k.val rows s)) in
        let unique : HasUniqueKeys k.order k.key (map k.decode (map k.encode kept)) =
        subst (HasUniqueKeys k.order k.key) (sym read) apart in (
          zs,
          said.1,
          record {
            rows = map k.encode kept;
            sets = sets;
            stored = record {
              kept = kept;
              rows_are = refl;
              rises = rises;
              back = all_back kept;
              unique = unique;
            };
            map_is = ap (map_of k.order k.key k.val) all
                ∙ table_more k.total k.exact k.key k.val (map k.decode rows) news
                (subst (HasUniqueKeys k.order k.key) all unique)
                ∙ folded (map_in schema p k rows) zs;
            on = goes_on old new _ _ params count w;
          },
        )
      where
        folded : (m : FinMap k.order V) (zs : List Z) →
            fold (λ m r. insert m (k.key r) (k.val r)) m (map typed zs) ≡ fold
            (λ m z. insert m (k.key (typed z)) (k.val (typed z))) m zs
        folded m [] = refl
        folded m (z ∷ zs) = folded (insert m (k.key (typed z)) (k.val (typed z))) zs

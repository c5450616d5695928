-- A table whose keys one unique index guards: an INSERT that is made found no row at its key, and
-- the index allows one of a key that is free.
use Rattle.std.proofs.Common.{◌≡◌, ℕ, ℤ, ◌<ℤ◌, Bool, true, false, not, ◌&&◌, cond, List}
use Rattle.std.proofs.Common.{[], ◌∷◌, ◌++◌, map, filter, find, drop, length, ◌/◌, eqb}
use Rattle.std.proofs.Common.{option_map, Some, None, Ok, refl, sym}
use Rattle.std.proofs.Common.{ap, ap₂, ◌∙◌, subst, arith}
use Rattle.std.specs.List.{AllByRecursion, list_all}
use Rattle.std.specs.Cmp.{eq_by_cmp_equiv}
use Rattle.std.specs.Ordering.{eq_by_cmp}
use Rattle.std.specs.FinMap.{get, insert}
use Rattle.std.proofs.lemmas.Bool.{or_parts, or_from}
use Rattle.std.proofs.lemmas.Bool.Decides.{nat_tests}
use Rattle.std.proofs.lemmas.Int.{ints}
use Rattle.sqlite.specs.declared.types.Value.TheVariants.{Null, Int}
use Rattle.sqlite.specs.Cast.{cast_row}
use Rattle.sqlite.specs.Command.TheVariants.{Insert}
use Rattle.sqlite.specs.Effect.{value_rows}
use Rattle.sqlite.specs.Order.{Row}
use Rattle.sqlite.specs.Rows.{stamped}
use Rattle.sqlite.specs.Schema.{Schema}
use Rattle.sqlite.specs.Source.TheVariants.{Values}
use Rattle.sqlite.specs.State.{State, Executes}
use Rattle.sqlite.specs.Table.{Table}
use Rattle.sqlite.specs.Term.{Term}
use Rattle.sqlite.specs.Tree.{Trees, rowid, with_tree}
use Rattle.sqlite.proofs.Callers.{runs_as}
use Rattle.sqlite_keyed.specs.Keyed.{next_key}
use Rattle.sqlite_keyed.proofs.ListLemmas.{all-slice_get, all_unmap, all_map, all-append}
use Rattle.sqlite_keyed.proofs.ListLemmas.{all_both, all_weaker}
use Rattle.sqlite_schema.specs.Rules.{Keeps, agree, clashes, differ, passes}
use Rattle.sqlite_schema.specs.declared.schema.Constraint.TheVariants.{Unique}
use Rattle.sqlite_schema.specs.declared.schema.Index.{Index}
use Rattle.sqlite_sql.specs.declared.ops.CompareOp.TheVariants.{Ne}
use Rattle.sqlite_typed.proofs.TestLemmas.{at_ints}
use Rattle.sqlite_value.specs.declared.keys.Order.{Order}
use Rattle.hq_keyed.proofs.Keyed as keyed
use Rattle.hq_keyed.proofs.Known.{Orders}
use Rattle.hq_keyed.proofs.Placed.{Kind, Place, Wrote, Are, map_in, puts}
use Rattle.hq_keyed.proofs.Rows.{all_below}
use Rattle.hq_keyed.proofs.Writes.{inserted}

-- one unique index guards a table, in whose columns two rows agree where their keys are one
pub record Guard {X K V : Type 0} (schema : Schema) (p : Place schema) (k : Kind X K V) : Type 0
  where
    pub order : Order
    pub places : List ℕ
    pub alone : (db : Trees) (row : Row) → passes Unique schema db p.table row ≡
        (not (clashes order places (db p.table.tree) row) && true)
    pub agrees : (a b : ℤ × X) → agree order places (k.encode a) places (k.encode b) ≡
        eq_by_cmp k.order (k.key b.1) (k.key a.1)

-- ---- tests

no_clash : (b : Bool) → (not b && true) ≡ true → b ≡ false
no_clash true h = absurd (let f = h in cc)
no_clash false h = refl

first_false : (a b : Bool) → b ≡ true → (a && b) ≡ false → a ≡ false
first_false false b e h = refl
first_false true true e h = absurd (let f = h in cc)
first_false true false e h = absurd (let f = e in cc)

last_is : {X : Type 0} (P : X → Type 0) (xs : List X) (x : X) → AllByRecursion P (xs ++ x ∷ []) →
    P x
last_is P [] x h = h.0
last_is P (y ∷ xs) x h = last_is P xs x h.1

pub none_pass : {X : Type 0} (p : X → Bool) (xs : List X) → filter p xs ≡ [] →
    AllByRecursion (λ x. p x ≡ false) xs
none_pass p [] h = tt
none_pass p (x ∷ xs) h = go (p x) refl h (none_pass p xs)
  where
    go : (b : Bool) → p x ≡ b → cond b (x ∷ filter p xs) (filter p xs) ≡ [] →
        (filter p xs ≡ [] → AllByRecursion (λ y. p y ≡ false) xs) →
        AllByRecursion (λ y. p y ≡ false) (x ∷ xs)
    go true e h more = absurd (let f = h in cc)
    go false e h more = (e, more h)

module _ {X K V : Type 0} (schema : Schema) (p : Place schema) (k : Kind X K V)
    (g : Guard schema p k) where
  abbrev Hits : List Row → Row → Bool
  Hits = clashes g.order g.places

  -- rows of other numbers differ, and a row does not differ from itself
  differs : (a b : ℤ × X) → a.0 <ℤ b.0 →
      differ (rowid (k.encode a)) (rowid (k.encode b)) ≡ true
  differs a b below = ap₂ differ (k.numbered a) (k.numbered b) ∙ at_ints false Ne a.0 b.0
      ∙ grind (arith, ints)

  itself : (a : ℤ × X) → differ (rowid (k.encode a)) (rowid (k.encode a)) ≡ false
  itself a = ap₂ differ (k.numbered a) (k.numbered a) ∙ at_ints false Ne a.0 a.0
      ∙ grind (arith, ints)

  none_at : (x : ℤ × X) (xs more : List (ℤ × X)) → AllByRecursion (λ y. y.0 <ℤ x.0) xs →
      Hits (map k.encode (xs ++ more)) (k.encode x) ≡ false →
      find (λ y. eq_by_cmp k.order (k.key x.1) (k.key y.1)) xs ≡ None
  none_at x [] more below h = refl
  none_at x (y ∷ xs) more below h =
      let parts = or_parts _ _ h in
      let other : eq_by_cmp k.order (k.key x.1) (k.key y.1) ≡ false =
      sym (g.agrees y x) ∙ first_false _ _ (differs y x below.0) parts.0 in
      ap (λ b. cond b (Some y) (find (λ z. eq_by_cmp k.order (k.key x.1) (k.key z.1)) xs)) other
      ∙ none_at x xs more below.1 parts.1

  -- the rule, of the rows of a tree
  abbrev Rule : ℕ → List Row → Type 0
  Rule tree rows = AllByRecursion (λ row. list_all (λ (i : Index). not ((i.is_unique
      && eqb i.table tree) && clashes i.order i.columns rows row)) schema.indexes ≡ true) rows

  hit_none : (rows : List Row) → Rule p.table.tree rows →
      AllByRecursion (λ row. Hits rows row ≡ false) rows
  hit_none rows h = all_weaker _ (λ row. Hits rows row ≡ false)
      (λ row e. no_clash _ (sym (g.alone (λ _. rows) row) ∙ e)) rows h

  -- where the rule holds with a row more, nothing stood at its key
  pub found_free : (rows : List Row) (s : Are schema p k rows) (x : X) (db : Trees) →
      Keeps Unique schema db →
      db p.table.tree ≡ map k.encode (s.kept ++ (next_key (λ n. n.0) s.kept, x) ∷ []) →
      get (map_in schema p k rows) (k.key x) ≡ None
  found_free rows s x db keeps is =
      let new : ℤ × X = (next_key (λ n. n.0) s.kept, x) in
      let after = map k.encode (s.kept ++ new ∷ []) in
      let rule : Rule p.table.tree after = subst (Rule p.table.tree) is
      (all-slice_get _ schema.tables p.at p.table p.listed keeps) in
      let apart : Hits after (k.encode new) ≡ false =
      last_is (λ (y : ℤ × X). Hits after (k.encode y) ≡ false) s.kept new
      (all_unmap _ k.encode (s.kept ++ new ∷ []) (hit_none after rule)) in
      keyed.got k.encode k.decode k.total k.exact k.key k.val rows (k.key x)
      ∙ ap (option_map k.val) (keyed.first_of k.encode k.decode k.total k.exact k.key k.val rows s
      (k.key x) ∙ ap (option_map (λ n. n.1)) (none_at new s.kept (new ∷ [])
      (all_below (λ n. n.0) s.kept s.rises) apart))

  -- a row is put, at a key that was free
  pub adds : (old new : State) (has : old.now.schema ≡ schema)
      (s : Are schema p k (old.now.trees p.table.tree)) (text : List ℕ) (terms : List Term)
      (width : ℕ) → Orders schema text (Insert p.at (Values terms width)) →
      (params source : Row) (count : ℕ) (x : X)
      → value_rows (stamped p.table params) width (length terms / width) terms ≡ source ∷ [] →
      rowid (cast_row p.table source) ≡ Null
      → ((n : ℤ) → Int n ∷ drop 1 (cast_row p.table source) ≡ k.encode (n, x)) →
      ((n : ℤ) → k.decode (k.encode (n, x)) ≡ x) → Executes text params old new (Ok count) →
      (get (map_in schema p k (old.now.trees p.table.tree)) (k.key x) ≡ None)
      × Wrote schema p.table.tree k old new
      (insert (map_in schema p k (old.now.trees p.table.tree)) (k.key x) (k.val x))
  adds old new has s text terms width known params source count x sources null row back h =
      let w = runs_as text params old new schema has _ known.is known.plain count h in
      let sets = inserted schema k.encode k.numbered p.at p.table p.listed p.plain p.unlinked terms
      width old new _ params count s.kept x source p.uncounted sources null row has s.rows_are
      s.rises w in
      let free = found_free _ s x new.now.trees
      (subst (λ it. Keeps Unique it new.now.trees) sets.schema_is (w.sound.obeys.rules Unique))
      sets.rows_are in (
        free,
        puts schema p k old new has s text terms width known params source count x sources null row
            back free h,
      )

  -- ---- with a row more whose key was free, the rule holds

  module _ (x : ℤ × X) (xs : List (ℤ × X))
      (free : AllByRecursion (λ y. eq_by_cmp k.order (k.key x.1) (k.key y.1) ≡ false) xs) where
    abbrev after : List Row
    after = map k.encode (xs ++ x ∷ [])

    hit_more : (y : ℤ × X) (ys : List (ℤ × X)) → Hits (map k.encode ys) (k.encode y) ≡ false →
        (agree g.order g.places (k.encode x) g.places (k.encode y)
        && differ (rowid (k.encode x)) (rowid (k.encode y))) ≡ false →
        Hits (map k.encode (ys ++ x ∷ [])) (k.encode y) ≡ false
    hit_more y [] h new = rw new refl
    hit_more y (z ∷ ys) h new =
        let parts = or_parts _ _ h in or_from _ _ parts.0 (hit_more y ys parts.1 new)

    hit_new : (ys : List (ℤ × X)) →
        AllByRecursion (λ y. eq_by_cmp k.order (k.key x.1) (k.key y.1) ≡ false) ys →
        Hits (map k.encode ys) (k.encode x) ≡ false
    hit_new [] h = refl
    hit_new (y ∷ ys) h = rw (g.agrees y x ∙ h.0) (hit_new ys h.1)

    same_turned : (y : ℤ × X) → eq_by_cmp k.order (k.key x.1) (k.key y.1) ≡ false →
        (agree g.order g.places (k.encode x) g.places (k.encode y)
        && differ (rowid (k.encode x)) (rowid (k.encode y))) ≡ false
    same_turned y h = rw (g.agrees x y ∙ (eq_by_cmp_equiv k.total).symm (k.key y.1) (k.key x.1)
        ∙ h) refl

    last_alone : (a b : Bool) → b ≡ false → (a && b) ≡ false
    last_alone true b h = h
    last_alone false b h = refl

    still_apart : Rule p.table.tree (map k.encode xs) → Rule p.table.tree after
    still_apart h =
        let old = all_unmap _ k.encode xs (hit_none (map k.encode xs) h) in
        let Apart = λ (y : ℤ × X). Hits after (k.encode y) ≡ false in
        let all : AllByRecursion Apart (xs ++ x ∷ []) = all-append Apart xs (x ∷ [])
        (all_both _ _ Apart (λ y e f. hit_more y xs e (same_turned y f)) xs old free)
        (hit_more x xs (hit_new xs free) (last_alone _ _ (itself x)), tt) in
        all_map _ k.encode (xs ++ x ∷ [])
        (all_weaker Apart _ (λ y e. g.alone (λ _. after) (k.encode y)
        ∙ ap (λ b. not b && true) e) (xs ++ x ∷ []) all)

    pub keeps_more : (db : Trees) → db p.table.tree ≡ map k.encode xs → Keeps Unique schema db →
        Keeps Unique schema (with_tree db p.table.tree after)
    keeps_more db is keeps = all_weaker (λ (t : Table). Rule t.tree (db t.tree))
        (λ (t : Table). Rule t.tree (with_tree db p.table.tree after t.tree))
        (λ t h. go t (eqb t.tree p.table.tree) refl h) schema.tables keeps
      where
        here : Rule p.table.tree after
        here = still_apart (subst (Rule p.table.tree) is
            (all-slice_get _ schema.tables p.at p.table p.listed keeps))

        go : (t : Table) (b : Bool) → eqb t.tree p.table.tree ≡ b → Rule t.tree (db t.tree) →
            Rule t.tree (cond b after (db t.tree))
        go t true e h = let same : p.table.tree ≡ t.tree = grind (arith, nat_tests) in
            subst (λ n. Rule n after) same here
        go t false e h = h

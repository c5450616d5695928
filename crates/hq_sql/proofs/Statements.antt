-- What the statements on one table of the desk find in it and leave of all.
use Rattle.std.proofs.Common.{◌≡◌, ℕ, ℤ, Bool, false, List, [], ◌∷◌, map, filter, find, take, drop}
use Rattle.std.proofs.Common.{length, ◌/◌, slice_get, option_map, not, inl, inr, None, Ok, ap, ◌∙◌}
use Rattle.std.proofs.Common.{true, true≢false, sym, subst}
use Rattle.std.specs.Prelude.{nat_eq}
use Rattle.std.specs.List.{list_all}
use Rattle.std.specs.declared.cmp.Ordering.{Ordering}
use Rattle.std.specs.Ordering.{eq_by_cmp}
use Rattle.std.specs.FinMap.{FinMap, entries, get, insert, remove, retain_keys}
use Rattle.sqlite.specs.declared.types.Value.TheVariants.{Null, Int}
use Rattle.sqlite.specs.Order.{Row}
use Rattle.sqlite.specs.Tree.{rowid}
use Rattle.sqlite.specs.Term.{Term, col, holds, eval_all}
use Rattle.sqlite.specs.Cast.{cast_row}
use Rattle.sqlite.specs.Command.TheVariants.{Insert, Update, Delete}
use Rattle.sqlite.specs.Source.TheVariants.{Values}
use Rattle.sqlite.specs.Query.{Query, inner, end, output, output_cmp, page}
use Rattle.sqlite.specs.Edit.{id_in}
use Rattle.sqlite.specs.Effect.{IsDatabase, value_rows}
use Rattle.sqlite.specs.Rows.{stamped}
use Rattle.sqlite.specs.State.{State, Executes, Shown}
use Rattle.sqlite_keyed.specs.Lists.{sort_by}
use Rattle.hq_owned.specs.Rows.{pairs_of}
use Rattle.hq_keyed.proofs.Known.{Asks, Orders}
use Rattle.hq_keyed.proofs.Placed as placed
use Rattle.hq_keyed.proofs.Refused.{refused}
use Rattle.hq_keyed.proofs.Select.{query_of}
use Rattle.hq_keyed.proofs.Unique.{Guard, adds as added}
use Rattle.hq_schema.specs.Schema.{desk_schema}
use Rattle.hq_sql.specs.Kept.{HasTried, Updated}
use Rattle.hq_sql.specs.Tables.{IsDesk, Leaves, tables_in}
use Rattle.hq_sql.proofs.Keeping.{made_free, told_there, unchanged_leaves}
use Rattle.hq_sql.proofs.Tables.{DeskTable, left, leaves_then}

module _ {X K V : Type 0} (t : DeskTable X K V) (old new : State) (desk : IsDesk old.now) where
  -- the table before
  abbrev before : FinMap t.kind.order V
  before = placed.map_in desk_schema t.place t.kind (old.now.trees t.place.table.tree)

  abbrev rows : List Row
  rows = old.now.trees t.place.table.tree

  abbrev by_key : X → X → Ordering
  by_key x y = t.kind.order (t.kind.key x) (t.kind.key y)

  -- the row at a key
  pub row_at : (text : List ℕ) (terms project : List Term) (names : List (List ℕ)) →
      Asks desk_schema text (query_of t.place.table.tree terms project) names →
      (params : Row) (shown : Row → X)
      → ((x : ℤ × X) →
      shown (output (query_of t.place.table.tree terms project) (params ∷ t.kind.encode x
      ∷ [])).1 ≡ t.kind.decode (t.kind.encode x)) →
      ((xs : List Row) → page (query_of t.place.table.tree terms project) params xs ≡ xs)
      → (q : K) → ((x : ℤ × X) →
      list_all (holds (params ∷ t.kind.encode x ∷ [])) terms ≡ eq_by_cmp t.kind.order q
      (t.kind.key x.1)) → (found : List Row) → Shown text params old new found →
      option_map shown (slice_get found 0) ≡ find (λ x. eq_by_cmp t.kind.order q (t.kind.key x))
      (map t.kind.decode rows)
  row_at = placed.row_at desk_schema t.place t.kind old new desk.schema_is (t.stored old.now desk)

  -- what stands at a key
  pub got : (text : List ℕ) (terms project : List Term) (names : List (List ℕ)) →
      Asks desk_schema text (query_of t.place.table.tree terms project) names →
      (params : Row) (shown : Row → X)
      → ((x : ℤ × X) →
      shown (output (query_of t.place.table.tree terms project) (params ∷ t.kind.encode x
      ∷ [])).1 ≡ t.kind.decode (t.kind.encode x)) →
      ((xs : List Row) → page (query_of t.place.table.tree terms project) params xs ≡ xs)
      → (q : K) → ((x : ℤ × X) →
      list_all (holds (params ∷ t.kind.encode x ∷ [])) terms ≡ eq_by_cmp t.kind.order q
      (t.kind.key x.1)) → (found : List Row) → Shown text params old new found →
      option_map (λ r. t.kind.val (shown r)) (slice_get found 0) ≡ get before q
  got = placed.got desk_schema t.place t.kind old new desk.schema_is (t.stored old.now desk)

  -- the rows that pass a test, in the order of their keys
  pub lists : (text : List ℕ) (query : Query) (names : List (List ℕ)) →
      Asks desk_schema text query names → query.from ≡ inner t.place.table.tree end →
      query.group ≡ None → query.distinct ≡ false
      → (params : Row) (shown : Row → X) →
      ((x : ℤ × X) → shown (output query (params ∷ t.kind.encode x ∷ [])).1 ≡ t.kind.decode
      (t.kind.encode x))
      → (test : X → Bool) → ((x : ℤ × X) →
      list_all (holds (params ∷ t.kind.encode x ∷ [])) query.filter ≡ test x.1)
      → ((x y : ℤ × X) → output_cmp query (output query (params ∷ t.kind.encode x ∷ []))
      (output query (params ∷ t.kind.encode y ∷ [])) ≡ t.kind.order (t.kind.key x.1)
      (t.kind.key y.1))
      → ((xs : List Row) → page query params xs ≡ xs) → (found : List Row) →
      Shown text params old new found → map shown found ≡ sort_by by_key
      (filter test (map t.kind.decode rows))
  lists = placed.lists desk_schema t.place t.kind old new desk.schema_is (t.stored old.now desk)

  -- the first so many of them
  pub pages : (text : List ℕ) (query : Query) (names : List (List ℕ)) →
      Asks desk_schema text query names → query.from ≡ inner t.place.table.tree end →
      query.group ≡ None → query.distinct ≡ false
      → (params : Row) (shown : Row → X) →
      ((x : ℤ × X) → shown (output query (params ∷ t.kind.encode x ∷ [])).1 ≡ t.kind.decode
      (t.kind.encode x))
      → (test : X → Bool) → ((x : ℤ × X) →
      list_all (holds (params ∷ t.kind.encode x ∷ [])) query.filter ≡ test x.1)
      → ((x y : ℤ × X) → output_cmp query (output query (params ∷ t.kind.encode x ∷ []))
      (output query (params ∷ t.kind.encode y ∷ [])) ≡ t.kind.order (t.kind.key x.1)
      (t.kind.key y.1))
      → (limit : ℕ) → ((xs : List Row) → page query params xs ≡ take limit xs) → (found : List Row)
      → Shown text params old new found →
      map shown found ≡ take limit (sort_by by_key (filter test (map t.kind.decode rows)))
  pages = placed.pages desk_schema t.place t.kind old new desk.schema_is (t.stored old.now desk)

  -- the entries that pass a test
  pub lists_entries : (text : List ℕ) (query : Query) (names : List (List ℕ)) →
      Asks desk_schema text query names → query.from ≡ inner t.place.table.tree end →
      query.group ≡ None → query.distinct ≡ false
      → (params : Row) (shown : Row → X) →
      ((x : ℤ × X) → shown (output query (params ∷ t.kind.encode x ∷ [])).1 ≡ t.kind.decode
      (t.kind.encode x))
      → (test : K × V → Bool) → ((x : ℤ × X) →
      list_all (holds (params ∷ t.kind.encode x ∷ [])) query.filter ≡ test (
        t.kind.key x.1,
        t.kind.val x.1,
      ))
      → ((x y : ℤ × X) → output_cmp query (output query (params ∷ t.kind.encode x ∷ []))
      (output query (params ∷ t.kind.encode y ∷ [])) ≡ t.kind.order (t.kind.key x.1)
      (t.kind.key y.1))
      → ((xs : List Row) → page query params xs ≡ xs) → (found : List Row) →
      Shown text params old new found →
      pairs_of t.kind.key t.kind.val (map shown found) ≡ filter test (entries before)
  lists_entries = placed.lists_entries desk_schema t.place t.kind old new desk.schema_is
      (t.stored old.now desk)

  -- the first so many of them
  pub pages_entries : (text : List ℕ) (query : Query) (names : List (List ℕ)) →
      Asks desk_schema text query names → query.from ≡ inner t.place.table.tree end →
      query.group ≡ None → query.distinct ≡ false
      → (params : Row) (shown : Row → X) →
      ((x : ℤ × X) → shown (output query (params ∷ t.kind.encode x ∷ [])).1 ≡ t.kind.decode
      (t.kind.encode x))
      → (test : K × V → Bool) → ((x : ℤ × X) →
      list_all (holds (params ∷ t.kind.encode x ∷ [])) query.filter ≡ test (
        t.kind.key x.1,
        t.kind.val x.1,
      ))
      → ((x y : ℤ × X) → output_cmp query (output query (params ∷ t.kind.encode x ∷ []))
      (output query (params ∷ t.kind.encode y ∷ [])) ≡ t.kind.order (t.kind.key x.1)
      (t.kind.key y.1))
      → (limit : ℕ) → ((xs : List Row) → page query params xs ≡ take limit xs) → (found : List Row)
      → Shown text params old new found →
      pairs_of t.kind.key t.kind.val (map shown found) ≡ take limit
      (filter test (entries before))
  pages_entries = placed.pages_entries desk_schema t.place t.kind old new desk.schema_is
      (t.stored old.now desk)

  -- a row of a new key is put
  pub puts : (text : List ℕ) (terms : List Term) (width : ℕ) →
      Orders desk_schema text (Insert t.place.at (Values terms width)) →
      (params source : Row) (count : ℕ) (x : X)
      → value_rows (stamped t.place.table params) width (length terms / width) terms ≡ source ∷ [] →
      rowid (cast_row t.place.table source) ≡ Null
      → ((n : ℤ) → Int n ∷ drop 1 (cast_row t.place.table source) ≡ t.kind.encode (n, x)) →
      ((n : ℤ) → t.kind.decode (t.kind.encode (n, x)) ≡ x)
      → get before (t.kind.key x) ≡ None → Executes text params old new (Ok count) →
      Leaves old new (t.put (tables_in old.now) (insert before (t.kind.key x) (t.kind.val x)))
  puts text terms width known params source count x sources null row back free h =
      left t old new _ desk (placed.puts desk_schema t.place t.kind old new desk.schema_is
      (t.stored old.now desk) text terms width known params source count x sources null row back
      free h)

  -- a row is put at a key that was free, or its key was taken and all is as it was
  pub adds : Guard desk_schema t.place t.kind → (text : List ℕ) (terms : List Term) (width : ℕ) →
      Orders desk_schema text (Insert t.place.at (Values terms width)) →
      (params source : Row) (x : X)
      → value_rows (stamped t.place.table params) width (length terms / width) terms ≡ source ∷ [] →
      rowid (cast_row t.place.table source) ≡ Null
      → ((n : ℤ) → Int n ∷ drop 1 (cast_row t.place.table source) ≡ t.kind.encode (n, x)) →
      ((n : ℤ) → t.kind.decode (t.kind.encode (n, x)) ≡ x)
      → (there : Bool) → HasTried text params old new (Ok there) →
      Updated there old new (get before (t.kind.key x))
      (t.put (tables_in old.now) (insert before (t.kind.key x) (t.kind.val x))) (tables_in old.now)
  adds g text terms width known params source x sources null row back true h =
      let it = refused desk_schema t.place t.kind g old new desk.schema_is (t.stored old.now desk)
      text terms width known params source x sources null row h.0 in
      let was = h.1 it.0.0.is_open in
      record {
        made = λ _. unchanged_leaves old new desk it.0;
        untouched = λ e. absurd (true≢false e);
        free = λ e. absurd (true≢false e);
        taken = λ _. it.1 (subst IsDatabase it.0.0.now_is was.0);
      }
  adds g text terms width known params source x sources null row back false h =
      let it = added desk_schema t.place t.kind g old new desk.schema_is (t.stored old.now desk)
      text terms width known params source h.0 x sources null row back h.1 in
      record {
        made = λ e. absurd (true≢false (sym e));
        untouched = λ _. left t old new _ desk it.1;
        free = λ _. it.0;
        taken = λ e. absurd (true≢false (sym e));
      }

  -- the rows are dropped whose keys pass a test
  pub drops : (text : List ℕ) (terms : List Term) →
      Orders desk_schema text (Delete t.place.at (record {
        lets = [];
        body = query_of t.place.table.tree terms (col 1 0 ∷ []);
      })) →
      (params : Row) (count : ℕ) (gone : K → Bool)
      → ((x : ℤ × X) → list_all (holds (params ∷ t.kind.encode x ∷ [])) terms ≡ gone
      (t.kind.key x.1)) → Executes text params old new (Ok count) →
      Leaves old new (t.put (tables_in old.now) (retain_keys before (λ q. not (gone q))))
  drops text terms known params count gone tests h =
      left t old new _ desk
      (placed.drops desk_schema t.place t.kind old new desk.schema_is (t.stored old.now desk)
      text terms known params count gone tests h)

  -- the row at a key is dropped
  pub drops_at : (text : List ℕ) (terms : List Term) →
      Orders desk_schema text (Delete t.place.at (record {
        lets = [];
        body = query_of t.place.table.tree terms (col 1 0 ∷ []);
      })) → (params : Row) (count : ℕ) (q : K)
      → ((x : ℤ × X) → list_all (holds (params ∷ t.kind.encode x ∷ [])) terms ≡ eq_by_cmp
      t.kind.order q (t.kind.key x.1)) → Executes text params old new (Ok count) →
      Leaves old new (t.put (tables_in old.now) (remove before q))
  drops_at text terms known params count q tests h =
      left t old new _ desk
      (placed.drops_at desk_schema t.place t.kind old new desk.schema_is (t.stored old.now desk)
      text terms known params count q tests h)

  -- the row of a key is set, where there is one
  pub sets : (text : List ℕ) (terms project : List Term) →
      Orders desk_schema text (Update t.place.at (record {
        lets = [];
        body = query_of t.place.table.tree terms project;
      })) → (params : Row) (count : ℕ) (q : K) (f : X → X)
      (v : V)
      → ((x : X) → t.kind.key (f x) ≡ t.kind.key x) → ((x : X) → t.kind.val (f x) ≡ v) →
      ((x : ℤ × X) → t.kind.decode (t.kind.encode (x.0, f x.1)) ≡ f x.1)
      → ((x : ℤ × X) → list_all (holds (params ∷ t.kind.encode x ∷ [])) terms ≡ eq_by_cmp
      t.kind.order q (t.kind.key x.1))
      → ((x : ℤ × X) → id_in (rowid (eval_all project (params ∷ t.kind.encode x ∷ []))) ≡ x.0)
      → ((x : ℤ × X) → cast_row t.place.table
      (drop 1 (eval_all project (params ∷ t.kind.encode x ∷ []))) ≡ t.kind.encode (x.0, f x.1))
      → Executes text params old new (Ok count) →
      Updated (not (nat_eq count 0)) old new (get before q) (t.put (tables_in old.now) before)
      (t.put (tables_in old.now) (insert before q v))
  sets text terms project known params count q f v keeps value back tests ids set h =
      elim (placed.sets desk_schema t.place t.kind old new desk.schema_is (t.stored old.now desk)
      text terms project known params count q f v keeps value back tests ids set h) [
        | inl none ↦ told_there (inl (none.0, (none.1.0, left t old new _ desk none.1.1)))
        | inr some ↦ told_there (inr (some.0, (some.1.0, left t old new _ desk some.1.1)))
      ]

-- the row at a key is dropped, and then one is put
anew : {X K V : Type 0} (t : DeskTable X K V) (old mid new : State) (q : K) (v : V) →
    Leaves old mid (t.put (tables_in old.now) (remove (t.at (tables_in old.now)) q))
    → (IsDesk mid.now → get (t.at (tables_in mid.now)) q ≡ None →
    Leaves mid new (t.put (tables_in mid.now) (insert (t.at (tables_in mid.now)) q v))) →
    Leaves old new (t.put (tables_in old.now) (insert (t.at (tables_in old.now)) q v))
anew t old mid new q v gone put =
    let was = tables_in old.now in
    let m = t.at was in
    let there : t.at (tables_in mid.now) ≡ remove m q = ap t.at gone.tables
    ∙ t.at_put was (remove m q) in
    let free : get (t.at (tables_in mid.now)) q ≡ None = ap (λ n. get n q) there
    ∙ placed.removed_free t.kind.total t.kind.exact m q in
    let all : t.put (tables_in mid.now) (insert (t.at (tables_in mid.now)) q v) ≡ t.put was
    (insert m q v) =
    ap (λ n. t.put (tables_in mid.now) (insert n q v)) there
    ∙ ap (λ u. t.put u (insert (remove m q) q v)) gone.tables
    ∙ t.put_put was (remove m q) (insert (remove m q) q v)
    ∙ ap (t.put was) (placed.put_anew t.kind.total t.kind.exact m q v) in
    subst (Leaves old new) all (leaves_then old mid new _ _ gone (put gone.desk free))

-- so it is where an INSERT met a row at the key
pub renewed : {X K V : Type 0} (t : DeskTable X K V) (old a b new : State) (q : K) (v : V)
    (there : Bool) → Leaves old a (tables_in old.now)
    → (IsDesk a.now → Leaves a b (t.put (tables_in a.now) (remove (t.at (tables_in a.now)) q)))
    → (IsDesk b.now → Updated there b new (get (t.at (tables_in b.now)) q)
    (t.put (tables_in b.now) (insert (t.at (tables_in b.now)) q v)) (tables_in b.now)) →
    Leaves old new (t.put (tables_in old.now) (insert (t.at (tables_in old.now)) q v))
renewed t old a b new q v there same gone put =
    subst (λ u. Leaves old new (t.put u (insert (t.at u) q v))) same.tables
    (leaves_then old a new _ _ same (anew t a b new q v (gone same.desk)
    (λ desk free. made_free (put desk) free)))

-- A table of typed rows among the tables of a schema: what a text finds in it by a key, and what a
-- text leaves of it.
use Rattle.std.proofs.Common.{◌≡◌, ◌⊎◌, inl, inr, ℕ, ℤ, Bool, true, false, cond, List, [], ◌∷◌, map}
use Rattle.std.proofs.Common.{filter, find, take, drop, length, ◌/◌, slice_get, option_map, not}
use Rattle.std.proofs.Common.{Option, Some, None, Ok, refl, sym, ap, ◌∙◌, subst}
use Rattle.std.specs.Prelude.{is_some}
use Rattle.std.specs.List.{list_all}
use Rattle.std.specs.declared.cmp.Ordering.{Ordering}
use Rattle.std.specs.Ordering.{eq_by_cmp}
use Rattle.std.specs.Cmp.{IsTotalOrder}
use Rattle.std.specs.FinMap.{FinMap, get, insert, remove, retain_keys, entries, get-insert}
use Rattle.std.specs.FinMap.{get-remove, same_map}
use Rattle.std.proofs.lemmas.Map.Lookups.{CmpEqualImpliesEq}
use Rattle.sqlite.specs.declared.types.Value.TheVariants.{Null, Int}
use Rattle.sqlite.specs.Order.{Row}
use Rattle.sqlite.specs.Schema.{Schema}
use Rattle.sqlite.specs.Table.{Table}
use Rattle.sqlite.specs.Tree.{Trees, rowid}
use Rattle.sqlite.specs.Term.{Term, col, holds, eval_all}
use Rattle.sqlite.specs.Cast.{cast_row}
use Rattle.sqlite.specs.Command.TheVariants.{Insert, Update, Delete}
use Rattle.sqlite.specs.Source.TheVariants.{Values}
use Rattle.sqlite.specs.Query.{Query, inner, end, output, output_cmp, page}
use Rattle.sqlite.specs.Program.{overlay}
use Rattle.sqlite.specs.Edit.{id_in}
use Rattle.sqlite.specs.Effect.{value_rows}
use Rattle.sqlite.specs.Rows.{stamped}
use Rattle.sqlite.specs.State.{State, Executes, Shown}
use Rattle.sqlite.proofs.Callers.{runs_as}
use Rattle.sqlite_rules.specs.Action.{works}
use Rattle.sqlite_schema.specs.declared.schema.Keys.TheVariants.{Enforced}
use Rattle.sqlite_keyed.specs.Lists.{sort_by}
use Rattle.hq_owned.specs.Rows.{map_of, pairs_of}
use Rattle.hq_owned.proofs.Lists.{remove_is}
use Rattle.hq_owned.proofs.Pages.{sorted_rows, page_rows}
use Rattle.hq_owned.proofs.Parts.{tied_true}
use Rattle.hq_keyed.specs.Changed.{Sets}
use Rattle.hq_keyed.specs.Stored.{IsStored}
use Rattle.hq_keyed.proofs.Known.{Asks, Orders, answered, GoesOn, goes_on}
use Rattle.hq_keyed.proofs.Keyed as keyed
use Rattle.hq_keyed.proofs.Pages.{selected, listed, paged}
use Rattle.hq_keyed.proofs.Select.{query_of, option_map-map}
use Rattle.hq_keyed.proofs.Writes.{inserted, updated, deleted}

-- values that are kept as rows: their columns, the order of their keys, and what stands at a key
pub record Kind (X K V : Type 0) : Type 0 where
  pub encode : ℤ × X → Row
  pub decode : Row → X
  pub order : K → K → Ordering
  pub total : IsTotalOrder order
  pub exact : CmpEqualImpliesEq order
  pub key : X → K
  pub val : X → V
  pub numbered : (k : ℤ × X) → rowid (encode k) ≡ Int k.0

-- the place of a table in a schema: no foreign key acts on it, and its rowids are not counted
pub record Place (schema : Schema) : Type 0 where
  pub at : ℕ
  pub table : Table
  pub listed : slice_get schema.tables at ≡ Some table
  pub plain : (db : Trees) → overlay db [] table.tree ≡ db table.tree
  pub unlinked : (olds news : List Row) → works schema Enforced 0 table.tree olds news ≡ []
  pub uncounted : table.is_counted ≡ false

-- a write left a table's rows as this map, and all other rows as they were
pub record Wrote {X K V : Type 0} (schema : Schema) (tree : ℕ) (k : Kind X K V) (old new : State)
    (after : FinMap k.order V) : Type 0 where
  pub rows : List Row
  pub sets : Sets schema old.now new.now tree rows
  pub stored : IsStored k.encode k.decode k.order k.key rows
  pub map_is : map_of k.order k.key k.val (map k.decode rows) ≡ after
  pub on : GoesOn old new

module _ {X K V : Type 0} (schema : Schema) (p : Place schema) (k : Kind X K V) where
  abbrev pub Are : List Row → Type 0
  Are = IsStored k.encode k.decode k.order k.key

  abbrev pub map_in : List Row → FinMap k.order V
  map_in rows = map_of k.order k.key k.val (map k.decode rows)

  module _ (old new : State) (has : old.now.schema ≡ schema) (s : Are (old.now.trees p.table.tree))
    where
      abbrev rows : List Row
      rows = old.now.trees p.table.tree

      abbrev Left : FinMap k.order V → Type 0
      Left = Wrote schema p.table.tree k old new

      abbrev by_key : X → X → Ordering
      by_key x y = k.order (k.key x) (k.key y)

      at_tree : overlay old.now.trees [] p.table.tree ≡ rows
      at_tree = p.plain old.now.trees

      over : Are (overlay old.now.trees [] p.table.tree)
      over = subst Are (sym at_tree) s

      -- the row at a key
      pub row_at : (text : List ℕ) (terms project : List Term) (names : List (List ℕ)) →
          Asks schema text (query_of p.table.tree terms project) names →
          (params : Row) (shown : Row → X)
          → ((x : ℤ × X) → shown (output (query_of p.table.tree terms project) (params ∷ k.encode x
          ∷ [])).1 ≡ k.decode (k.encode x)) → ((xs : List Row) →
          page (query_of p.table.tree terms project) params xs ≡ xs)
          → (q : K) → ((x : ℤ × X) →
          list_all (holds (params ∷ k.encode x ∷ [])) terms ≡ eq_by_cmp k.order q (k.key x.1)) →
          (found : List Row) → Shown text params old new found →
          option_map shown (slice_get found 0) ≡ find (λ x. eq_by_cmp k.order q (k.key x))
          (map k.decode rows)
      row_at text terms project names known params shown reads whole q tests found h =
          let query = query_of p.table.tree terms project in
          selected k.encode k.decode k.total k.exact k.key k.val query (overlay old.now.trees [])
          p.table.tree params over shown refl refl refl reads found
          (answered schema old new has text params query names known found h) q tests whole
          ∙ ap (λ l. find (λ x. eq_by_cmp k.order q (k.key x)) (map k.decode l)) at_tree

      -- what stands at a key
      pub got : (text : List ℕ) (terms project : List Term) (names : List (List ℕ)) →
          Asks schema text (query_of p.table.tree terms project) names →
          (params : Row) (shown : Row → X)
          → ((x : ℤ × X) → shown (output (query_of p.table.tree terms project) (params ∷ k.encode x
          ∷ [])).1 ≡ k.decode (k.encode x)) → ((xs : List Row) →
          page (query_of p.table.tree terms project) params xs ≡ xs)
          → (q : K) → ((x : ℤ × X) →
          list_all (holds (params ∷ k.encode x ∷ [])) terms ≡ eq_by_cmp k.order q (k.key x.1)) →
          (found : List Row) → Shown text params old new found →
          option_map (λ r. k.val (shown r)) (slice_get found 0) ≡ get (map_in rows) q
      got text terms project names known params shown reads whole q tests found h =
          sym (option_map-map k.val shown (slice_get found 0))
          ∙ ap (option_map k.val) (row_at text terms project names known params shown reads whole
          q tests found h) ∙ sym (keyed.got k.encode k.decode k.total k.exact k.key k.val rows q)

      -- the rows that pass a test, in the order of their keys
      pub lists : (text : List ℕ) (query : Query) (names : List (List ℕ)) →
          Asks schema text query names → query.from ≡ inner p.table.tree end → query.group ≡ None →
          query.distinct ≡ false
          → (params : Row) (shown : Row → X) → ((x : ℤ × X) →
          shown (output query (params ∷ k.encode x ∷ [])).1 ≡ k.decode (k.encode x))
          → (test : X → Bool) → ((x : ℤ × X) →
          list_all (holds (params ∷ k.encode x ∷ [])) query.filter ≡ test x.1)
          → ((x y : ℤ × X) → output_cmp query (output query (params ∷ k.encode x ∷ []))
          (output query (params ∷ k.encode y ∷ [])) ≡ k.order (k.key x.1) (k.key y.1))
          → ((xs : List Row) → page query params xs ≡ xs) → (found : List Row) →
          Shown text params old new found → map shown found ≡ sort_by by_key
          (filter test (map k.decode rows))
      lists text query names known from no_group no_distinct params shown reads test tests order_is
          whole found h =
          listed k.encode k.decode k.total k.exact k.key k.val query (overlay old.now.trees [])
          p.table.tree params over shown from no_group no_distinct reads found
          (answered schema old new has text params query names known found h) test tests order_is
          whole
          ∙ ap (λ l. sort_by by_key (filter test (map k.decode l))) at_tree

      -- the first so many of them
      pub pages : (text : List ℕ) (query : Query) (names : List (List ℕ)) →
          Asks schema text query names → query.from ≡ inner p.table.tree end → query.group ≡ None →
          query.distinct ≡ false
          → (params : Row) (shown : Row → X) → ((x : ℤ × X) →
          shown (output query (params ∷ k.encode x ∷ [])).1 ≡ k.decode (k.encode x))
          → (test : X → Bool) → ((x : ℤ × X) →
          list_all (holds (params ∷ k.encode x ∷ [])) query.filter ≡ test x.1)
          → ((x y : ℤ × X) → output_cmp query (output query (params ∷ k.encode x ∷ []))
          (output query (params ∷ k.encode y ∷ [])) ≡ k.order (k.key x.1) (k.key y.1))
          → (limit : ℕ) → ((xs : List Row) → page query params xs ≡ take limit xs) →
          (found : List Row) → Shown text params old new found →
          map shown found ≡ take limit (sort_by by_key (filter test (map k.decode rows)))
      pages text query names known from no_group no_distinct params shown reads test tests order_is
          limit cut found h =
          paged k.encode k.decode k.total k.exact k.key k.val query (overlay old.now.trees [])
          p.table.tree params over shown from no_group no_distinct reads found
          (answered schema old new has text params query names known found h) test tests order_is
          limit cut
          ∙ ap (λ l. take limit (sort_by by_key (filter test (map k.decode l)))) at_tree

      -- the entries that pass a test
      pub lists_entries : (text : List ℕ) (query : Query) (names : List (List ℕ)) →
          Asks schema text query names → query.from ≡ inner p.table.tree end → query.group ≡ None →
          query.distinct ≡ false
          → (params : Row) (shown : Row → X) → ((x : ℤ × X) →
          shown (output query (params ∷ k.encode x ∷ [])).1 ≡ k.decode (k.encode x))
          → (test : K × V → Bool) → ((x : ℤ × X) →
          list_all (holds (params ∷ k.encode x ∷ [])) query.filter ≡ test (k.key x.1, k.val x.1))
          → ((x y : ℤ × X) → output_cmp query (output query (params ∷ k.encode x ∷ []))
          (output query (params ∷ k.encode y ∷ [])) ≡ k.order (k.key x.1) (k.key y.1))
          → ((xs : List Row) → page query params xs ≡ xs) → (found : List Row) →
          Shown text params old new found → pairs_of k.key k.val (map shown found) ≡ filter test
          (entries (map_in rows))
      lists_entries text query names known from no_group no_distinct params shown reads test tests
          order_is whole found h =
          ap (pairs_of k.key k.val) (lists text query names known from no_group no_distinct params
          shown reads (λ x. test (k.key x, k.val x)) tests order_is whole found h)
          ∙ sorted_rows k.total k.key k.val test (map k.decode rows) s.unique

      -- the first so many of them
      pub pages_entries : (text : List ℕ) (query : Query) (names : List (List ℕ)) →
          Asks schema text query names → query.from ≡ inner p.table.tree end → query.group ≡ None →
          query.distinct ≡ false
          → (params : Row) (shown : Row → X) → ((x : ℤ × X) →
          shown (output query (params ∷ k.encode x ∷ [])).1 ≡ k.decode (k.encode x))
          → (test : K × V → Bool) → ((x : ℤ × X) →
          list_all (holds (params ∷ k.encode x ∷ [])) query.filter ≡ test (k.key x.1, k.val x.1))
          → ((x y : ℤ × X) → output_cmp query (output query (params ∷ k.encode x ∷ []))
          (output query (params ∷ k.encode y ∷ [])) ≡ k.order (k.key x.1) (k.key y.1))
          → (limit : ℕ) → ((xs : List Row) → page query params xs ≡ take limit xs) →
          (found : List Row) → Shown text params old new found →
          pairs_of k.key k.val (map shown found) ≡ take limit
          (filter test (entries (map_in rows)))
      pages_entries text query names known from no_group no_distinct params shown reads test tests
          order_is limit cut found h =
          ap (pairs_of k.key k.val) (pages text query names known from no_group no_distinct params
          shown reads (λ x. test (k.key x, k.val x)) tests order_is limit cut found h)
          ∙ page_rows k.total k.key k.val limit test (map k.decode rows) s.unique

      -- a row of a new key is put
      pub puts : (text : List ℕ) (terms : List Term) (width : ℕ) →
          Orders schema text (Insert p.at (Values terms width)) →
          (params source : Row) (count : ℕ) (x : X)
          → value_rows (stamped p.table params) width (length terms / width) terms ≡ source ∷ [] →
          rowid (cast_row p.table source) ≡ Null
          → ((n : ℤ) → Int n ∷ drop 1 (cast_row p.table source) ≡ k.encode (n, x)) →
          ((n : ℤ) → k.decode (k.encode (n, x)) ≡ x)
          → get (map_in rows) (k.key x) ≡ None → Executes text params old new (Ok count) →
          Left (insert (map_in rows) (k.key x) (k.val x))
      puts text terms width known params source count x sources null row back free h =
          let w = runs_as text params old new schema has _ known.is known.plain count h in
          record {
            rows = _;
            sets = inserted schema k.encode k.numbered p.at p.table p.listed p.plain
                p.unlinked terms
                width old new _ params count s.kept x source p.uncounted sources null row has
                s.rows_are s.rises w;
            stored = keyed.stored_insert k.encode k.decode k.total k.exact k.key k.val rows s x back
                free;
            map_is = keyed.table_insert k.encode k.decode k.total k.exact k.key k.val rows s x back
                free;
            on = goes_on old new _ _ params count w;
          }

      -- the rows are dropped whose keys pass a test
      pub drops : (text : List ℕ) (terms : List Term) →
          Orders schema text (Delete p.at (record {
            lets = [];
            body = query_of p.table.tree terms (col 1 0 ∷ []);
          })) →
          (params : Row) (count : ℕ) (gone : K → Bool)
          → ((x : ℤ × X) → list_all (holds (params ∷ k.encode x ∷ [])) terms ≡ gone (k.key x.1)) →
          Executes text params old new (Ok count) →
          Left (retain_keys (map_in rows) (λ q. not (gone q)))
      drops text terms known params count gone tests h =
          let w = runs_as text params old new schema has _ known.is known.plain count h in
          record {
            rows = _;
            sets = deleted schema k.encode k.numbered p.at p.table p.listed p.plain p.unlinked terms
                old new _ params count s.kept (λ x. gone (k.key x.1)) tests has s.rows_are
                s.rises w;
            stored = keyed.stored_delete k.encode k.decode k.total k.exact k.key k.val rows s gone;
            map_is = keyed.table_delete k.encode k.decode k.total k.exact k.key k.val rows s gone;
            on = goes_on old new _ _ params count w;
          }

      -- the row at a key is dropped
      pub drops_at : (text : List ℕ) (terms : List Term) →
          Orders schema text (Delete p.at (record {
            lets = [];
            body = query_of p.table.tree terms (col 1 0 ∷ []);
          })) → (params : Row) (count : ℕ) (q : K)
          → ((x : ℤ × X) → list_all (holds (params ∷ k.encode x ∷ [])) terms ≡ eq_by_cmp k.order q
          (k.key x.1)) → Executes text params old new (Ok count) → Left (remove (map_in rows) q)
      drops_at text terms known params count q tests h =
          subst Left (sym (remove_is k.total k.exact (map_in rows) q))
          (drops text terms known params count (eq_by_cmp k.order q) tests h)

      -- the row of a key is set, where there is one
      pub sets : (text : List ℕ) (terms project : List Term) →
          Orders schema text (Update p.at (record {
            lets = [];
            body = query_of p.table.tree terms project;
          })) → (params : Row) (count : ℕ) (q : K) (f : X → X)
          (v : V)
          → ((x : X) → k.key (f x) ≡ k.key x) → ((x : X) → k.val (f x) ≡ v) →
          ((x : ℤ × X) → k.decode (k.encode (x.0, f x.1)) ≡ f x.1)
          → ((x : ℤ × X) → list_all (holds (params ∷ k.encode x ∷ [])) terms ≡ eq_by_cmp k.order q
          (k.key x.1))
          → ((x : ℤ × X) → id_in (rowid (eval_all project (params ∷ k.encode x ∷ []))) ≡ x.0)
          → ((x : ℤ × X) → cast_row p.table (drop 1 (eval_all project (params ∷ k.encode x ∷ []))) ≡
          k.encode (x.0, f x.1))
          → Executes text params old new (Ok count)
          → ((count ≡ 0) × ((get (map_in rows) q ≡ None) × Left (map_in rows)))
          ⊎ ((count ≡ 1) × ((is_some (get (map_in rows) q) ≡ true)
          × Left (insert (map_in rows) q v)))
      sets text terms project known params count q f v keeps value back tests ids set h =
          let w = runs_as text params old new schema has _ known.is known.plain count h in
          let is : ℤ × X → Bool = λ x. eq_by_cmp k.order q (k.key x.1) in
          let one = keyed.one k.encode k.decode k.total k.exact k.key k.val rows s q in
          let done = updated schema k.encode k.numbered p.at p.table p.listed p.plain
          p.unlinked terms
          project old new _ params count s.kept is f tests ids set one has s.rows_are s.rises w in
          let stored = keyed.stored_update k.encode k.decode k.total k.exact k.key k.val q f keeps
          rows s back in
          let left : (after : FinMap k.order V) → map_in _ ≡ after → Left after =
          λ after same. record {
            rows = _;
            sets = done.0;
            stored = stored;
            map_is = same;
            on = goes_on old new _ _ params count w;
          } in
          elim (keyed.outcome k.encode k.decode k.total k.exact k.key k.val q f keeps rows s back) [
            | inl none ↦ inl (done.1 ∙ none.0, (none.1.0, left _ (ap map_in none.1.1)))
            | inr some ↦ inr (
              done.1 ∙ some.0,
              (
                ap is_some some.1.1,
                left _ (some.1.2
                    ∙ ap (insert (map_in rows) q) (value some.1.0)),
              ),
            )
          ]

-- ---- a row in the place of another

module _ {K V : Type 0} {R : K → K → Ordering} (o : IsTotalOrder R) (exact : CmpEqualImpliesEq R)
    (m : FinMap R V) (q : K) where
  -- what is removed is not there
  pub removed_free : get (remove m q) q ≡ None
  removed_free = get-remove o m q q ∙ ap (λ b. cond b None (get m q)) (tied_true o q)

  -- put anew is put
  pub put_anew : (v : V) → insert (remove m q) q v ≡ insert m q v
  put_anew v = same_map o exact _ _ (λ x. get-insert o (remove m q) q v x
      ∙ ap (cond (eq_by_cmp R x q) (Some v)) (get-remove o m q x)
      ∙ twice v (eq_by_cmp R x q) (get m x) ∙ sym (get-insert o m q v x)) where
        twice : (v : V) (b : Bool) (o : Option V) →
            cond b (Some v) (cond b None o) ≡ cond b (Some v) o
        twice v true o = refl
        twice v false o = refl

-- The rows of an answer over one table of typed rows, in the order of the key, whatever the query
-- shows of each.
use Rattle.std.proofs.Common.{◌≡◌, ℕ, ℤ, Bool, false, List, [], ◌∷◌, map, filter, None, sym, ap}
use Rattle.std.proofs.Common.{◌∙◌, Ordering, is_eq}
use Rattle.std.specs.List.{list_all}
use Rattle.std.specs.Cmp.{IsTotalOrder}
use Rattle.std.proofs.lemmas.Map.Lookups.{CmpEqualImpliesEq}
use Rattle.sqlite.specs.Order.{Row}
use Rattle.sqlite.specs.Tree.{Trees}
use Rattle.sqlite.specs.Term.{holds}
use Rattle.sqlite.specs.Query.{Query, inner, end, page, IsAnswer, Output, output, output_cmp}
use Rattle.sqlite_sql.proofs.QueryLemmas.{output_cmp_total}
use Rattle.sqlite_keyed.specs.Lists.{sort_by}
use Rattle.sqlite_keyed.proofs.SortLemmas.{sorted_is-sort_by, sort_by-map}
use Rattle.sqlite_keyed.proofs.ListLemmas.{map-map, filter-map, ascending-map, ascending-filter}
use Rattle.sqlite_keyed.proofs.ListLemmas.{ascending_weaker}
use Rattle.hq_keyed.specs.Stored.{IsStored}
use Rattle.hq_keyed.proofs.Select.{answer_is}
use Rattle.hq_keyed.proofs.Keyed.{typed, apart}

-- the rows that pass a test, in the order of the key
abbrev pub passing_of : {X K : Type 0} → (K → K → Ordering) → (X → K) → (X → Bool) → List (ℤ × X) →
    List (ℤ × X)
passing_of R key test kept = sort_by (λ j k. R (key j.1) (key k.1)) (filter (λ k. test k.1) kept)

module _ {X K V : Type 0} (encode : ℤ × X → Row) (decode : Row → X) {R : K → K → Ordering}
    (o : IsTotalOrder R) (exact : CmpEqualImpliesEq R) (key : X → K) (val : X → V)
    (q : Query) (db : Trees) (tree : ℕ) (params : Row) (s : IsStored encode decode R key (db tree))
    (from : q.from ≡ inner tree end) (no_group : q.group ≡ None) (no_distinct : q.distinct ≡ false)
    (rows : List Row) (a : IsAnswer q db params rows)
    (test : X → Bool) (tests : (k : ℤ × X) →
    list_all (holds (params ∷ encode k ∷ [])) q.filter ≡ test k.1)
    (order_is : (j k : ℤ × X) → output_cmp q (output q (params ∷ encode j ∷ []))
    (output q (params ∷ encode k ∷ [])) ≡ R (key j.1) (key k.1)) where
  abbrev show : ℤ × X → Output
  show k = output q (params ∷ encode k ∷ [])

  abbrev is : ℤ × X → Bool
  is k = test k.1

  abbrev by : ℤ × X → ℤ × X → Ordering
  by j k = R (key j.1) (key k.1)

  abbrev passing : List (ℤ × X)
  passing = passing_of R key test s.kept

  -- what the query shows of each, before rows are left out at the ends
  pub outputs_are : a.ordered ≡ map show passing
  outputs_are =
      let fs = filter is s.kept in
      let same = answer_is q db tree params encode s.kept is from no_group no_distinct s.rows_are
      tests rows a in
      let untied = ascending-map (λ x y. is_eq (output_cmp q x y) ≡ false) show fs
      (ascending_weaker (λ j k. is_eq (by j k) ≡ false)
      (λ j k. is_eq (output_cmp q (show j) (show k)) ≡ false) (λ j k h. ap is_eq (order_is j k)
      ∙ h) fs
      (ascending-filter (λ j k. is_eq (by j k) ≡ false) is s.kept
      (apart encode decode o exact key val (db tree) s))) in
      sorted_is-sort_by (output_cmp q) (output_cmp_total q) (map show fs) a.ordered untied same
      a.sorted ∙ sort_by-map (output_cmp q) show fs ∙ (λ i. map show
      (sort_by (λ j k. order_is j k i) fs))

  -- the rows, where none is left out
  pub rows_are : ((xs : List Row) → page q params xs ≡ xs) →
      rows ≡ map (λ k. (output q (params ∷ encode k ∷ [])).1) (passing_of R key test s.kept)
  rows_are whole = a.shown ∙ whole _ ∙ ap (map (λ (r : Output). r.1)) outputs_are
      ∙ map-map (λ (r : Output). r.1) show passing

  -- the values of the rows that pass
  pub values_are : map (λ k. k.1) (passing_of R key test s.kept) ≡ sort_by
      (λ x y. R (key x) (key y)) (filter test (map decode (db tree)))
  values_are = sym (sort_by-map (λ x y. R (key x) (key y)) (λ (k : ℤ × X). k.1) (filter is s.kept))
      ∙ ap (sort_by (λ x y. R (key x) (key y))) (sym (filter-map test (λ (k : ℤ × X). k.1) s.kept)
      ∙ ap (filter test) (sym (typed encode decode o exact key val (db tree) s)))

-- A page of one customer's rows, in the order of what their keys have behind the customer's name,
-- is the customer's part of the map that the rows stand for.
use Rattle.std.proofs.Common.{◌≡◌, ℕ, Bool, ◌&&◌, List, map, filter, sym, ap, ◌∙◌, subst}
use Rattle.std.proofs.Common.{Ordering, Less, IsPermutation, IsSorted}
use Rattle.std.specs.Ordering.{eq_by_cmp}
use Rattle.std.specs.Cmp.{IsTotalOrder, on_total}
use Rattle.std.specs.Cmp.Lexicographic.{nat_list_cmp_total}
use Rattle.std.proofs.lemmas.List.Sorted.{IsPermutation-map, IsPermutation-trans}
use Rattle.std.specs.FinMap.{entries, entries_sorted}
use Rattle.sqlite_trees.specs.Tree.{IsAscending}
use Rattle.sqlite_keyed.specs.Lists.{sort_by}
use Rattle.sqlite_keyed.proofs.ListLemmas.{map-map, ascending-filter, ascending-map}
use Rattle.sqlite_keyed.proofs.SortLemmas.{sorted_unique, IsPermutation-sort_by}
use Rattle.hq_owned.specs.Owned.{by_both, rows_of, text_cmp}
use Rattle.hq_owned.specs.Rows.{map_of, HasUniqueKeys}
use Rattle.hq_owned.proofs.Parts.{rows_sorted}
use Rattle.hq_owned.proofs.Pages.{sorted_rows}
use Rattle.hq_owned.proofs.OwnedPages.{owned}
use Rattle.hq_tables.proofs.Orders.{ascending}

-- rows of a table: what a row stands for is made of its key and its value, and keeps the key
pub record Paged (A K X L : Type 0) (R : K → K → Ordering) : Type 0 where
  pub total : IsTotalOrder R
  pub all_total : IsTotalOrder (by_both text_cmp R)
  pub key : A → List ℕ × K
  pub val : A → X
  pub made : K × X → L
  pub key_of : L → K
  pub same_key : (e : K × X) → key_of (made e) ≡ e.0

module _ {A K X L : Type 0} {R : K → K → Ordering} (table : Paged A K X L R)
    (passes : K → Bool) (c : List ℕ) (rows : List A)
    (u : HasUniqueKeys (by_both text_cmp R) table.key rows) where
  abbrev by_key : L → L → Ordering
  by_key a b = R (table.key_of a) (table.key_of b)

  abbrev by_row : A → A → Ordering
  by_row a b = by_both text_cmp R (table.key a) (table.key b)

  abbrev found_in : A → L
  found_in r = table.made ((table.key r).1, table.val r)

  abbrev is_in : A → Bool
  is_in r = eq_by_cmp text_cmp c (table.key r).0 && passes (table.key r).1

  abbrev part : List (K × X)
  part = filter (λ e. passes e.0)
      (rows_of text_cmp c (entries (map_of (by_both text_cmp R) table.key table.val rows)))

  -- the rows of the customer that pass, sorted
  pub sorted_found : map found_in (sort_by by_row (filter is_in rows)) ≡ map table.made part
  sorted_found =
      let every = entries (map_of (by_both text_cmp R) table.key table.val rows) in
      let test : (List ℕ × K) × X → Bool = λ e. eq_by_cmp text_cmp c e.0.0 && passes e.0.1 in
      sym (map-map (λ (e : (List ℕ × K) × X). table.made (e.0.1, e.1))
      (λ (r : A). (table.key r, table.val r)) (sort_by by_row (filter is_in rows)))
      ∙ ap (map (λ (e : (List ℕ × K) × X). table.made (e.0.1, e.1)))
      (sorted_rows table.all_total table.key table.val test rows u)
      ∙ sym (map-map table.made (λ (e : (List ℕ × K) × X). (e.0.1, e.1)) (filter test every))
      ∙ ap (map table.made) (owned text_cmp (λ (e : K × X). passes e.0) c every)

  -- what was found of them, in order
  pub in_order : (found : List L) → IsPermutation (map found_in (filter is_in rows)) found →
      IsSorted by_key found → found ≡ map table.made part
  in_order found same sorted =
      let every = map_of (by_both text_cmp R) table.key table.val rows in
      let whole = rows_of text_cmp c (entries every) in
      let rising = ascending-filter (λ (a b : K × X). R a.0 b.0 ≡ Less) (λ e. passes e.0) whole
      (ascending R whole (rows_sorted R nat_list_cmp_total c (entries every)
      (entries_sorted every))) in
      let up = ascending-map (λ a b. by_key a b ≡ Less) table.made part
      (subst (λ (f : K × X → K). IsAscending (λ a b. R (f a) (f b) ≡ Less) part)
      (λ i e. sym (table.same_key e) i) rising) in
      let perm = IsPermutation-map found_in _ _
      (IsPermutation-sort_by by_row (on_total table.key table.all_total) (filter is_in rows)) in
      sorted_unique by_key (on_total table.key_of table.total) (map table.made part) found up
      (subst (λ xs. IsPermutation xs found) sorted_found (IsPermutation-trans _ _ _ perm same))
      sorted

-- What a query over a table of typed rows answers: one row by its key, and a page in the order of
-- the key.
use Rattle.std.proofs.Common.{◌≡◌, ℕ, ℤ, Bool, true, false, cond, List, [], ◌∷◌, map, filter, find}
use Rattle.std.proofs.Common.{take, zero, suc, slice_get, option_map, None, refl, sym, ap}
use Rattle.std.proofs.Common.{ap₂, ◌∙◌, Ordering, is_gt}
use Rattle.std.specs.List.{list_all, AllByRecursion}
use Rattle.std.specs.Ordering.{eq_by_cmp}
use Rattle.std.specs.Cmp.{IsTotalOrder}
use Rattle.std.proofs.lemmas.List.{take-map}
use Rattle.std.proofs.lemmas.Option.{slice_get-map}
use Rattle.std.proofs.lemmas.Map.Lookups.{CmpEqualImpliesEq}
use Rattle.sqlite.specs.Order.{Row}
use Rattle.sqlite.specs.Tree.{Trees}
use Rattle.sqlite.specs.Term.{holds}
use Rattle.sqlite.specs.Query.{Query, inner, end, page, IsAnswer, Output, output, output_cmp}
use Rattle.sqlite_keyed.specs.Lists.{insert_sorted, sort_by}
use Rattle.sqlite_keyed.proofs.ListLemmas.{map-map, all-filter, slice_get-filter}
use Rattle.hq_keyed.specs.Stored.{IsStored}
use Rattle.hq_keyed.proofs.Select.{answer_is, one_order}
use Rattle.hq_keyed.proofs.Keyed.{one, first_of}
use Rattle.hq_keyed.proofs.Ordered.{passing_of, outputs_are, rows_are, values_are}

module _ {A : Type 0} (P : A → Type 0) (by : A → A → Ordering) where
  all_put : (x : A) (ys : List A) → P x → AllByRecursion P ys →
      AllByRecursion P (insert_sorted by x ys)
  all_put x [] p all = (p, tt)
  all_put x (y ∷ ys) p all =
      let rest = all_put x ys p all.1 in
      elim (is_gt (by x y)) as (λ b. AllByRecursion P (cond b (y ∷ insert_sorted by x ys) (x ∷ y
      ∷ ys))) [ true ↦ (all.0, rest) | false ↦ (p, all) ]

  all_sorted : (xs : List A) → AllByRecursion P xs → AllByRecursion P (sort_by by xs)
  all_sorted [] all = tt
  all_sorted (x ∷ xs) all = all_put x (sort_by by xs) all.0 (all_sorted xs all.1)

all_taken : {A : Type 0} (P : A → Type 0) (n : ℕ) (xs : List A) → AllByRecursion P xs →
    AllByRecursion P (take n xs)
all_taken P zero xs all = tt
all_taken P (suc n) [] all = tt
all_taken P (suc n) (x ∷ xs) all = (all.0, all_taken P n xs all.1)

map_same_on : {A B : Type 0} (f g : A → B) (xs : List A) → AllByRecursion (λ x. f x ≡ g x) xs →
    map f xs ≡ map g xs
map_same_on f g [] all = refl
map_same_on f g (x ∷ xs) all = ap₂ ◌∷◌ all.0 (map_same_on f g xs all.1)

module _ {X K V : Type 0} (encode : ℤ × X → Row) (decode : Row → X) {R : K → K → Ordering}
    (o : IsTotalOrder R) (exact : CmpEqualImpliesEq R) (key : X → K) (val : X → V)
    (q : Query) (db : Trees) (tree : ℕ) (params : Row) (s : IsStored encode decode R key (db tree))
    (shown : Row → X)
    (from : q.from ≡ inner tree end) (no_group : q.group ≡ None) (no_distinct : q.distinct ≡ false)
    (reads : (k : ℤ × X) → shown (output q (params ∷ encode k ∷ [])).1 ≡ decode (encode k))
    (rows : List Row) (a : IsAnswer q db params rows) where
  abbrev show : ℤ × X → Output
  show k = output q (params ∷ encode k ∷ [])

  read_shown : (ks : List (ℤ × X)) → AllByRecursion (λ k. decode (encode k) ≡ k.1) ks →
      map shown (map (λ k. (show k).1) ks) ≡ map (λ k. k.1) ks
  read_shown [] all = refl
  read_shown (k ∷ ks) all = ap₂ ◌∷◌ (reads k ∙ all.0) (read_shown ks all.1)

  -- the row at a key
  pub selected : (at : K) → ((k : ℤ × X) →
      list_all (holds (params ∷ encode k ∷ [])) q.filter ≡ eq_by_cmp R at (key k.1)) →
      ((xs : List Row) → page q params xs ≡ xs)
      → option_map shown (slice_get rows 0) ≡ find (λ x. eq_by_cmp R at (key x))
      (map decode (db tree))
  selected at tests whole =
      let kept = s.kept in
      let is : ℤ × X → Bool = λ k. eq_by_cmp R at (key k.1) in
      let fs = filter is kept in
      let same = answer_is q db tree params encode kept is from no_group no_distinct s.rows_are
      tests rows a in
      let ordered = one_order show fs a.ordered (one encode decode o exact key val (db tree) s at)
      same in
      let all : rows ≡ map (λ k. (show k).1) fs = a.shown ∙ whole _
      ∙ ap (map (λ (r : Output). r.1)) ordered ∙ map-map (λ (r : Output). r.1) show fs in
      ap (λ l. option_map shown (slice_get l 0)) all ∙ sym
      (slice_get-map shown (map (λ (k : ℤ × X). (show k).1) fs) 0)
      ∙ ap (λ l. slice_get l 0) (read_shown fs (all-filter _ is kept s.back))
      ∙ slice_get-map (λ (k : ℤ × X). k.1) fs 0
      ∙ ap (option_map (λ (k : ℤ × X). k.1)) (slice_get-filter is kept)
      ∙ sym (first_of encode decode o exact key val (db tree) s at)

  module _ (test : X → Bool) (tests : (k : ℤ × X) →
      list_all (holds (params ∷ encode k ∷ [])) q.filter ≡ test k.1) (order_is : (j k : ℤ × X) →
      output_cmp q (show j) (show k) ≡ R (key j.1) (key k.1)) where
    abbrev passing : List (ℤ × X)
    passing = passing_of R key test s.kept

    all_back : AllByRecursion (λ (k : ℤ × X). decode (encode k) ≡ k.1) passing
    all_back = all_sorted (λ (k : ℤ × X). decode (encode k) ≡ k.1) (λ j k. R (key j.1) (key k.1))
        (filter (λ k. test k.1) s.kept) (all-filter (λ (k : ℤ × X). decode (encode k) ≡ k.1)
        (λ k. test k.1) s.kept s.back)

    values : map (λ (k : ℤ × X). k.1) passing ≡ sort_by (λ x y. R (key x) (key y))
        (filter test (map decode (db tree)))
    values = values_are encode decode o exact key val q db tree params s from no_group no_distinct
        rows a test tests order_is

    -- the rows that pass, in the order of the key
    pub listed : ((xs : List Row) → page q params xs ≡ xs) →
        map shown rows ≡ sort_by (λ x y. R (key x) (key y)) (filter test (map decode (db tree)))
    listed whole =
        ap (map shown) (rows_are encode decode o exact key val q db tree params s from no_group
        no_distinct rows a test tests order_is whole)
        ∙ read_shown passing all_back ∙ values

    -- the first so many of them
    pub paged : (limit : ℕ) → ((xs : List Row) → page q params xs ≡ take limit xs) →
        map shown rows ≡ take limit (sort_by (λ x y. R (key x) (key y))
        (filter test (map decode (db tree))))
    paged limit cut =
        let ordered = outputs_are encode decode o exact key val q db tree params s from no_group
        no_distinct rows a test tests order_is in
        let all : rows ≡ map (λ k. (show k).1) (take limit passing) =
        a.shown ∙ cut _ ∙ ap (λ l. take limit (map (λ (r : Output). r.1) l)) ordered
        ∙ ap (take limit) (map-map (λ (r : Output). r.1) show passing)
        ∙ take-map (λ (k : ℤ × X). (show k).1) limit passing in
        ap (map shown) all ∙ read_shown (take limit passing)
        (all_taken (λ (k : ℤ × X). decode (encode k) ≡ k.1) limit passing all_back)
        ∙ sym (take-map (λ (k : ℤ × X). k.1) limit passing) ∙ ap (take limit) values

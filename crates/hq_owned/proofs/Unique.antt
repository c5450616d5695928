-- Keys that stand once, through a filter, a push, a put and an addition of rows.
use Rattle.std.proofs.Common.{◌≡◌, Bool, true, false, cond, not, ◌||◌, List, [], ◌∷◌, ◌++◌, map}
use Rattle.std.proofs.Common.{filter, Some, None, sym, refl, ap, ◌∙◌, subst}
use Rattle.std.specs.Prelude.{is_some}
use Rattle.std.specs.List.{AllByRecursion, IsDistinct, list_any}
use Rattle.std.proofs.lemmas.List.{map-append}
use Rattle.std.proofs.lemmas.Map.Keys.{IsDistinct-head, IsDistinct-tail, IsDistinct-cons}
use Rattle.std.proofs.lemmas.Map.Keys.{IsDistinct-push}
use Rattle.std.proofs.lemmas.Map.Lookups.{CmpEqualImpliesEq}
use Rattle.std.specs.declared.cmp.Ordering.{Ordering}
use Rattle.std.specs.Ordering.{eq_by_cmp}
use Rattle.std.specs.Cmp.{IsTotalOrder, eq_by_cmp_equiv}
use Rattle.std.specs.FinMap.{find, get, get-from_entries}
use Rattle.std.specs.FinMap.Entries.{is_some-find}
use Rattle.hq_owned.specs.Rows.{pairs_of, map_of, HasUniqueKeys}

module _ {A K : Type 0} (R : K → K → Ordering) (key : A → K) where
  apart_filter : (p : A → Bool) (k : K) (rows : List A) →
      AllByRecursion (λ y. eq_by_cmp R k y ≡ false) (map key rows) →
      AllByRecursion (λ y. eq_by_cmp R k y ≡ false) (map key (filter p rows))
  apart_filter p k [] a = tt
  apart_filter p k (r ∷ rs) a =
      let rest = apart_filter p k rs a.1 in
      elim (p r) as (λ b. AllByRecursion (λ y. eq_by_cmp R k y ≡ false)
      (map key (cond b (r ∷ filter p rs) (filter p rs)))) [ true ↦ (a.0, rest) | false ↦ rest ]

  -- any filter keeps the keys apart
  pub unique_filter : (p : A → Bool) (rows : List A) → HasUniqueKeys R key rows →
      HasUniqueKeys R key (filter p rows)
  unique_filter p [] u = u
  unique_filter p (r ∷ rs) u =
      let rest = unique_filter p rs (IsDistinct-tail (eq_by_cmp R) (key r) (map key rs) u) in
      elim (p r) as (λ b. HasUniqueKeys R key (cond b (r ∷ filter p rs) (filter p rs))) [
        | true ↦ IsDistinct-cons (eq_by_cmp R) (key r) (map key (filter p rs))
            (apart_filter p (key r) rs (IsDistinct-head (eq_by_cmp R) (key r) (map key rs) u)) rest
        | false ↦ rest
      ]

  gone : (k : K) (rows : List A) → list_any (eq_by_cmp R k)
      (map key (filter (λ x. not (eq_by_cmp R k (key x))) rows)) ≡ false
  gone k [] = refl
  gone k (r ∷ rs) =
      let others = filter (λ x. not (eq_by_cmp R k (key x))) rs in
      elim (eq_by_cmp R k (key r)) as (λ b. eq_by_cmp R k (key r) ≡ b →
      list_any (eq_by_cmp R k) (map key (cond (not b) (r ∷ others) others)) ≡ false) [
        | true ↦ λ t. gone k rs
        | false ↦ λ t. ap (λ b. b || list_any (eq_by_cmp R k) (map key others)) t ∙ gone k rs
      ] refl

module _ {A K : Type 0} {R : K → K → Ordering} (o : IsTotalOrder R) (key : A → K) where
  pub unique_push : (rows : List A) (r : A) → HasUniqueKeys R key rows →
      list_any (eq_by_cmp R (key r)) (map key rows) ≡ false → HasUniqueKeys R key (rows ++ r ∷ [])
  unique_push rows r u none = subst (IsDistinct (eq_by_cmp R)) (sym (map-append key rows (r ∷ [])))
      (IsDistinct-push (eq_by_cmp_equiv o) (map key rows) (key r) u none)

  pub unique_put : (rows : List A) (r : A) → HasUniqueKeys R key rows →
      HasUniqueKeys R key (filter (λ x. not (eq_by_cmp R (key r) (key x))) rows ++ r ∷ [])
  unique_put rows r u = unique_push _ r (unique_filter R key _ rows u) (gone R key (key r) rows)

module _ {A K X : Type 0} {R : K → K → Ordering} (o : IsTotalOrder R) (exact : CmpEqualImpliesEq R)
    (key : A → K) (val : A → X) where
  keys_of_pairs : (rows : List A) → map (λ (e : K × X). e.0) (pairs_of key val rows) ≡ map key rows
  keys_of_pairs [] = refl
  keys_of_pairs (r ∷ rs) = ap (λ ks. key r ∷ ks) (keys_of_pairs rs)

  -- a key is in the table exactly if a row has it
  pub is_some-table : (rows : List A) (q : K) →
      is_some (get (map_of R key val rows) q) ≡ list_any (eq_by_cmp R q) (map key rows)
  unfolding map_of
  is_some-table rows q = ap is_some (get-from_entries o (pairs_of key val rows) q)
      ∙ is_some-find R q (pairs_of key val rows)
      ∙ ap (list_any (eq_by_cmp R q)) (keys_of_pairs rows)

  at_middle : (P : K → Type 0) (xs : List A) (r : A) (rs : List A) →
      AllByRecursion P (map key (xs ++ r ∷ rs)) → P (key r)
  at_middle P [] r rs a = a.0
  at_middle P (x ∷ xs) r rs a = at_middle P xs r rs a.1

  find_apart : (rows : List A) (r : A) (rs : List A) → HasUniqueKeys R key (rows ++ r ∷ rs) →
      find R (key r) (pairs_of key val rows) ≡ None
  find_apart [] r rs u = refl
  find_apart (x ∷ xs) r rs u =
      let ks = map key (xs ++ r ∷ rs) in
      ap (λ b. cond b (Some (val x)) (find R (key r) (pairs_of key val xs)))
      ((eq_by_cmp_equiv o).symm (key r) (key x) ∙ at_middle (λ y. eq_by_cmp R (key x) y ≡ false)
      xs r rs (IsDistinct-head (eq_by_cmp R) (key x) ks u))
      ∙ find_apart xs r rs (IsDistinct-tail (eq_by_cmp R) (key x) ks u)

  none_yet : (rows : List A) (r : A) (rs : List A) → HasUniqueKeys R key (rows ++ r ∷ rs) →
      get (map_of R key val rows) (key r) ≡ None
  unfolding map_of
  none_yet rows r rs u = get-from_entries o (pairs_of key val rows) (key r) ∙ find_apart rows r rs u

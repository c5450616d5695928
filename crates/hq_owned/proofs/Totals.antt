-- Sums over the values of a finite map, when one key is put or removed.
use Rattle.std.proofs.Common.{◌≡◌, ℕ, ◌+◌, ◌-◌, ◌≤◌, Bool, true, false, cond, not, T, List, [], ◌∷◌}
use Rattle.std.proofs.Common.{map, sym, refl, ap, ◌∙◌, subst, Some, None, Option, arith}
use Rattle.std.specs.List.{sum_by}
use Rattle.std.proofs.lemmas.List.Sums.{sum_by-cons}
use Rattle.std.specs.declared.cmp.Ordering.{Ordering}
use Rattle.std.specs.declared.cmp.Ordering.TheVariants.{Less, Equal, Greater}
use Rattle.std.specs.Ordering.{is_lt, is_eq, eq_by_cmp}
use Rattle.std.specs.Cmp.{IsTotalOrder, eq_by_cmp_equiv}
use Rattle.std.proofs.lemmas.Map.Lookups.{CmpEqualImpliesEq}
use Rattle.std.specs.FinMap.{FinMap, entries, entries_sorted, values, get, insert, remove}
use Rattle.std.specs.FinMap.{retain_keys, from_sorted, entries-insert, get-entries, get-retain_keys}
use Rattle.std.specs.FinMap.{get-from_sorted, entries-from_sorted, same_map, find, put, is_sorted}
use Rattle.std.specs.FinMap.Entries.{by_order, below_all, where_key, is_sorted-where_key}
use Rattle.std.specs.FinMap.Entries.{find-where_key}
use Rattle.hq_owned.specs.Owned.{given}
use Rattle.hq_owned.proofs.Lists.{remove_is}
use Rattle.hq_owned.proofs.Cases.{first, second, less, equal, both, none_some}

module _ {K X : Type 0} (f : X → ℕ) where
  abbrev weight : List (K × X) → ℕ
  weight [] = 0
  weight (e ∷ es) = f e.1 + weight es

  weight_is : (es : List (K × X)) → sum_by f (map (λ (e : K × X). e.1) es) ≡ weight es
  weight_is [] = refl
  weight_is (e ∷ es) = sum_by-cons f e.1 (map (λ (e : K × X). e.1) es)
      ∙ ap (λ n. f e.1 + n) (weight_is es)

-- a key below all has no entry, and removing it removes nothing
none_below : {K X : Type 0} (R : K → K → Ordering) (k : K) (es : List (K × X)) →
    T (below_all R k es) → find R k es ≡ None
none_below R k [] h = refl
none_below {X = X} R k (e ∷ es) h = ap (λ r. cond (is_eq r) (Some e.1) (find R k es))
    (less _ (first _ _ h)) ∙ none_below R k es (second _ _ h)

all_kept : {K X : Type 0} (R : K → K → Ordering) (k : K) (es : List (K × X)) → T (below_all R k es)
    → where_key R (λ x. not (eq_by_cmp R k x)) es ≡ es
all_kept R k [] h = refl
all_kept R k (e ∷ es) h =
    ap (λ r. cond (not (is_eq r)) (e ∷ where_key R (λ x. not (eq_by_cmp R k x)) es)
    (where_key R (λ x. not (eq_by_cmp R k x)) es)) (less _ (first _ _ h))
    ∙ ap (λ xs. e ∷ xs) (all_kept R k es (second _ _ h))

module _ {K X : Type 0} (R : K → K → Ordering) (r : IsTotalOrder R) (f : X → ℕ) where
  below_less : (k x : K) (es : List (K × X)) → R k x ≡ Less → T (below_all R x es) →
      T (below_all R k es)
  below_less k x [] p h = tt
  below_less k x (e ∷ es) p h = both _ _ (subst (λ o. T (is_lt o))
      (sym (r.trans k x e.0 p (less _ (first _ _ h)))) tt) (below_less k x es p (second _ _ h))

  below_equal : (k x : K) (es : List (K × X)) → R k x ≡ Equal → T (below_all R x es) →
      T (below_all R k es)
  below_equal k x [] p h = tt
  below_equal k x (e ∷ es) p h = both _ _
      (subst (λ o. T (is_lt o)) (sym (r.congr k x e.0 p)) (first _ _ h))
      (below_equal k x es p (second _ _ h))

  weight_put : (k : K) (v : X) (es : List (K × X)) → T (is_sorted R es) →
      weight f (put R k v es) + given 0 f (find R k es) ≡ weight f es + f v
  weight_put k v [] h = omega arith
  weight_put k v (e ∷ es) h =
      elim (R k e.0) as (λ o. R k e.0 ≡ o →
      weight f (by_order o ((k, v) ∷ e ∷ es) ((e.0, v) ∷ es) (e ∷ put R k v es)) + given 0 f
      (cond (is_eq o) (Some e.1) (find R k es)) ≡ f e.1 + weight f es + f v) [
        | Less ↦ λ p. let none : given 0 f (find R k es) ≡ 0 =
            ap (given 0 f) (none_below R k es (below_less k e.0 es p (first _ _ h))) in omega arith
        | Equal ↦ λ p. omega arith
        | Greater ↦ λ p. let rest = weight_put k v es (second _ _ h) in omega arith
      ] refl

  weight_without : (k : K) (es : List (K × X)) → T (is_sorted R es) →
      weight f (where_key R (λ x. not (eq_by_cmp R k x)) es) + given 0 f (find R k es) ≡ weight f es
  weight_without k [] h = refl
  weight_without k (e ∷ es) h =
      let others = where_key R (λ x. not (eq_by_cmp R k x)) es in
      elim (eq_by_cmp R k e.0) as (λ b. eq_by_cmp R k e.0 ≡ b →
      weight f (cond (not b) (e ∷ others) others) + given 0 f (cond b (Some e.1) (find R k es))
      ≡ f e.1 + weight f es) [
        | true ↦ λ p. let same : weight f others ≡ weight f es =
            ap (weight f) (all_kept R k es (below_equal k e.0 es (equal _ (subst T (sym p) tt))
            (first _ _ h))) in omega arith
        | false ↦ λ p. let rest = weight_without k es (second _ _ h) in omega arith
      ] refl

module _ {K X : Type 0} {R : K → K → Ordering} (r : IsTotalOrder R) (re : CmpEqualImpliesEq R) where
  pub entries-retain_keys : (m : FinMap R X) (p : K → Bool) →
      entries (retain_keys m p) ≡ where_key R p (entries m)
  entries-retain_keys m p =
      let sorted = is_sorted-where_key R p (entries m) (entries_sorted m) in
      ap entries (same_map r re (retain_keys m p) (from_sorted (where_key R p (entries m))) (λ q.
      get-retain_keys m p q (λ x e. ap p (sym (re q x e)))
      ∙ ap (λ o. cond (p q) o None) (get-entries m q)
      ∙ sym (find-where_key R p q (λ x e. ap p (sym (re q x e))) (entries m))
      ∙ sym (get-from_sorted R _ q sorted)))
      ∙ entries-from_sorted R _ sorted

  pub total-insert : (f : X → ℕ) (m : FinMap R X) (k : K) (v : X) →
      sum_by f (values (insert m k v)) + given 0 f (get m k) ≡ sum_by f (values m) + f v
  total-insert f m k v =
      (λ i. (ap (λ es. sum_by f (map (λ (e : K × X). e.1) es)) (entries-insert r m k v)
      ∙ weight_is f (put R k v (entries m))) i + given 0 f (get-entries m k i))
      ∙ weight_put R r f k v (entries m) (entries_sorted m)
      ∙ ap (λ n. n + f v) (sym (weight_is f (entries m)))

  pub total-remove : (f : X → ℕ) (m : FinMap R X) (k : K) →
      sum_by f (values (remove m k)) + given 0 f (get m k) ≡ sum_by f (values m)
  total-remove f m k =
      (λ i. (ap (λ es. sum_by f (map (λ (e : K × X). e.1) es)) (ap entries (remove_is r re m k)
      ∙ entries-retain_keys m (λ x. not (eq_by_cmp R k x)))
      ∙ weight_is f (where_key R (λ x. not (eq_by_cmp R k x)) (entries m))) i + given 0 f
      (get-entries m k i))
      ∙ weight_without R r f k (entries m) (entries_sorted m) ∙ sym (weight_is f (entries m))

  -- a sum after a put: what stood at the key counts no more
  pub total_put : (f : X → ℕ) (m : FinMap R X) (k : K) (v : X) →
      sum_by f (values (insert m k v)) ≡ given (sum_by f (values m))
      (λ o. sum_by f (values m) - f o) (get m k) + f v
  total_put f m k v = cases (get m k) (total-insert f m k v) (total-remove f m k) where
    cases : (o : Option X) → sum_by f (values (insert m k v)) + given 0 f o ≡ sum_by f (values m) +
        f v → sum_by f (values (remove m k)) + given 0 f o ≡ sum_by f (values m)
        → sum_by f (values (insert m k v)) ≡ given (sum_by f (values m))
        (λ o. sum_by f (values m) - f o) o + f v
    cases None put drop = omega arith
    cases (Some o) put drop = omega arith

  pub total_drop : (f : X → ℕ) (m : FinMap R X) (k : K) →
      sum_by f (values (remove m k)) ≡ given (sum_by f (values m)) (λ o. sum_by f (values m) - f o)
      (get m k)
  total_drop f m k = cases (get m k) (total-remove f m k) where
    cases : (o : Option X) → sum_by f (values (remove m k)) + given 0 f o ≡ sum_by f (values m) →
        sum_by f (values (remove m k)) ≡ given (sum_by f (values m))
        (λ o. sum_by f (values m) - f o) o
    cases None drop = omega arith
    cases (Some o) drop = omega arith

  -- how many there are after a put: as many where the key is old
  pub many_put : (m : FinMap R X) (k : K) (v : X) →
      sum_by (λ (x : X). 1) (values (insert m k v)) ≡ given (sum_by (λ (x : X). 1) (values m) + 1)
      (λ o. sum_by (λ (x : X). 1) (values m)) (get m k)
  many_put m k v = cases (get m k) (total-insert (λ (x : X). 1) m k v) where
    cases : (o : Option X) → sum_by (λ (x : X). 1) (values (insert m k v)) + given 0 (λ (x : X). 1)
        o ≡ sum_by (λ (x : X). 1) (values m) + 1
        → sum_by (λ (x : X). 1) (values (insert m k v)) ≡ given
        (sum_by (λ (x : X). 1) (values m) + 1) (λ o. sum_by (λ (x : X). 1) (values m)) o
    cases None put = omega arith
    cases (Some o) put = omega arith

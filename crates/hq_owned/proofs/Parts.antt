-- The part of one owner, through reads and changes of the whole table.
use Rattle.std.proofs.Common.{◌≡◌, ◌≢◌, Bool, true, false, cond, ◌&&◌, T, List, [], ◌∷◌, map, sym}
use Rattle.std.proofs.Common.{refl, ap, ◌∙◌, subst, Some, None}
use Rattle.std.specs.Prelude.{option_map}
use Rattle.std.proofs.lemmas.Map.Lookups.{CmpEqualImpliesEq, exact_pairs}
use Rattle.std.specs.declared.cmp.Ordering.{Ordering}
use Rattle.std.specs.declared.cmp.Ordering.TheVariants.{Equal}
use Rattle.std.specs.Ordering.{is_lt, is_eq, eq_by_cmp, ordering_then}
use Rattle.std.specs.Cmp.{IsTotalOrder, tied_then, tied_itself, then_total, on_total}
use Rattle.std.specs.FinMap.{FinMap, entries, entries_sorted, get, insert, remove, retain_keys}
use Rattle.std.specs.FinMap.{get-from_sorted, entries-from_sorted, get-entries, get-insert}
use Rattle.std.specs.FinMap.{get-remove, get-retain_keys, same_map, find, is_sorted}
use Rattle.std.specs.FinMap.Entries.{below_all}
use Rattle.hq_owned.specs.Owned.{by_both, rows_of, part_of, map_values}
use Rattle.hq_owned.proofs.Cases.{both, first, second, equal}

then_equal : (a b : Ordering) → a ≡ Equal → T (is_lt (ordering_then a b)) → T (is_lt b)
then_equal a b e h = subst (λ r. T (is_lt (ordering_then r b))) e h

tied : {N : Type 0} {S : N → N → Ordering} → IsTotalOrder S → (c x y : N) → T (eq_by_cmp S c x) →
    T (eq_by_cmp S c y) → S x y ≡ Equal
tied s c x y p q = sym (s.congr c x y (equal _ p)) ∙ equal _ q

module _ {N K X : Type 0} {S : N → N → Ordering} (R : K → K → Ordering) (s : IsTotalOrder S) where
  below_rows : (c : N) (x : N × K) (es : List ((N × K) × X)) → T (eq_by_cmp S c x.0) →
      T (below_all (by_both S R) x es) → T (below_all R x.1 (rows_of S c es))
  below_rows c x [] p h = tt
  below_rows c x (e ∷ es) p h =
      let rest = below_rows c x es p (second _ _ h) in
      elim (eq_by_cmp S c e.0.0) as (λ b. eq_by_cmp S c e.0.0 ≡ b →
      T (below_all R x.1 (cond b ((e.0.1, e.1) ∷ rows_of S c es) (rows_of S c es)))) [
        | true ↦ λ q. both _ _ (then_equal _ _ (tied s c x.0 e.0.0 p (subst T (sym q) tt))
            (first _ _ h)) rest
        | false ↦ λ q. rest
      ] refl

  pub rows_sorted : (c : N) (es : List ((N × K) × X)) → T (is_sorted (by_both S R) es) →
      T (is_sorted R (rows_of S c es))
  rows_sorted c [] h = tt
  rows_sorted c (e ∷ es) h =
      let rest = rows_sorted c es (second _ _ h) in
      elim (eq_by_cmp S c e.0.0) as (λ b. eq_by_cmp S c e.0.0 ≡ b →
      T (is_sorted R (cond b ((e.0.1, e.1) ∷ rows_of S c es) (rows_of S c es)))) [
        | true ↦ λ q. both _ _ (below_rows c e.0 es (subst T (sym q) tt) (first _ _ h)) rest
        | false ↦ λ q. rest
      ] refl

  find_rows : (c : N) (k : K) (es : List ((N × K) × X)) →
      find R k (rows_of S c es) ≡ find (by_both S R) (c, k) es
  find_rows c k [] = refl
  find_rows c k (e ∷ es) =
      let rest = find_rows c k es in
      elim (eq_by_cmp S c e.0.0) as (λ b. find R k
      (cond b ((e.0.1, e.1) ∷ rows_of S c es) (rows_of S c es)) ≡ cond (b && is_eq (R k e.0.1))
      (Some e.1) (find (by_both S R) (c, k) es)) [
        | true ↦ ap (cond (eq_by_cmp R k e.0.1) (Some e.1)) rest
        | false ↦ rest
      ] ∙ ap (λ b. cond b (Some e.1) (find (by_both S R) (c, k) es))
      (tied_then (S c e.0.0) (R k e.0.1))

  -- the rows in order
  pub entries_part : (c : N) (m : FinMap (by_both S R) X) →
      entries (part_of S c m) ≡ rows_of S c (entries m)
  unfolding part_of
  entries_part c m = entries-from_sorted R _ (rows_sorted c (entries m) (entries_sorted m))

  -- the row at a key
  pub get_part : (c : N) (m : FinMap (by_both S R) X) (k : K) → get (part_of S c m) k ≡ get m (c, k)
  unfolding part_of
  get_part c m k = get-from_sorted R _ k (rows_sorted c (entries m) (entries_sorted m))
      ∙ find_rows c k (entries m) ∙ sym (get-entries m (c, k))

-- ---- keys that are told apart

tie_is : (b : Bool) (P : Type 0) → (T b → P) → (P → ⊥) → b ≡ false
tie_is true P f n = absurd (n (f tt))
tie_is false P f n = refl

pub tied_false : {N : Type 0} {S : N → N → Ordering} → CmpEqualImpliesEq S → (c d : N) → c ≢ d →
    eq_by_cmp S c d ≡ false
tied_false {S = S} exact c d apart = tie_is (eq_by_cmp S c d) (c ≡ d) (λ h. exact c d (equal _ h))
    apart

pub tied_true : {N : Type 0} {S : N → N → Ordering} → IsTotalOrder S → (c : N) →
    eq_by_cmp S c c ≡ true
tied_true s c = ap is_eq (tied_itself s c)

pub both_total : {N K : Type 0} {S : N → N → Ordering} {R : K → K → Ordering} → IsTotalOrder S →
    IsTotalOrder R → IsTotalOrder (by_both S R)
both_total s r = then_total (on_total (λ x. x.0) s) (on_total (λ x. x.1) r)

pub both_exact : {N K : Type 0} {S : N → N → Ordering} {R : K → K → Ordering} → CmpEqualImpliesEq S
    → CmpEqualImpliesEq R → CmpEqualImpliesEq (by_both S R)
both_exact s r = exact_pairs _ _ s r

module _ {K X : Type 0} {R : K → K → Ordering} (r : IsTotalOrder R) (re : CmpEqualImpliesEq R) where
  -- a test that each key passes leaves all
  pub retain_all : (m : FinMap R X) (p : K → Bool) → ((k : K) → p k ≡ true) → retain_keys m p ≡ m
  retain_all m p h = same_map r re _ _ (λ q. get-retain_keys m p q (λ x e. ap p (sym (re q x e)))
      ∙ ap (λ b. cond b (get m q) None) (h q))

tie : {N K : Type 0} (S : N → N → Ordering) (R : K → K → Ordering) (c d : N) (q k : K) →
    eq_by_cmp (by_both S R) (d, q) (c, k) ≡ (eq_by_cmp S d c && eq_by_cmp R q k)
tie S R c d q k = sym (tied_then (S d c) (R q k))

module _ {N K X : Type 0} {S : N → N → Ordering} {R : K → K → Ordering} (s : IsTotalOrder S)
    (r : IsTotalOrder R) (se : CmpEqualImpliesEq S) (re : CmpEqualImpliesEq R) where
  pub part_insert : (c : N) (m : FinMap (by_both S R) X) (k : K) (v : X) →
      part_of S c (insert m (c, k) v) ≡ insert (part_of S c m) k v
  part_insert c m k v = same_map r re _ _ (λ q.
      get_part R s c (insert m (c, k) v) q ∙ get-insert (both_total s r) m (c, k) v (c, q)
      ∙ ap (λ b. cond b (Some v) (get m (c, q))) (tie S R c c q k
      ∙ ap (λ b. b && eq_by_cmp R q k) (tied_true s c))
      ∙ sym (get-insert r (part_of S c m) k v q
      ∙ ap (cond (eq_by_cmp R q k) (Some v)) (get_part R s c m q)))

  pub part_insert_other : (c d : N) (m : FinMap (by_both S R) X) (k : K) (v : X) → d ≢ c →
      part_of S d (insert m (c, k) v) ≡ part_of S d m
  part_insert_other c d m k v apart = same_map r re _ _ (λ q.
      get_part R s d (insert m (c, k) v) q ∙ get-insert (both_total s r) m (c, k) v (d, q)
      ∙ ap (λ b. cond b (Some v) (get m (d, q))) (tie S R c d q k
      ∙ ap (λ b. b && eq_by_cmp R q k) (tied_false se d c apart))
      ∙ sym (get_part R s d m q))

  pub part_remove : (c : N) (m : FinMap (by_both S R) X) (k : K) →
      part_of S c (remove m (c, k)) ≡ remove (part_of S c m) k
  part_remove c m k = same_map r re _ _ (λ q.
      get_part R s c (remove m (c, k)) q ∙ get-remove (both_total s r) m (c, k) (c, q)
      ∙ ap (λ b. cond b None (get m (c, q))) (tie S R c c q k
      ∙ ap (λ b. b && eq_by_cmp R q k) (tied_true s c))
      ∙ sym (get-remove r (part_of S c m) k q ∙ ap (cond (eq_by_cmp R q k) None)
      (get_part R s c m q)))

  pub part_remove_other : (c d : N) (m : FinMap (by_both S R) X) (k : K) → d ≢ c →
      part_of S d (remove m (c, k)) ≡ part_of S d m
  part_remove_other c d m k apart = same_map r re _ _ (λ q.
      get_part R s d (remove m (c, k)) q ∙ get-remove (both_total s r) m (c, k) (d, q)
      ∙ ap (λ b. cond b None (get m (d, q))) (tie S R c d q k
      ∙ ap (λ b. b && eq_by_cmp R q k) (tied_false se d c apart))
      ∙ sym (get_part R s d m q))

  pub part_retain : (c : N) (m : FinMap (by_both S R) X) (p : N × K → Bool) →
      part_of S c (retain_keys m p) ≡ retain_keys (part_of S c m) (λ k. p (c, k))
  part_retain c m p = same_map r re _ _ (λ q.
      get_part R s c (retain_keys m p) q ∙ get-retain_keys m p (c, q)
      (λ x e. ap p (sym (both_exact se re (c, q) x e)))
      ∙ ap (λ o. cond (p (c, q)) o None) (sym (get_part R s c m q))
      ∙ sym (get-retain_keys (part_of S c m) (λ k. p (c, k)) q
      (λ x e. ap (λ k. p (c, k)) (sym (re q x e)))))

  -- a test that each key of the owner passes leaves what the owner has
  pub part_retain_all : (c : N) (m : FinMap (by_both S R) X) (p : N × K → Bool) →
      ((k : K) → p (c, k) ≡ true) → part_of S c (retain_keys m p) ≡ part_of S c m
  part_retain_all c m p h = part_retain c m p ∙ retain_all r re (part_of S c m) (λ k. p (c, k)) h

-- ---- another value at each key

module _ {K X Y : Type 0} (R : K → K → Ordering) (f : K → X → Y) where
  abbrev mapped : List (K × X) → List (K × Y)
  mapped es = map (λ e. (e.0, f e.0 e.1)) es

  below_mapped : (x : K) (es : List (K × X)) → below_all R x (mapped es) ≡ below_all R x es
  below_mapped x [] = refl
  below_mapped x (e ∷ es) = ap (λ b. is_lt (R x e.0) && b) (below_mapped x es)

  sorted_mapped : (es : List (K × X)) → is_sorted R (mapped es) ≡ is_sorted R es
  sorted_mapped [] = refl
  sorted_mapped (e ∷ es) = λ i. below_mapped e.0 es i && sorted_mapped es i

  mapped_sorted : (m : FinMap R X) → T (is_sorted R (mapped (entries m)))
  mapped_sorted m = subst T (sym (sorted_mapped (entries m))) (entries_sorted m)

  pub entries-map_values : (m : FinMap R X) → entries (map_values f m) ≡ mapped (entries m)
  unfolding map_values
  entries-map_values m = entries-from_sorted R _ (mapped_sorted m)

  find_mapped : CmpEqualImpliesEq R → (q : K) (es : List (K × X)) →
      find R q (mapped es) ≡ option_map (f q) (find R q es)
  find_mapped exact q [] = refl
  find_mapped exact q (e ∷ es) =
      let rest = find_mapped exact q es in
      elim (eq_by_cmp R q e.0) as (λ b. eq_by_cmp R q e.0 ≡ b →
      cond b (Some (f e.0 e.1)) (find R q (mapped es)) ≡ option_map (f q)
      (cond b (Some e.1) (find R q es))) [
        | true ↦ λ h. ap (λ k. Some (f k e.1)) (sym (exact q e.0 (equal _ (subst T (sym h) tt))))
        | false ↦ λ h. rest
      ] refl

  pub get-map_values : CmpEqualImpliesEq R → (m : FinMap R X) (q : K) →
      get (map_values f m) q ≡ option_map (f q) (get m q)
  unfolding map_values
  get-map_values exact m q = get-from_sorted R _ q (mapped_sorted m)
      ∙ find_mapped exact q (entries m) ∙ ap (option_map (f q)) (sym (get-entries m q))

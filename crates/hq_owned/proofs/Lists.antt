-- What a put, a drop and a look-up in rows are in the map that the rows stand for.
use Rattle.std.proofs.Common.{◌≡◌, Bool, true, false, cond, not, List, [], ◌∷◌, ◌++◌, filter, sym}
use Rattle.std.proofs.Common.{refl, ap, ◌∙◌, Some, None}
use Rattle.std.specs.Prelude.{option_map}
use Rattle.std.specs.List as list
use Rattle.std.proofs.lemmas.List.{map-append}
use Rattle.std.proofs.lemmas.Map.Lookups.{CmpEqualImpliesEq}
use Rattle.std.specs.declared.cmp.Ordering.{Ordering}
use Rattle.std.specs.Ordering.{eq_by_cmp}
use Rattle.std.specs.Cmp.{IsTotalOrder, eq_by_cmp_equiv}
use Rattle.std.specs.FinMap.{FinMap, get, insert, remove, retain_keys, from_entries, find}
use Rattle.std.specs.FinMap.{get-from_entries, get-insert, get-remove, get-retain_keys, same_map}
use Rattle.std.specs.FinMap.{from_entries_push}
use Rattle.std.specs.FinMap.Entries.{where_key, find-where_key}
use Rattle.hq_owned.specs.Rows.{pairs_of, map_of}
use Rattle.hq_owned.proofs.Cases.{turned}

module _ {A K X : Type 0} (R : K → K → Ordering) (key : A → K) (val : A → X) where
  pairs_filter : (p : K → Bool) (rows : List A) →
      pairs_of key val (filter (λ r. p (key r)) rows) ≡ where_key R p (pairs_of key val rows)
  pairs_filter p [] = refl
  pairs_filter p (r ∷ rs) =
      elim (p (key r)) as (λ b. pairs_of key val (cond b (r ∷ filter (λ x. p (key x)) rs)
      (filter (λ x. p (key x)) rs)) ≡ cond b ((key r, val r)
      ∷ where_key R p (pairs_of key val rs)) (where_key R p (pairs_of key val rs))) [
        | true ↦ ap (λ es. (key r, val r) ∷ es) (pairs_filter p rs)
        | false ↦ pairs_filter p rs
      ]

  find_pairs : (q : K) (rows : List A) →
      find R q (pairs_of key val rows) ≡ option_map val
      (list.find (λ r. eq_by_cmp R q (key r)) rows)
  find_pairs q [] = refl
  find_pairs q (r ∷ rs) =
      elim (eq_by_cmp R q (key r)) as (λ b. cond b (Some (val r)) (find R q (pairs_of key val rs)) ≡
      option_map val (cond b (Some r) (list.find (λ x. eq_by_cmp R q (key x)) rs))) [
        | true ↦ refl
        | false ↦ find_pairs q rs
      ]

module _ {K X : Type 0} {R : K → K → Ordering} (o : IsTotalOrder R) (exact : CmpEqualImpliesEq R)
  where
    -- to remove a key is to keep the others
    pub remove_is : (m : FinMap R X) (k : K) →
        remove m k ≡ retain_keys m (λ x. not (eq_by_cmp R k x))
    remove_is m k = same_map o exact _ _ (λ q.
        get-remove o m k q ∙ turned (eq_by_cmp R q k) None (get m q)
        ∙ ap (λ b. cond (not b) (get m q) None) ((eq_by_cmp_equiv o).symm q k)
        ∙ sym (get-retain_keys m (λ x. not (eq_by_cmp R k x)) q
        (λ x e. ap (λ y. not (eq_by_cmp R k y)) (sym (exact q x e)))))

    insert_remove : (m : FinMap R X) (k : K) (v : X) → insert (remove m k) k v ≡ insert m k v
    insert_remove m k v = same_map o exact _ _ (λ q.
        get-insert o (remove m k) k v q ∙ ap (cond (eq_by_cmp R q k) (Some v)) (get-remove o m k q)
        ∙ elim (eq_by_cmp R q k) as (λ b. cond b (Some v) (cond b None (get m q)) ≡ cond b (Some v)
        (get m q)) [ true ↦ refl | false ↦ refl ]
        ∙ sym (get-insert o m k v q))

module _ {A K X : Type 0} {R : K → K → Ordering} (o : IsTotalOrder R) (exact : CmpEqualImpliesEq R)
    (key : A → K) (val : A → X) where
  -- a look-up: the value of the first row with that key
  pub get_table : (rows : List A) (q : K) →
      get (map_of R key val rows) q ≡ option_map val (list.find (λ r. eq_by_cmp R q (key r)) rows)
  unfolding map_of
  get_table rows q = get-from_entries o _ q ∙ find_pairs R key val q rows

  -- a filter by a test of keys
  pub table_keep : (p : K → Bool) (rows : List A) →
      map_of R key val (filter (λ r. p (key r)) rows) ≡ retain_keys (map_of R key val rows) p
  unfolding map_of
  table_keep p rows = same_map o exact _ _ (λ q.
      get-from_entries o _ q ∙ ap (find R q) (pairs_filter R key val p rows)
      ∙ find-where_key R p q (λ x e. ap p (sym (exact q x e))) (pairs_of key val rows)
      ∙ ap (λ f. cond (p q) f None) (sym (get-from_entries o (pairs_of key val rows) q))
      ∙ sym (get-retain_keys (from_entries (pairs_of key val rows)) p q
      (λ x e. ap p (sym (exact q x e)))))

  -- a drop of one key
  pub table_drop : (k : K) (rows : List A) →
      map_of R key val (filter (λ r. not (eq_by_cmp R k (key r))) rows) ≡ remove
      (map_of R key val rows) k
  table_drop k rows = table_keep (λ x. not (eq_by_cmp R k x)) rows
      ∙ sym (remove_is o exact (map_of R key val rows) k)

  -- a push of a row whose key is new
  pub table_push : (rows : List A) (r : A) → get (map_of R key val rows) (key r) ≡ None →
      map_of R key val (rows ++ r ∷ []) ≡ insert (map_of R key val rows) (key r) (val r)
  unfolding map_of
  table_push rows r none =
      ap from_entries (map-append (λ x. (key x, val x)) rows (r ∷ []))
      ∙ from_entries_push o exact (pairs_of key val rows) (key r) (val r)
      (sym (get-from_entries o (pairs_of key val rows) (key r)) ∙ none)

  -- a put: drop the key, then push
  pub table_put : (rows : List A) (r : A) →
      map_of R key val (filter (λ x. not (eq_by_cmp R (key r) (key x))) rows ++ r ∷ []) ≡ insert
      (map_of R key val rows) (key r) (val r)
  table_put rows r =
      let left = filter (λ x. not (eq_by_cmp R (key r) (key x))) rows in
      let dropped = table_drop (key r) rows in
      table_push left r (ap (λ m. get m (key r)) dropped
      ∙ get-remove o (map_of R key val rows) (key r) (key r)
      ∙ ap (λ b. cond b None (get (map_of R key val rows) (key r)))
      ((eq_by_cmp_equiv o).refl (key r)))
      ∙ ap (λ m. insert m (key r) (val r)) dropped
      ∙ insert_remove o exact (map_of R key val rows) (key r) (val r)

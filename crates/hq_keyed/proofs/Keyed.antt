-- A table of typed rows as a finite map: what is found in it, and what each write leaves of it.
use Rattle.std.proofs.Common.{◌≡◌, ◌⊎◌, inl, inr, ℤ, Bool, true, false, not, cond, T, List, [], ◌∷◌}
use Rattle.std.proofs.Common.{◌++◌, map, filter, find, option_map, is_some, length, slice_get}
use Rattle.std.proofs.Common.{Option, Some, None, refl, sym, ap, ap₂, ◌∙◌, subst}
use Rattle.std.specs.List.{AllByRecursion, IsDistinct}
use Rattle.std.specs.declared.cmp.Ordering.{Ordering}
use Rattle.std.specs.Ordering.{eq_by_cmp}
use Rattle.std.specs.Cmp.{IsTotalOrder, eq_by_cmp_equiv}
use Rattle.std.specs.FinMap.{FinMap, get, insert, retain_keys, get-insert, same_map}
use Rattle.std.proofs.lemmas.List.{map-append}
use Rattle.std.proofs.lemmas.Map.Keys.{IsDistinct-head, IsDistinct-tail}
use Rattle.std.proofs.lemmas.Map.Lookups.{CmpEqualImpliesEq}
use Rattle.sqlite.specs.Order.{Row}
use Rattle.sqlite.specs.Tree.{IsAscending}
use Rattle.sqlite_keyed.specs.Keyed.{next_key}
use Rattle.sqlite_keyed.specs.Lists.{update_where, delete_where}
use Rattle.sqlite_keyed.proofs.ListLemmas.{filter-map, all-filter, all-append, all_unmap}
use Rattle.sqlite_keyed.proofs.ListLemmas.{ascending_from_map, slice_get-filter}
use Rattle.sqlite_keyed.proofs.KeyedLemmas.{IsKeyedBy-update_where, IsKeyedBy-delete_where}
use Rattle.hq_owned.specs.Rows.{map_of, HasUniqueKeys}
use Rattle.hq_owned.proofs.Cases.{equal}
use Rattle.hq_owned.proofs.Lists.{get_table, table_keep, table_push}
use Rattle.hq_owned.proofs.Unique.{unique_filter, unique_push, is_some-table}
use Rattle.hq_keyed.specs.Stored.{IsStored}
use Rattle.hq_keyed.proofs.Rows.{all_below, rises_on}
use Rattle.hq_keyed.proofs.Select.{at_most_one, find-map}

pub find_passes : {X : Type 0} (p : X → Bool) (xs : List X) (x : X) → find p xs ≡ Some x →
    p x ≡ true
find_passes p [] x h = cc
find_passes p (y ∷ ys) x h = go (p y) refl h (find_passes p ys x)
  where
    go : (b : Bool) → p y ≡ b → cond b (Some y) (find p ys) ≡ Some x →
        (find p ys ≡ Some x → p x ≡ true) → p x ≡ true
    go true e k more = let same : y ≡ x = cc in subst (λ z. p z ≡ true) same e
    go false e k more = more k

module _ {X K V : Type 0} (encode : ℤ × X → Row) (decode : Row → X) {R : K → K → Ordering}
    (o : IsTotalOrder R) (exact : CmpEqualImpliesEq R) (key : X → K) (val : X → V) where
  abbrev pub Are : List Row → Type 0
  Are = IsStored encode decode R key

  abbrev pub map_in : List Row → FinMap R V
  map_in rows = map_of R key val (map decode rows)

  abbrev pub at : K → X → Bool
  at q x = eq_by_cmp R q (key x)

  abbrev pub is : K → ℤ × X → Bool
  is q k = at q k.1

  abbrev pub AreBack : List (ℤ × X) → Type 0
  AreBack = AllByRecursion (λ k. decode (encode k) ≡ k.1)

  pub read_back : (ks : List (ℤ × X)) → AreBack ks → map decode (map encode ks) ≡ map (λ k. k.1) ks
  read_back [] h = refl
  read_back (k ∷ ks) h = ap₂ ◌∷◌ h.0 (read_back ks h.1)

  pub typed : (rows : List Row) (s : Are rows) → map decode rows ≡ map (λ k. k.1) s.kept
  typed rows s = ap (map decode) s.rows_are ∙ read_back s.kept s.back

  -- ---- keys stand once

  apart_from : (xs : List X) → HasUniqueKeys R key xs →
      IsAscending (λ a b. eq_by_cmp R (key a) (key b) ≡ false) xs
  apart_from [] u = tt
  apart_from (x ∷ xs) u = (
    all_unmap _ key xs
        (IsDistinct-head (eq_by_cmp R) (key x) (map key xs) u),
    apart_from xs (IsDistinct-tail (eq_by_cmp R) (key x) (map key xs) u),
  )

  pub apart : (rows : List Row) (s : Are rows) →
      IsAscending (λ a b. eq_by_cmp R (key a.1) (key b.1) ≡ false) s.kept
  apart rows s = ascending_from_map (λ a b. eq_by_cmp R (key a) (key b) ≡ false)
      (λ (k : ℤ × X). k.1) s.kept
      (apart_from _ (subst (HasUniqueKeys R key) (typed rows s) s.unique))

  pub one : (rows : List Row) (s : Are rows) (q : K) → (filter (is q) s.kept ≡ [])
      ⊎ ((k : ℤ × X) × (filter (is q) s.kept ≡ k ∷ []))
  one rows s q = at_most_one (λ a b. eq_by_cmp R (key a.1) (key b.1)) (is q)
      (λ a b h k. sym ((eq_by_cmp_equiv o).congr q (key a.1) (key b.1) h) ∙ k) s.kept (apart rows s)

  -- the row at a key
  pub first_of : (rows : List Row) (s : Are rows) (q : K) →
      find (at q) (map decode rows) ≡ option_map (λ k. k.1) (find (is q) s.kept)
  first_of rows s q = ap (find (at q)) (typed rows s) ∙ find-map (at q) (λ (k : ℤ × X). k.1) s.kept

  pub got : (rows : List Row) (q : K) →
      get (map_in rows) q ≡ option_map val (find (at q) (map decode rows))
  got rows q = get_table o exact key val (map decode rows) q

  -- ---- UPDATE at a key

  module _ (q : K) (f : X → X) (keeps : (x : X) → key (f x) ≡ key x) where
    abbrev move : ℤ × X → ℤ × X
    move k = (k.0, f k.1)

    moved_typed : (ks : List (ℤ × X)) → map (λ k. k.1) (update_where (is q) move ks) ≡ update_where
        (at q) f (map (λ k. k.1) ks)
    moved_typed [] = refl
    moved_typed (k ∷ ks) = ap₂ ◌∷◌ (elim (is q k) as
        (λ b. (cond b (move k) k).1 ≡ cond b (f k.1) k.1) [ true ↦ refl | false ↦ refl ])
        (moved_typed ks)

    keys_kept : (xs : List X) → map key (update_where (at q) f xs) ≡ map key xs
    keys_kept [] = refl
    keys_kept (x ∷ xs) = ap₂ ◌∷◌ (elim (at q x) as (λ b. key (cond b (f x) x) ≡ key x)
        [ true ↦ keeps x | false ↦ refl ]) (keys_kept xs)

    moved_back : ((k : ℤ × X) → decode (encode (k.0, f k.1)) ≡ f k.1) → (ks : List (ℤ × X)) →
        AreBack ks → AreBack (update_where (is q) move ks)
    moved_back back [] h = tt
    moved_back back (k ∷ ks) h = (
      elim (is q k) as
          (λ b. decode (encode (cond b (move k) k)) ≡ (cond b (move k) k).1)
          [ true ↦ back k | false ↦ h.0 ],
      moved_back back ks h.1,
    )

    pub update_typed : (rows : List Row) (s : Are rows) →
        ((k : ℤ × X) → decode (encode (k.0, f k.1)) ≡ f k.1)
        → map decode (map encode (update_where (is q) move s.kept)) ≡ update_where (at q) f
        (map decode rows)
    update_typed rows s back = read_back _ (moved_back back s.kept s.back) ∙ moved_typed s.kept
        ∙ ap (update_where (at q) f) (sym (typed rows s))

    pub stored_update : (rows : List Row) (s : Are rows) →
        ((k : ℤ × X) → decode (encode (k.0, f k.1)) ≡ f k.1) →
        Are (map encode (update_where (is q) move s.kept))
    stored_update rows s back = record {
      kept = update_where (is q) move s.kept;
      rows_are = refl;
      rises = IsKeyedBy-update_where (λ k. k.0) (is q) move (λ k. refl) s.kept s.rises;
      back = moved_back back s.kept s.back;
      unique = subst (IsDistinct (eq_by_cmp R)) (sym (ap (map key) (update_typed rows s back)
          ∙ keys_kept (map decode rows))) s.unique;
    }

    abbrev changed : X → X
    changed x = cond (at q x) (f x) x

    find_moved : (p : K) (xs : List X) →
        find (at p) (update_where (at q) f xs) ≡ option_map changed (find (at p) xs)
    find_moved p [] = refl
    find_moved p (x ∷ xs) =
        let same : at p (changed x) ≡ at p x =
        ap (eq_by_cmp R p) (elim (at q x) as (λ b. key (cond b (f x) x) ≡ key x)
        [ true ↦ keeps x | false ↦ refl ]) in
        ap (λ b. cond b (Some (changed x)) (find (at p) (update_where (at q) f xs))) same
        ∙ ap (cond (at p x) (Some (changed x))) (find_moved p xs)
        ∙ elim (at p x) as (λ b. cond b (Some (changed x)) (option_map changed (find (at p) xs)) ≡
        option_map changed (cond b (Some x) (find (at p) xs))) [ true ↦ refl | false ↦ refl ]

    -- the row that is there is changed: the map has the new value at its key
    pub table_update : (xs : List X) (r : X) → find (at q) xs ≡ Some r →
        map_of R key val (update_where (at q) f xs) ≡ insert (map_of R key val xs) q (val (f r))
    table_update xs r there = same_map o exact _ _ (λ p.
        get_table o exact key val (update_where (at q) f xs) p
        ∙ ap (option_map val) (find_moved p xs)
        ∙ go p (eq_by_cmp R p q) refl
        ∙ ap (cond (eq_by_cmp R p q) (Some (val (f r)))) (sym (get_table o exact key val xs p))
        ∙ sym (get-insert o (map_of R key val xs) q (val (f r)) p))
      where
        at_there : changed r ≡ f r
        at_there = ap (λ b. cond b (f r) r) (find_passes (at q) xs r there)

        aside : (p : K) → eq_by_cmp R p q ≡ false → (y : Option X) → find (at p) xs ≡ y →
            option_map val (option_map changed y) ≡ option_map val y
        aside p n None e = refl
        aside p n (Some y) e =
            let off : at q y ≡ false = (eq_by_cmp_equiv o).symm q (key y)
            ∙ sym ((eq_by_cmp_equiv o).congr p (key y) q (find_passes (at p) xs y e)) ∙ n in
            ap (λ b. Some (val (cond b (f y) y))) off

        go : (p : K) (b : Bool) → eq_by_cmp R p q ≡ b →
            option_map val (option_map changed (find (at p) xs)) ≡ cond b (Some (val (f r)))
            (option_map val (find (at p) xs))
        go p true e = ap (λ k. option_map val (option_map changed (find (at k) xs)))
            (exact p q (equal _ (subst T (sym e) tt)))
            ∙ ap (λ x. option_map val (option_map changed x)) there
            ∙ ap (λ x. Some (val x)) at_there
        go p false e = aside p e (find (at p) xs) refl

    -- no row is there: nothing is changed
    pub none_updated : (ks : List (ℤ × X)) → filter (is q) ks ≡ [] →
        update_where (is q) move ks ≡ ks
    none_updated [] h = refl
    none_updated (k ∷ ks) h = go (is q k) h (none_updated ks)
      where
        go : (b : Bool) → cond b (k ∷ filter (is q) ks) (filter (is q) ks) ≡ [] →
            (filter (is q) ks ≡ [] → update_where (is q) move ks ≡ ks) → cond b (move k) k
            ∷ update_where (is q) move ks ≡ k ∷ ks
        go true e more = cc
        go false e more = ap (λ l. k ∷ l) (more e)

    -- an UPDATE at a key finds no row and changes nothing, or it finds one and sets the value
    pub outcome : (rows : List Row) (s : Are rows) →
        ((k : ℤ × X) → decode (encode (k.0, f k.1)) ≡ f k.1)
        → ((length (filter (is q) s.kept) ≡ 0) × ((get (map_in rows) q ≡ None)
        × (map encode (update_where (is q) move s.kept) ≡ rows)))
        ⊎ ((length (filter (is q) s.kept) ≡ 1) × ((x : X) × (get (map_in rows) q ≡ Some (val x))
        × (map_in (map encode (update_where (is q) move s.kept)) ≡ insert (map_in rows) q
        (val (f x)))))
    outcome rows s back = elim (one rows s q) [
      | inl none ↦
          let unfound : find (is q) s.kept ≡ None = sym (slice_get-filter (is q) s.kept)
          ∙ ap (λ l. slice_get l 0) none in
          inl (
            ap length none,
            (
              got rows q ∙ ap (option_map val) (first_of rows s q
                  ∙ ap (option_map (λ k. k.1)) unfound),
              ap (map encode) (none_updated s.kept none)
                  ∙ sym s.rows_are,
            ),
          )
      | inr some ↦
          let there : find (is q) s.kept ≡ Some some.0 = sym (slice_get-filter (is q) s.kept)
          ∙ ap (λ l. slice_get l 0) some.1 in
          let found : find (at q) (map decode rows) ≡ Some some.0.1 = first_of rows s q
          ∙ ap (option_map (λ k. k.1)) there in
          inr (
            ap length some.1,
            (
              some.0.1,
              got rows q ∙ ap (option_map val) found,
              ap (map_of R key val) (update_typed rows s back)
                  ∙ table_update (map decode rows) some.0.1 found,
            ),
          )
    ]

  -- ---- INSERT of a new key

  module _ (rows : List Row) (s : Are rows) (x : X) (back : (n : ℤ) → decode (encode (n, x)) ≡ x)
      (free : get (map_in rows) (key x) ≡ None) where
    abbrev number : ℤ × X → ℤ
    number k = k.0

    abbrev news : List (ℤ × X)
    news = s.kept ++ (next_key number s.kept, x) ∷ []

    news_back : AreBack news
    news_back = all-append (λ (k : ℤ × X). decode (encode k) ≡ k.1) s.kept
        ((next_key number s.kept, x) ∷ []) s.back (back _, tt)

    pub insert_typed : map decode (map encode news) ≡ map decode rows ++ x ∷ []
    insert_typed = read_back news news_back ∙ map-append (λ (k : ℤ × X). k.1) s.kept _
        ∙ ap (λ l. l ++ x ∷ []) (sym (typed rows s))

    pub stored_insert : Are (map encode news)
    stored_insert = record {
      kept = news;
      rows_are = refl;
      rises = rises_on number s.kept (next_key number s.kept, x) s.rises
          (all_below number s.kept s.rises);
      back = news_back;
      unique = subst (HasUniqueKeys R key) (sym insert_typed)
          (unique_push o key (map decode rows) x s.unique
          (sym (is_some-table o exact key val (map decode rows) (key x)) ∙ ap is_some free));
    }

    pub table_insert : map_in (map encode news) ≡ insert (map_in rows) (key x) (val x)
    table_insert = ap (map_of R key val) insert_typed
        ∙ table_push o exact key val (map decode rows) x free

  -- ---- DELETE of the rows whose keys pass a test

  module _ (rows : List Row) (s : Are rows) (p : K → Bool) where
    abbrev gone : ℤ × X → Bool
    gone k = p (key k.1)

    abbrev left : List (ℤ × X)
    left = delete_where gone s.kept

    left_back : AreBack left
    left_back = all-filter (λ (k : ℤ × X). decode (encode k) ≡ k.1) (λ k. not (gone k)) s.kept
        s.back

    pub delete_typed : map decode (map encode left) ≡ filter (λ x. not (p (key x)))
        (map decode rows)
    delete_typed = read_back left left_back ∙ sym (filter-map (λ x. not (p (key x)))
        (λ (k : ℤ × X). k.1) s.kept) ∙ ap (filter (λ x. not (p (key x)))) (sym (typed rows s))

    pub stored_delete : Are (map encode left)
    stored_delete = record {
      kept = left;
      rows_are = refl;
      rises = IsKeyedBy-delete_where (λ k. k.0) gone s.kept s.rises;
      back = left_back;
      unique = subst (HasUniqueKeys R key) (sym delete_typed)
          (unique_filter R key (λ x. not (p (key x))) (map decode rows) s.unique);
    }

    pub table_delete : map_in (map encode left) ≡ retain_keys (map_in rows) (λ k. not (p k))
    table_delete = ap (map_of R key val) delete_typed ∙ table_keep o exact key val (λ k. not (p k))
        (map decode rows)

-- Rows sorted by key are the entries of the map that they stand for, and a sorted filter is a
-- filter of these.
use Rattle.std.proofs.Common.{◌≡◌, ℕ, take, ◌≢◌, Bool, true, false, cond, T, List, [], ◌∷◌, map}
use Rattle.std.proofs.Common.{filter, sym, refl, ap, ◌∙◌, subst, Some, None, length, arith}
use Rattle.std.specs.Prelude.{is_some}
use Rattle.std.specs.List.{AllByRecursion}
use Rattle.std.proofs.lemmas.List.{take-map}
use Rattle.std.proofs.lemmas.Map.Keys.{IsDistinct-head, IsDistinct-tail}
use Rattle.std.specs.declared.cmp.Ordering.{Ordering}
use Rattle.std.specs.declared.cmp.Ordering.TheVariants.{Less, Equal, Greater}
use Rattle.std.specs.Ordering.{is_lt, is_eq, is_gt, eq_by_cmp}
use Rattle.std.specs.Cmp.{IsTotalOrder}
use Rattle.std.specs.FinMap.{empty, entries, entries_sorted, from_entries, find, put, is_sorted}
use Rattle.std.specs.FinMap.{get-entries, get-from_entries, entries-insert, len-entries, len-empty}
use Rattle.std.specs.FinMap.Entries.{by_order, below_all}
use Rattle.sqlite_keyed.specs.Lists.{insert_sorted, sort_by}
use Rattle.sqlite_keyed.proofs.SortLemmas.{sort_by-map}
use Rattle.hq_owned.specs.Rows.{pairs_of, map_of, HasUniqueKeys}
use Rattle.hq_owned.proofs.Cases.{both, first, second, less}

not_None : {A : Type 0} (x : A) → Some x ≢ None
not_None x e = subst T (ap is_some e) tt

-- the empty map has no entry
pub no_entries : {K X : Type 0} (R : K → K → Ordering) → entries (empty {X = X} {R = R}) ≡ []
no_entries {K} {X} R = none _ (sym (len-entries (empty {X = X} {R = R})) ∙ len-empty R X) where
  none : (es : List (K × X)) → length es ≡ 0 → es ≡ []
  none [] h = refl
  none (e ∷ es) h = absurd (omega arith)

module _ {K X : Type 0} (R : K → K → Ordering) where
  abbrev pub by_key : K × X → K × X → Ordering
  by_key a b = R a.0 b.0

  -- no key stands twice among pairs
  abbrev pub AreApart : List (K × X) → Type 0
  AreApart [] = Unit {0}
  AreApart (e ∷ es) = (find R e.0 es ≡ None) × AreApart es

  -- a put of a new key is an insertion into sorted pairs
  put_is : (k : K) (v : X) (es : List (K × X)) → find R k es ≡ None →
      put R k v es ≡ insert_sorted by_key (k, v) es
  put_is k v [] h = refl
  put_is k v (e ∷ es) h =
      elim (R k e.0) as (λ r. cond (is_eq r) (Some e.1) (find R k es) ≡ None →
      by_order r ((k, v) ∷ e ∷ es) ((e.0, v) ∷ es) (e ∷ put R k v es) ≡ cond (is_gt r) (e
      ∷ insert_sorted by_key (k, v) es) ((k, v) ∷ e ∷ es)) [
        | Less ↦ λ n. refl
        | Equal ↦ λ n. absurd (not_None e.1 n)
        | Greater ↦ λ n. ap (λ xs. e ∷ xs) (put_is k v es n)
      ] h

  below_filter : (q : K × X → Bool) (k : K) (es : List (K × X)) → T (below_all R k es) →
      T (below_all R k (filter q es))
  below_filter q k [] h = tt
  below_filter q k (e ∷ es) h =
      let rest = below_filter q k es (second _ _ h) in
      elim (q e) as (λ b. T (below_all R k (cond b (e ∷ filter q es) (filter q es))))
      [ true ↦ both _ _ (first _ _ h) rest | false ↦ rest ]

  put_front : (k : K) (v : X) (es : List (K × X)) → T (below_all R k es) → put R k v es ≡ (k, v)
      ∷ es
  put_front k v [] h = refl
  put_front k v (e ∷ es) h = ap (λ r. by_order r ((k, v) ∷ e ∷ es) ((e.0, v) ∷ es) (e
      ∷ put R k v es)) (less _ (first _ _ h))

  -- a new entry that does not pass
  filter_put_out : (q : K × X → Bool) (k : K) (v : X) (es : List (K × X)) → q (k, v) ≡ false →
      find R k es ≡ None → filter q (put R k v es) ≡ filter q es
  filter_put_out q k v [] out n = ap (λ b. cond b ((k, v) ∷ []) []) out
  filter_put_out q k v (e ∷ es) out n =
      elim (R k e.0) as (λ r. cond (is_eq r) (Some e.1) (find R k es) ≡ None →
      filter q (by_order r ((k, v) ∷ e ∷ es) ((e.0, v) ∷ es) (e ∷ put R k v es)) ≡ filter q (e
      ∷ es)) [
        | Less ↦ λ n. ap (λ b. cond b ((k, v) ∷ filter q (e ∷ es)) (filter q (e ∷ es))) out
        | Equal ↦ λ n. absurd (not_None e.1 n)
        | Greater ↦ λ n. ap (λ xs. cond (q e) (e ∷ xs) xs) (filter_put_out q k v es out n)
      ] n

  module _ (o : IsTotalOrder R) where
    below_less : (x y : K) (es : List (K × X)) → R x y ≡ Less → T (below_all R y es) →
        T (below_all R x es)
    below_less x y [] p h = tt
    below_less x y (e ∷ es) p h = both _ _ (subst (λ r. T (is_lt r))
        (sym (o.trans x y e.0 p (less _ (first _ _ h)))) tt) (below_less x y es p (second _ _ h))

    -- a new entry that passes
    filter_put_in : (q : K × X → Bool) (k : K) (v : X) (es : List (K × X)) → T (is_sorted R es) →
        q (k, v) ≡ true → find R k es ≡ None → filter q (put R k v es) ≡ put R k v (filter q es)
    filter_put_in q k v [] s in_ n = ap (λ b. cond b ((k, v) ∷ []) []) in_
    filter_put_in q k v (e ∷ es) s in_ n =
        elim (R k e.0) as (λ r. R k e.0 ≡ r → cond (is_eq r) (Some e.1) (find R k es) ≡ None →
        filter q (by_order r ((k, v) ∷ e ∷ es) ((e.0, v) ∷ es) (e ∷ put R k v es)) ≡ put R k v
        (filter q (e ∷ es))) [
          | Less ↦ λ p n. ap (λ b. cond b ((k, v) ∷ filter q (e ∷ es)) (filter q (e ∷ es))) in_
              ∙ sym (put_front k v (filter q (e ∷ es))
              (below_filter q k (e ∷ es) (both _ _ (subst (λ r. T (is_lt r)) (sym p) tt)
              (below_less k e.0 es p (first _ _ s)))))
          | Equal ↦ λ p n. absurd (not_None e.1 n)
          | Greater ↦ λ p n. ap (λ xs. cond (q e) (e ∷ xs) xs)
              (filter_put_in q k v es (second _ _ s) in_ n)
              ∙ elim (q e) as (λ b. cond b (e ∷ put R k v (filter q es)) (put R k v (filter q es)) ≡
              put R k v (cond b (e ∷ filter q es) (filter q es))) [
                | true ↦ ap (λ r. by_order r ((k, v) ∷ e ∷ filter q es) ((e.0, v) ∷ filter q es) (e
                    ∷ put R k v (filter q es))) (sym p)
                | false ↦ refl
              ]
        ] refl n

    missing : (e : K × X) (es : List (K × X)) → find R e.0 es ≡ None →
        find R e.0 (entries (from_entries {R = R} es)) ≡ None
    missing e es n = sym (get-entries (from_entries es) e.0) ∙ get-from_entries o es e.0 ∙ n

    -- sorted pairs are the entries
    pub entries_sorted_by : (es : List (K × X)) → AreApart es →
        entries (from_entries {R = R} es) ≡ sort_by by_key es
    entries_sorted_by [] u = no_entries R
    entries_sorted_by (e ∷ es) u = entries-insert o (from_entries es) e.0 e.1
        ∙ put_is e.0 e.1 _ (missing e es u.0)
        ∙ ap (insert_sorted by_key e) (entries_sorted_by es u.1)

    apart_filter : (q : K × X → Bool) (k : K) (es : List (K × X)) → find R k es ≡ None →
        find R k (filter q es) ≡ None
    apart_filter q k [] n = n
    apart_filter q k (e ∷ es) n =
        elim (eq_by_cmp R k e.0) as (λ b. eq_by_cmp R k e.0 ≡ b →
        cond b (Some e.1) (find R k es) ≡ None → find R k (filter q (e ∷ es)) ≡ None) [
          | true ↦ λ t n. absurd (not_None e.1 n)
          | false ↦ λ t n. let rest = apart_filter q k es n in
              elim (q e) as (λ b. find R k (cond b (e ∷ filter q es) (filter q es)) ≡ None) [
                | true ↦ ap (λ b. cond b (Some e.1) (find R k (filter q es))) t
                    ∙ rest
                | false ↦ rest
              ]
        ] refl n

    pub all_apart_filter : (q : K × X → Bool) (es : List (K × X)) → AreApart es →
        AreApart (filter q es)
    all_apart_filter q [] u = tt
    all_apart_filter q (e ∷ es) u =
        let rest = all_apart_filter q es u.1 in
        elim (q e) as (λ b. AreApart (cond b (e ∷ filter q es) (filter q es)))
        [ true ↦ (apart_filter q e.0 es u.0, rest) | false ↦ rest ]

    -- a filter of pairs with keys apart, by keys and values, filters the entries
    pub entries_filter : (q : K × X → Bool) (es : List (K × X)) → AreApart es →
        entries (from_entries {R = R} (filter q es)) ≡ filter q (entries (from_entries {R = R} es))
    entries_filter q [] u = no_entries R ∙ ap (filter q) (sym (no_entries R))
    entries_filter q (e ∷ es) u =
        let rest = entries_filter q es u.1 in
        let here = entries-insert o (from_entries es) e.0 e.1 in
        let n = missing e es u.0 in
        elim (q e) as (λ b. q e ≡ b →
        entries (from_entries {R = R} (cond b (e ∷ filter q es) (filter q es))) ≡ filter q
        (entries (from_entries {R = R} (e ∷ es)))) [
          | true ↦ λ t. entries-insert o (from_entries (filter q es)) e.0 e.1
              ∙ ap (put R e.0 e.1) rest
              ∙ sym (filter_put_in q e.0 e.1 _ (entries_sorted (from_entries es)) t n)
              ∙ ap (filter q) (sym here)
          | false ↦ λ t. rest ∙ sym (filter_put_out q e.0 e.1 _ t n) ∙ ap (filter q) (sym here)
        ] refl

    pub sorted_filter : (q : K × X → Bool) (es : List (K × X)) → AreApart es →
        sort_by by_key (filter q es) ≡ filter q (entries (from_entries {R = R} es))
    sorted_filter q es u = sym (entries_sorted_by (filter q es) (all_apart_filter q es u))
        ∙ entries_filter q es u

module _ {A K X : Type 0} {R : K → K → Ordering} (o : IsTotalOrder R) (key : A → K) (val : A → X)
  where
    none_of : (k : K) (rows : List A) →
        AllByRecursion (λ y. eq_by_cmp R k y ≡ false) (map key rows) →
        find R k (pairs_of key val rows) ≡ None
    none_of k [] a = refl
    none_of k (r ∷ rs) a = ap (λ b. cond b (Some (val r)) (find R k (pairs_of key val rs))) a.0
        ∙ none_of k rs a.1

    pub apart_from_unique : (rows : List A) → HasUniqueKeys R key rows →
        AreApart R (pairs_of key val rows)
    apart_from_unique [] u = tt
    apart_from_unique (r ∷ rs) u = (
      none_of (key r) rs
          (IsDistinct-head (eq_by_cmp R) (key r) (map key rs) u),
      apart_from_unique rs (IsDistinct-tail (eq_by_cmp R) (key r) (map key rs) u),
    )

    pairs_where : (q : K × X → Bool) (rows : List A) →
        pairs_of key val (filter (λ r. q (key r, val r)) rows) ≡ filter q (pairs_of key val rows)
    pairs_where q [] = refl
    pairs_where q (r ∷ rs) =
        elim (q (key r, val r)) as (λ b. pairs_of key val
        (cond b (r ∷ filter (λ r. q (key r, val r)) rs) (filter (λ r. q (key r, val r)) rs)) ≡
        cond b ((key r, val r) ∷ filter q (pairs_of key val rs)) (filter q (pairs_of key val rs))) [
          | true ↦ ap (λ es. (key r, val r) ∷ es) (pairs_where q rs)
          | false ↦ pairs_where q rs
        ]

    -- a page: the rows that pass, sorted by key, are the entries that pass
    pub sorted_rows : (q : K × X → Bool) (rows : List A) → HasUniqueKeys R key rows
        → pairs_of key val (sort_by (λ a b. R (key a) (key b))
        (filter (λ r. q (key r, val r)) rows))
        ≡ filter q (entries (map_of R key val rows))
    unfolding map_of
    sorted_rows q rows u =
        sym (sort_by-map (by_key R) (λ r. (key r, val r)) (filter (λ r. q (key r, val r)) rows))
        ∙ ap (sort_by (by_key R)) (pairs_where q rows)
        ∙ sorted_filter R o q (pairs_of key val rows) (apart_from_unique rows u)

    -- the first of them
    pub page_rows : (limit : ℕ) (q : K × X → Bool) (rows : List A) → HasUniqueKeys R key rows
        → pairs_of key val (take limit (sort_by (λ a b. R (key a) (key b))
        (filter (λ r. q (key r, val r)) rows))) ≡ take limit
        (filter q (entries (map_of R key val rows)))
    page_rows limit q rows u = sym (take-map (λ r. (key r, val r)) limit _)
        ∙ ap (take limit) (sorted_rows q rows u)

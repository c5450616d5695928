-- What the rows of a message's recipients tell of the table: which recipient stands at a place, and
-- that none stands beside.
use Rattle.std.proofs.Common.{◌≡◌, ℕ, zero, suc, ◌+◌, arith, Bool, true, false, true≢false, cond}
use Rattle.std.proofs.Common.{◌&&◌, ◌||◌, T, List, [], ◌∷◌, map, filter, Option, Some, None}
use Rattle.std.proofs.Common.{slice_get, option_map, refl, sym, ap, ◌∙◌, subst}
use Rattle.std.specs.Prelude.{unwrap_or}
use Rattle.std.specs.List.{AllByRecursion, list_any}
use Rattle.std.specs.declared.cmp.Ordering.{Ordering}
use Rattle.std.specs.Ordering.{nat_cmp, is_eq, eq_by_cmp}
use Rattle.std.specs.Cmp.{IsTotalOrder, eq_by_cmp_equiv, nat_cmp_total}
use Rattle.std.specs.Cmp.Lexicographic.{nat_list_cmp_total}
use Rattle.std.specs.FinMap.{entries, entries_sorted, get, get-entries, find, is_sorted}
use Rattle.std.specs.FinMap.Entries.{below_all}
use Rattle.std.proofs.lemmas.Bool.Decides.{nat_tests}
use Rattle.std.proofs.lemmas.Map.Lookups.{CmpEqualImpliesEq, exact_bytes, exact_unsigned}
use Rattle.sqlite.specs.Order.{Row}
use Rattle.sqlite_keyed.proofs.ListLemmas.{all_weaker, all_map, all_unmap, all-slice_get}
use Rattle.hq_kept.specs.declared.message.Pending.{Pending}
use Rattle.hq_owned.specs.Rows.{pairs_of}
use Rattle.hq_owned.proofs.Cases.{first, second, less, equal}
use Rattle.hq_owned.proofs.Parts.{tied_true}
use Rattle.hq_rows.specs.declared.rows.RecipientRow.{RecipientRow}
use Rattle.hq_tables.specs.Tables.{text_cmp, recipient_cmp}
use Rattle.hq_rows.specs.Listed.{recipient_key, recipient_value}
use Rattle.hq_sql.specs.Rows.{recipient_shown}
use Rattle.hq_sql_recipients.specs.Places.{is_far, is_beside, is_of, placed, StandsAfter}
use Rattle.hq_sql_recipients.proofs.InPlace.{Recipients, recipient_total, recipient_exact}

-- ---- lists

pub none_is : {A : Type 0} (x : A) → None ≡ Some x → ⊥
none_is x h = let f = h in cc

left : {A : Type 0} (P : A → Type 0) (b : Bool) (x : A) (xs : List A) →
    AllByRecursion P (cond b (x ∷ xs) xs) → AllByRecursion P xs
left P true x xs all = all.1
left P false x xs all = all

and_both : (a b : Bool) → (a && b) ≡ true → (a ≡ true) × (b ≡ true)
and_both true b h = (refl, h)
and_both false b h = absurd (true≢false (sym h))

or_neither : (a b : Bool) → (a || b) ≡ false → (a ≡ false) × (b ≡ false)
or_neither true b h = absurd (true≢false h)
or_neither false b h = (refl, h)

none_passes : {A : Type 0} (p : A → Bool) (xs : List A) → list_any p xs ≡ false →
    AllByRecursion (λ x. p x ≡ false) xs
none_passes p [] h = tt
none_passes p (x ∷ xs) h = let parts = or_neither (p x) (list_any p xs) h in
    (parts.0, none_passes p xs parts.1)

-- ---- entries

module _ {K X : Type 0} {R : K → K → Ordering} (o : IsTotalOrder R) where
  grown : (e : K × X) (es fs : List (K × X)) → T (below_all R e.0 fs) →
      AllByRecursion (λ x. find R x.0 es ≡ Some x.1) fs →
      AllByRecursion (λ x. find R x.0 (e ∷ es) ≡ Some x.1) fs
  grown e es [] b all = tt
  grown e es (x ∷ fs) b all = (
    ap (λ t. cond t (Some e.1) (find R x.0 es))
        ((eq_by_cmp_equiv o).symm x.0 e.0 ∙ ap is_eq (less _ (first _ _ b))) ∙ all.0,
    grown e es fs (second _ _ b) all.1,
  )

  all_found : (es : List (K × X)) → T (is_sorted R es) →
      AllByRecursion (λ x. find R x.0 es ≡ Some x.1) es
  all_found [] s = tt
  all_found (e ∷ es) s = (
    ap (λ t. cond t (Some e.1) (find R e.0 es)) (tied_true o e.0),
    grown e es es (first _ _ s) (all_found es (second _ _ s)),
  )

abbrev Entry : Type 0
Entry = (List ℕ × (ℕ × ℕ)) × Pending

all_got : (rs : Recipients) → AllByRecursion (λ (e : Entry). get rs e.0 ≡ Some e.1) (entries rs)
all_got rs = all_weaker (λ (e : Entry). find recipient_cmp e.0 (entries rs) ≡ Some e.1)
    (λ (e : Entry). get rs e.0 ≡ Some e.1) (λ e h. get-entries rs e.0 ∙ h) (entries rs)
    (all_found recipient_total (entries rs) (entries_sorted rs))

same : {N : Type 0} {S : N → N → Ordering} → CmpEqualImpliesEq S → (x y : N) →
    eq_by_cmp S x y ≡ true → x ≡ y
same exact x y h = exact x y (equal _ (subst T (sym h) tt))

key_is : (c : List ℕ) (serial : ℕ) (e : Entry) → is_of c serial e ≡ true →
    e.0 ≡ (c, (serial, e.0.1.1))
key_is c serial e h =
    let parts = and_both (eq_by_cmp text_cmp c e.0.0) (eq_by_cmp nat_cmp serial e.0.1.0) h in
    λ i. (
      sym (same exact_bytes c e.0.0 parts.0) i,
      (sym (same exact_unsigned serial e.0.1.0 parts.1) i, e.0.1.1),
    )

module _ (c : List ℕ) (serial : ℕ) (rs : Recipients) where
  abbrev IsAt : Entry → Type 0
  IsAt e = get rs (c, (serial, e.0.1.1)) ≡ Some e.1

  own : (es : List Entry) → AllByRecursion (λ (e : Entry). get rs e.0 ≡ Some e.1) es →
      AllByRecursion IsAt (filter (is_of c serial) es)
  own [] all = tt
  own (e ∷ es) all =
      let rest = own es all.1 in
      elim (is_of c serial e) as (λ b. is_of c serial e ≡ b →
      AllByRecursion IsAt (cond b (e ∷ filter (is_of c serial) es)
      (filter (is_of c serial) es))) [
        | true ↦ λ t. (ap (get rs) (sym (key_is c serial e t)) ∙ all.0, rest)
        | false ↦ λ t. rest
      ] refl

  none_in : (n : ℕ) (k : List ℕ × (ℕ × ℕ)) (es : List Entry) →
      AllByRecursion (λ (e : Entry). is_far n e.0.1.1 ≡ false) (filter (is_of c serial) es) →
      is_beside c serial n k ≡ true → find recipient_cmp k es ≡ None
  none_in n k [] all h = refl
  none_in n k (e ∷ es) all h =
      let passing = filter (is_of c serial) es in
      let rest = none_in n k es (left (λ (x : Entry). is_far n x.0.1.1 ≡ false) (is_of c serial e) e
      passing all) h in
      let parts = and_both (eq_by_cmp text_cmp c k.0 && eq_by_cmp nat_cmp serial k.1.0)
      (is_far n k.1.1) h in
      elim (eq_by_cmp recipient_cmp k e.0) as (λ b. eq_by_cmp recipient_cmp k e.0 ≡ b →
      cond b (Some e.1) (find recipient_cmp k es) ≡ None) [
        | true ↦ λ t.
            let here : k ≡ e.0 = same recipient_exact k e.0 t in
            let mine : is_of c serial e ≡ true = ap
            (λ (q : List ℕ × (ℕ × ℕ)). eq_by_cmp text_cmp c q.0
            && eq_by_cmp nat_cmp serial q.1.0) (sym here) ∙ parts.0 in
            let near : is_far n e.0.1.1 ≡ false =
            (subst (λ b. AllByRecursion (λ (x : Entry). is_far n x.0.1.1 ≡ false)
            (cond b (e ∷ passing) passing)) mine all).0 in
            absurd (true≢false (sym parts.1 ∙ ap (λ (q : List ℕ × (ℕ × ℕ)). is_far n q.1.1) here
            ∙ near))
        | false ↦ λ t. rest
      ] refl

  module _ (rows : List Row)
      (seen : pairs_of recipient_key recipient_value (map recipient_shown rows) ≡ filter
      (is_of c serial) (entries rs)) where
    abbrev pair : RecipientRow → Entry
    pair r = (recipient_key r, recipient_value r)

    rows_stand : AllByRecursion (λ r. get rs (c, (serial, (placed r).0)) ≡ Some (placed r).1) rows
    rows_stand = all_unmap (λ r. IsAt (pair r)) recipient_shown rows
        (all_unmap IsAt pair (map recipient_shown rows)
        (subst (AllByRecursion IsAt) (sym seen) (own (entries rs) (all_got rs))))

    -- the recipient that a row shows stands in the table
    pub stands_there : (n : ℕ) (p : Pending) → StandsAfter rows n p →
        get rs (c, (serial, n + 1)) ≡ Some p
    stands_there n p h = go (slice_get rows n) refl h
      where
        go : (x : Option Row) → slice_get rows n ≡ x → option_map placed x ≡ Some (n + 1, p) →
            get rs (c, (serial, n + 1)) ≡ Some p
        go None e h = absurd (none_is (n + 1, p) h)
        go (Some r) e h = subst (λ (x : ℕ × Pending). get rs (c, (serial, x.0)) ≡ Some x.1)
            (ap (λ x. unwrap_or x (placed r)) h)
            (all-slice_get (λ r. get rs (c, (serial, (placed r).0)) ≡ Some (placed r).1) rows n r e
            rows_stand)

    -- nothing stands beside where no row is
    pub none_beside : (n : ℕ) → list_any (λ r. is_far n (recipient_shown r).place) rows ≡ false →
        (k : List ℕ × (ℕ × ℕ)) → is_beside c serial n k ≡ true → get rs k ≡ None
    none_beside n none k h =
        let near = none_passes (λ r. is_far n (recipient_shown r).place) rows none in
        let all = all_map (λ (e : Entry). is_far n e.0.1.1 ≡ false) pair (map recipient_shown rows)
        (all_map (λ r. is_far n r.place ≡ false) recipient_shown rows near) in
        get-entries rs k ∙ none_in n k (entries rs)
        (subst (AllByRecursion (λ (e : Entry). is_far n e.0.1.1 ≡ false)) seen all) h

    far : (j : ℕ) → is_far 0 j ≡ true
    far zero = refl
    far (suc j) = grind (arith, nat_tests)

    -- a message without rows has nothing at any place
    pub none_new : rows ≡ [] → (j : ℕ) → get rs (c, (serial, j)) ≡ None
    none_new none j =
        none_beside 0 (ap (list_any (λ r. is_far 0 (recipient_shown r).place)) none) (
          c,
          (serial, j),
        )
        (λ i. (tied_true nat_list_cmp_total c i && tied_true nat_cmp_total serial i) && far j i)

-- What a search tells and where it goes on.
use Rattle.std.proofs.Common.{◌≡◌, ℕ, suc, ◌<◌, ◌≤◌, Bool, true, false, cond, List, [], ◌∷◌, ◌++◌}
use Rattle.std.proofs.Common.{length, refl, sym, ap, ◌∙◌, subst, Option, Some, None, filter, arith}
use Rattle.std.specs.Prelude.{take, drop, nat_lt, if◌then◌else◌}
use Rattle.std.proofs.lemmas.Bool.Decides.{nat_tests}
use Rattle.std.proofs.lemmas.List.{take-append-drop, take_all, append_assoc}
use Rattle.std.proofs.lemmas.List.Elements.{filter-append}
use Rattle.hq_kept.specs.declared.end.End.{End}
use Rattle.hq_rules.specs.Histories.{last_number, next_from}
use Rattle.hq_laws.specs.Searches.{AreBelow, IsNewestFirst}

is_under : (a b : ℕ) → a < b → nat_lt a b ≡ true
is_under a b h = grind (arith, nat_tests)

is_not_under : (a b : ℕ) → b ≤ a → nat_lt a b ≡ false
is_not_under a b h = grind (arith, nat_tests)

is_few : (a b : ℕ) → nat_lt a b ≡ false → b ≤ a
is_few a b h = grind (arith, nat_tests)

pub none_some : {A : Type 0} {x : A} → ◌≡◌ {A = Option A} (Some x) None → ⊥
none_some h = cc

pub some_same : {A : Type 0} (x y : A) → ◌≡◌ {A = Option A} (Some x) (Some y) → x ≡ y
some_same x y h = cc

abbrev pub under : ℕ → End → Bool
under n e = nat_lt e.number n

-- those below a number are all kept
kept_below : (n m : ℕ) (es : List End) → m ≤ n → AreBelow m es → filter (under n) es ≡ es
kept_below n m [] h b = refl
kept_below n m (e ∷ es) h b =
    ap (λ t. cond t (e ∷ filter (under n) es) (filter (under n) es))
    (is_under e.number n (omega arith))
    ∙ ap (λ xs. e ∷ xs) (kept_below n e.number es (omega arith) b.1)

-- the number of the last of some, which is the first where there is no more
last_of_some : (e : End) (es : List End) → (n : ℕ) × (last_number (e ∷ es) ≡ Some n)
last_of_some e [] = (e.number, refl)
last_of_some e (f ∷ es) = last_of_some f es

-- behind the last of a first part are the others
behind_last : (e : End) (xs bs : List End) (n : ℕ) → AreBelow e.number (xs ++ bs) →
    last_number (e ∷ xs) ≡ Some n → (n ≤ e.number) × (filter (under n) (xs ++ bs) ≡ bs)
behind_last e [] bs n b is =
    let same : e.number ≡ n = some_same e.number n is in
    (omega arith, kept_below n e.number bs (omega arith) b)
behind_last e (a ∷ xs) bs n b is =
    let rest = behind_last a xs bs n b.1 is in
    let low : n ≤ a.number = rest.0 in
    let first : a.number < e.number = b.0 in (
      omega arith,
      ap (λ t. cond t (a ∷ filter (under n) (xs ++ bs)) (filter (under n) (xs ++ bs)))
          (is_not_under a.number n low) ∙ rest.1,
    )

pub goes_on_behind : (xs bs : List End) (n : ℕ) → IsNewestFirst (xs ++ bs) →
    last_number xs ≡ Some n → filter (under n) (xs ++ bs) ≡ bs
goes_on_behind [] bs n h is = absurd (none_some (sym is))
goes_on_behind (a ∷ xs) bs n h is =
    let rest = behind_last a xs bs n h is in
    ap (λ t. cond t (a ∷ filter (under n) (xs ++ bs)) (filter (under n) (xs ++ bs)))
    (is_not_under a.number n rest.0) ∙ rest.1

-- a test of those that pass another one
swapped : (p q : End → Bool) (es : List End) → filter p (filter q es) ≡ filter q (filter p es)
swapped p q [] = refl
swapped p q (e ∷ es) = by (swapped p q es) (p e) (q e) refl refl where
  by : filter p (filter q es) ≡ filter q (filter p es) → (b c : Bool) → p e ≡ b → q e ≡ c →
      filter p (cond (q e) (e ∷ filter q es) (filter q es)) ≡
      filter q (cond (p e) (e ∷ filter p es) (filter p es))
  by rest true true pe qe = ap (λ t. filter p (cond t (e ∷ filter q es) (filter q es))) qe
      ∙ ap (λ t. cond t (e ∷ filter p (filter q es)) (filter p (filter q es))) pe
      ∙ ap (λ xs. e ∷ xs) rest
      ∙ ap (λ t. cond t (e ∷ filter q (filter p es)) (filter q (filter p es))) (sym qe)
      ∙ ap (λ t. filter q (cond t (e ∷ filter p es) (filter p es))) (sym pe)
  by rest true false pe qe = ap (λ t. filter p (cond t (e ∷ filter q es) (filter q es))) qe
      ∙ rest
      ∙ ap (λ t. cond t (e ∷ filter q (filter p es)) (filter q (filter p es))) (sym qe)
      ∙ ap (λ t. filter q (cond t (e ∷ filter p es) (filter p es))) (sym pe)
  by rest false true pe qe = ap (λ t. filter p (cond t (e ∷ filter q es) (filter q es))) qe
      ∙ ap (λ t. cond t (e ∷ filter p (filter q es)) (filter p (filter q es))) pe
      ∙ rest
      ∙ ap (λ t. filter q (cond t (e ∷ filter p es) (filter p es))) (sym pe)
  by rest false false pe qe = ap (λ t. filter p (cond t (e ∷ filter q es) (filter q es))) qe
      ∙ rest
      ∙ ap (λ t. filter q (cond t (e ∷ filter p es) (filter p es))) (sym pe)

-- of those in order, some are in order
some_below : (p : End → Bool) (m n : ℕ) (es : List End) → m ≤ n → AreBelow m es →
    AreBelow n (filter p es)
some_below p m n [] h b = tt
some_below p m n (e ∷ es) h b = by (p e)
    (some_below p e.number e.number es (omega arith) b.1)
    (some_below p e.number n es (omega arith) b.1)
  where
    by : (t : Bool) → AreBelow e.number (filter p es) → AreBelow n (filter p es) →
        AreBelow n (cond t (e ∷ filter p es) (filter p es))
    by true here rest = (omega arith, here)
    by false here rest = rest

some_first : (p : End → Bool) (es : List End) → IsNewestFirst es → IsNewestFirst (filter p es)
some_first p [] h = tt
some_first p (e ∷ es) h = by (p e) where
  rest : (xs : List End) → AreBelow e.number xs → IsNewestFirst xs
  rest [] b = tt
  rest (x ∷ xs) b = b.1

  by : (t : Bool) → IsNewestFirst (cond t (e ∷ filter p es) (filter p es))
  by true = some_below p e.number e.number es (omega arith) h
  by false = rest (filter p es) (some_below p e.number e.number es (omega arith) h)

-- ---- a search

module _ (p : End → Bool) (es : List End) where
  abbrev pub found : List End
  found = filter p (take 1000 es)

  whole : filter p es ≡ found ++ filter p (drop 1000 es)
  whole = ap (filter p) (sym (take-append-drop 1000 es))
      ∙ filter-append p (take 1000 es) (drop 1000 es)

  last_there : (n : ℕ) (xs : List End) → 0 < length xs → last_number (take (suc n) xs) ≡ None → ⊥
  last_there n [] some h = omega arith
  last_there n (x ∷ xs) some h =
      let is = last_of_some x (take n xs) in none_some (sym is.1 ∙ h)

  by_all : (b c : Bool) → nat_lt 100 (length found) ≡ b → nat_lt 1000 (length es) ≡ c →
      (if b then last_number (take 100 found) else
      (if c then last_number (take 1000 es) else None)) ≡ None → take 100 found ≡ filter p es
  by_all true c many long h = absurd (last_there 99 found (grind (arith, nat_tests)) h)
  by_all false true many long h = absurd (last_there 999 es (grind (arith, nat_tests)) h)
  by_all false false many long h =
      take_all 100 found (is_few 100 (length found) many)
      ∙ ap (filter p) (take_all 1000 es (is_few 1000 (length es) long))

  pub ends : next_from es found ≡ None → take 100 found ≡ filter p es
  ends h = by_all (nat_lt 100 (length found)) (nat_lt 1000 (length es)) refl refl h

  by_next : (n : ℕ) → IsNewestFirst es → (b c : Bool) → nat_lt 100 (length found) ≡ b →
      (if b then last_number (take 100 found) else
      (if c then last_number (take 1000 es) else None)) ≡ Some n →
      take 100 found ++ filter p (filter (under n) es) ≡ filter p es
  by_next n first true c many h =
      let rest : List End = drop 100 found ++ filter p (drop 1000 es) in
      let parts : filter p es ≡ take 100 found ++ rest = whole
      ∙ ap (λ xs. xs ++ filter p (drop 1000 es)) (sym (take-append-drop 100 found))
      ∙ append_assoc (take 100 found) (drop 100 found) (filter p (drop 1000 es)) in
      let order = subst IsNewestFirst parts (some_first p es first) in
      ap (λ xs. take 100 found ++ xs) (swapped p (under n) es ∙ ap (filter (under n)) parts
      ∙ goes_on_behind (take 100 found) rest n order h) ∙ sym parts
  by_next n first false true many h =
      let split = take-append-drop 1000 es in
      let order = subst IsNewestFirst (sym split) first in
      ap (λ xs. xs ++ filter p (filter (under n) es))
      (take_all 100 found (is_few 100 (length found) many))
      ∙ ap (λ xs. found ++ filter p xs) (ap (filter (under n)) (sym split)
      ∙ goes_on_behind (take 1000 es) (drop 1000 es) n order h) ∙ sym whole
  by_next n first false false many h = absurd (none_some (sym h))

  pub goes : (n : ℕ) → IsNewestFirst es → next_from es found ≡ Some n →
      take 100 found ++ filter p (filter (under n) es) ≡ filter p es
  goes n first h = by_next n first (nat_lt 100 (length found)) (nat_lt 1000 (length es)) refl h

-- A search goes on from one of the ends that it looked at.
use Rattle.std.proofs.Common.{◌≡◌, ◌⊎◌, inl, inr, ℕ, zero, suc, ◌<◌, ◌≤◌, Bool, true, false, cond}
use Rattle.std.proofs.Common.{List, [], ◌∷◌, length, Some, None, sym, ap, ◌∙◌, subst, filter, arith}
use Rattle.std.specs.Prelude.{take, nat_lt, if◌then◌else◌}
use Rattle.std.proofs.lemmas.Bool.Decides.{nat_tests}
use Rattle.hq_kept.specs.declared.end.End.{End}
use Rattle.hq_rules.specs.Histories.{last_number, next_from}
use Rattle.hq_laws.proofs.Searching.{under, none_some, some_same}

not_under : (a : ℕ) → nat_lt a a ≡ false
not_under a = grind (arith, nat_tests)

shorter : (p : End → Bool) (es : List End) → length (filter p es) ≤ length es
shorter p [] = grind arith
shorter p (e ∷ es) = by (p e) (shorter p es) where
  by : (b : Bool) → length (filter p es) ≤ length es →
      length (cond b (e ∷ filter p es) (filter p es)) ≤ suc (length es)
  by true h = omega arith
  by false h = omega arith

abbrev has : ℕ → List End → Type 0
has n [] = ⊥
has n (e ∷ es) = (e.number ≡ n) ⊎ has n es

has_last : (n : ℕ) (es : List End) → last_number es ≡ Some n → has n es
has_last n [] h = absurd (none_some (sym h))
has_last n (e ∷ []) h = inl (some_same e.number n h)
has_last n (e ∷ f ∷ es) h = inr (has_last n (f ∷ es) h)

has_first : (n k : ℕ) (es : List End) → has n (take k es) → has n es
has_first n zero [] h = h
has_first n zero (e ∷ es) h = absurd h
has_first n (suc k) [] h = h
has_first n (suc k) (e ∷ es) (inl h) = inl h
has_first n (suc k) (e ∷ es) (inr h) = inr (has_first n k es h)

has_some : (p : End → Bool) (n : ℕ) (es : List End) → has n (filter p es) → has n es
has_some p n [] h = h
has_some p n (e ∷ es) h = by (p e) (has_some p n es) h where
  by : (b : Bool) → (has n (filter p es) → has n es) →
      has n (cond b (e ∷ filter p es) (filter p es)) → (e.number ≡ n) ⊎ has n es
  by true rest (inl h) = inl h
  by true rest (inr h) = inr (rest h)
  by false rest h = inr (rest h)

less : (n : ℕ) (es : List End) → has n es → length (filter (under n) es) < length es
less n [] h = absurd h
less n (e ∷ es) (inl h) =
    let rest = shorter (under n) es in
    let not : under n e ≡ false = ap (λ k. nat_lt k n) h ∙ not_under n in
    subst (λ b. length (cond b (e ∷ filter (under n) es) (filter (under n) es)) < suc (length es))
    (sym not) (omega arith)
less n (e ∷ es) (inr h) = by (under n e) (less n es h) where
  by : (b : Bool) → length (filter (under n) es) < length es →
      length (cond b (e ∷ filter (under n) es) (filter (under n) es)) < suc (length es)
  by true h = omega arith
  by false h = omega arith

pub goes_less : (p : End → Bool) (es : List End) (n : ℕ) →
    next_from es (filter p (take 1000 es)) ≡ Some n → length (filter (under n) es) < length es
goes_less p es n h = by (nat_lt 100 (length found)) (nat_lt 1000 (length es)) h where
  found : List End
  found = filter p (take 1000 es)

  by : (b c : Bool) → (if b then last_number (take 100 (filter p (take 1000 es))) else
      (if c then last_number (take 1000 es) else None)) ≡ Some n →
      length (filter (under n) es) < length es
  by true c h = less n es (has_first n 1000 es (has_some p n (take 1000 es)
      (has_first n 100 (filter p (take 1000 es))
      (has_last n (take 100 (filter p (take 1000 es))) h))))
  by false true h = less n es (has_first n 1000 es (has_last n (take 1000 es) h))
  by false false h = absurd (none_some (sym h))

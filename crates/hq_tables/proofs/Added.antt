-- Ends added one after another, under numbers in a row: what stands then, and that each number is
-- free before its end is added.
use Rattle.std.proofs.Common.{◌≡◌, ℕ, suc, ◌-◌, ◌<◌, Bool, true, false, not, ◌&&◌, cond, List}
use Rattle.std.proofs.Common.{[], ◌∷◌, ◌++◌, length, Some, None, refl, sym, ap, ◌∙◌, arith}
use Rattle.std.specs.Prelude.{nat_le}
use Rattle.std.specs.Ordering.{eq_by_cmp}
use Rattle.std.specs.Cmp.Lexicographic.{nat_list_cmp_total}
use Rattle.std.specs.FinMap.{FinMap, get, insert, retain_keys, get-insert, get-retain_keys}
use Rattle.std.proofs.lemmas.Bool.Decides.{nat_tests}
use Rattle.std.proofs.lemmas.Map.Views.{tells_apart}
use Rattle.hq_owned.proofs.Parts.{tied_true}
use Rattle.hq_kept.specs.declared.outcome.Ended.{Ended}
use Rattle.hq_tables.specs.Tables.{Past, end_cmp, left_of, add_rows}
use Rattle.hq_tables.proofs.Orders.{end_total, end_exact}

abbrev pub Rows : Type 0
Rows = FinMap end_cmp Past

abbrev pub past : ℕ → Ended → Past
past at e = record { at = at; ended = e }

none_less : (n : ℕ) → n - 0 ≡ n
none_less n = omega arith

one_less : (n m : ℕ) → suc n - suc m ≡ n - m
one_less n m = omega arith

one_more : (es : List Ended) (e : Ended) → length (es ++ e ∷ []) ≡ suc (length es)
one_more [] e = refl
one_more (x ∷ es) e = ap suc (one_more es e)

-- one more is added behind the others
pub add_next : (c : List ℕ) (at n : ℕ) (es : List Ended) (e : Ended) (m : Rows) →
    add_rows c at (suc n) (es ++ e ∷ []) m ≡ insert (add_rows c at n es m) (c, suc n) (past at e)
add_next c at n [] e m = ap (λ k. insert m (c, k) (past at e)) (none_less (suc n))
add_next c at n (x ∷ es) e m =
    ap (λ k. add_rows c at (suc n) (es ++ e ∷ []) (insert m (c, k) (past at x)))
    (ap (λ k. suc n - k) (one_more es e) ∙ one_less n (length es))
    ∙ add_next c at n es e (insert m (c, n - length es) (past at x))

apart_numbers : (k n i : ℕ) → n < k → k ≡ n - i → ⊥
apart_numbers k n i h e = omega arith

-- a number above those that are added
pub add_below : (c : List ℕ) (at n : ℕ) (es : List Ended) (m : Rows) (k : ℕ) → n < k →
    get (add_rows c at n es m) (c, k) ≡ get m (c, k)
add_below c at n [] m k h = refl
add_below c at n (x ∷ es) m k h =
    add_below c at n es (insert m (c, n - length es) (past at x)) k h
    ∙ get-insert end_total m (c, n - length es) (past at x) (c, k)
    ∙ cases (eq_by_cmp end_cmp (c, k) (c, n - length es)) refl
  where
    cases : (b : Bool) → eq_by_cmp end_cmp (c, k) (c, n - length es) ≡ b →
        cond b (Some (past at x)) (get m (c, k)) ≡ get m (c, k)
    cases true e = absurd (apart_numbers k n (length es) h
        (ap (λ (q : List ℕ × ℕ). q.1) (tells_apart end_exact (c, k) (c, n - length es) e)))
    cases false e = refl

not_to : (k n : ℕ) → n < k → nat_le k n ≡ false
not_to k n h = grind (arith, nat_tests)

-- and one above those that stay
pub none_above : (c : List ℕ) (n : ℕ) (m : Rows) (k : ℕ) → n < k →
    get (retain_keys m (left_of c (λ x. nat_le x n))) (c, k) ≡ None
none_above c n m k h = get-retain_keys m (left_of c (λ x. nat_le x n)) (c, k)
    (λ x e. ap (left_of c (λ y. nat_le y n)) (sym (end_exact (c, k) x e)))
    ∙ ap (λ b. cond b (get m (c, k)) None)
    ((λ i. not (tied_true nat_list_cmp_total c i && not (not_to k n h i))))

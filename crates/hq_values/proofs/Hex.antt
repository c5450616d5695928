-- Lemmas on hexadecimal texts.
use Rattle.std.proofs.Common.{◌≡◌, ℕ, zero, suc, ◌+◌, ◌-◌, ◌*◌, ◌^◌, ◌/◌, ◌%◌, ◌<◌, ◌≤◌, List, []}
use Rattle.std.proofs.Common.{◌∷◌, ◌++◌, length, drop, set, Some, refl, sym, ap, ◌∙◌, arith}
use Rattle.std.proofs.Common.{append_assoc, length-append}
use Rattle.std.proofs.lemmas.List.{drop-set, drop_all}
use Rattle.std.proofs.Math.Nat.{pow-le-pow_right, pow-suc}
use Rattle.std.proofs.lemmas.Bool.Decides.{nat_tests}
use Rattle.std.proofs.Common.{add-one, lit<}
use Rattle.std.proofs.Common.{append-nil}
use Rattle.hq_values.specs.Serials.{hex_digit, hex_value, hex_text}

pub hex_text_push : (k n d : ℕ) → d < 16 → hex_text (suc k) (16 * n + d) ≡ hex_text k n
    ++ hex_digit d ∷ []
unfolding hex_text
hex_text_push k n d small =
    let high : (16 * n + d) / 16 ≡ n = omega arith in
    let low : (16 * n + d) % 16 ≡ d = omega arith in
    rw (high, low) refl

-- the last digit is written in front of those that are there
pub hex_step : (k rest : ℕ) (text : List ℕ) → k < length text → hex_text k (rest / 16)
    ++ drop k (set text k (hex_digit (rest % 16))) ≡ hex_text (suc k) rest ++ drop (k + 1) text
unfolding hex_text
hex_step k rest text below = rw (drop-set text k (hex_digit (rest % 16)) below, append_assoc) refl

pub length-hex_text : (k n : ℕ) → length (hex_text k n) ≡ k
unfolding hex_text
length-hex_text zero n = refl
length-hex_text (suc k) n = omega (
  arith,
  length-hex_text k (n / 16),
  length-append (hex_text k (n / 16)) (hex_digit (n % 16) ∷ []),
)

pub hex_value_digit : (d : ℕ) → d < 16 → hex_value (hex_digit d) ≡ Some d
hex_value_digit d small = grind (arith, nat_tests)

shorter : (k m : ℕ) → m < 16 ^ suc k → m / 16 < 16 ^ k
shorter k m p = omega arith

-- one more digit, of a number that is so far written in the first i places
pub hex_step_at : (i rest d : ℕ) (text : List ℕ) → i < 10 → length text ≡ 10 →
    d ≡ hex_digit (rest % 16) → hex_text (10 - (i + 1)) (rest / 16)
    ++ drop (10 - (i + 1)) (set text (9 - i) d) ≡ hex_text (10 - i) rest ++ drop (10 - i) text
hex_step_at i rest d text below long h =
    let e : 10 - (i + 1) ≡ 9 - i = omega arith in
    let f : 10 - i ≡ suc (9 - i) = omega arith in
    let g : drop (9 - i + 1) text ≡ drop (10 - i) text = ap (λ n. drop n text) (omega arith) in
    let k : hex_text (suc (9 - i)) rest ≡ hex_text (10 - i) rest =
    ap (λ n. hex_text n rest) (sym f) in
    ap (λ n. hex_text n (rest / 16) ++ drop n (set text (9 - i) d)) e
    ∙ ap (λ b. hex_text (9 - i) (rest / 16) ++ drop (9 - i) (set text (9 - i) b)) h
    ∙ hex_step (9 - i) rest text (omega arith) ∙ ap (λ t. hex_text (suc (9 - i)) rest ++ t) g
    ∙ ap (λ t. t ++ drop (10 - i) text) k

-- what a digit's value tells
pub digit_of_value : (b v : ℕ) → hex_value b ≡ Some v → (v < 16) × (hex_digit v ≡ b)
digit_of_value b v e = grind (arith, nat_tests)

-- a number below a power of 16 is below a larger one
pub below_power : (n i j : ℕ) → n < 16 ^ i → i ≤ j → n < 16 ^ j
below_power n i j p h = omega (arith, pow-le-pow_right {n = 16} (lit< tt) {i = i} {j = j} h)

pub below_power_more : (i n d : ℕ) → n < 16 ^ i → d < 16 → 16 * n + d < 16 ^ (i + 1)
below_power_more i n d p q =
    let next : 16 ^ (i + 1) ≡ 16 ^ i * 16 = ap (λ j. 16 ^ j) (add-one i) ∙ pow-suc 16 i in
    omega arith

-- no digits at first
pub hex_none : (n : ℕ) → hex_text 0 n ≡ []
unfolding hex_text
hex_none n = refl

pub hex_start : (n : ℕ) (text : List ℕ) → length text ≡ 10 → hex_text (10 - 0) n
    ++ drop (10 - 0) text ≡ hex_text 10 n
hex_start n text h = ap (λ t. hex_text 10 n ++ t) (drop_all 10 text (omega arith))
    ∙ append-nil (hex_text 10 n)

pub hex_end : (i rest : ℕ) (text want : List ℕ) → 10 ≤ i → hex_text (10 - i) rest
    ++ drop (10 - i) text ≡ want → text ≡ want
hex_end i rest text want past h =
    let none : 10 - i ≡ 0 = omega arith in
    sym (ap (λ n. hex_text n rest ++ drop n text) none ∙ ap (λ t. t ++ drop 0 text) (hex_none rest))
    ∙ h

-- The serial that a text is the queue ID of.
use Rattle.std.proofs.Common.{◌≡◌, ℕ, zero, suc, ◌+◌, ◌*◌, ◌^◌, ◌/◌, ◌%◌, ◌<◌, Bool, true, false}
use Rattle.std.proofs.Common.{cond, ◌&&◌, List, [], ◌∷◌, ◌++◌, length, Option, Some, None, get_or}
use Rattle.std.proofs.Common.{drop, refl, sym, ap, ◌∙◌, arith, eqb, append_assoc, append-nil}
use Rattle.std.specs.Prelude.{nat_lt, option_and_then}
use Rattle.std.proofs.lemmas.List.{at_drop_more}
use Rattle.std.proofs.lemmas.Bool.{lt-ltb, eq-eqb}
use Rattle.std.proofs.lemmas.Bool.Decides.{nat_tests}
use Rattle.hq_values.specs.Serials.{hex_digit, hex_value, hex_text, serial_text}
use Rattle.hq_values.proofs.Hex.{hex_text_push, length-hex_text, hex_value_digit, digit_of_value}
use Rattle.hq_values.proofs.Hex.{hex_none}
use Rattle.hq_values.specs.Serials.{hex_number, serial_from, serial_in}

none_some : {A : Type 0} (a : A) → ◌≡◌ {A = Option A} None (Some a) → ⊥
none_some a e = cc

same_some : {A : Type 0} (a b : A) → ◌≡◌ {A = Option A} (Some a) (Some b) → a ≡ b
same_some a b e = cc

-- ---- from a text to its serial

read_digits : (bytes : List ℕ) (k n m j : ℕ) → j ≡ k + length bytes → hex_number n bytes ≡ Some m →
    hex_text j m ≡ hex_text k n ++ bytes
read_digits [] k n m j long h =
    let same : n ≡ m = same_some n m h in
    let size : j ≡ k = omega arith in
    ap (λ i. hex_text i m) size ∙ ap (hex_text k) (sym same) ∙ sym (append-nil (hex_text k n))
read_digits (b ∷ bytes) k n m j long h =
    by (hex_value b) refl h (λ d g. read_digits bytes (suc k) (16 * n + d) m j (omega arith) g)
  where
    by : (o : Option ℕ) → hex_value b ≡ o →
        option_and_then (λ d. hex_number (16 * n + d) bytes) o ≡ Some m →
        ((d : ℕ) → hex_number (16 * n + d) bytes ≡ Some m →
        hex_text j m ≡ hex_text (suc k) (16 * n + d) ++ bytes) → hex_text j m ≡ hex_text k n ++ b
        ∷ bytes
    by None e g further = absurd (none_some m g)
    by (Some d) e g further =
        let digit = digit_of_value b d e in
        further d g ∙ ap (λ t. t ++ bytes) (hex_text_push k n d digit.0)
        ∙ ap (λ x. (hex_text k n ++ x ∷ []) ++ bytes) digit.1
        ∙ append_assoc (hex_text k n) (b ∷ []) bytes

-- what a number that passes the test is
from_is : (m n : ℕ) → serial_from m ≡ Some n → (m ≡ n) × (0 < n) × (n < 2 ^ 40)
from_is m n h = by (nat_lt 0 m && nat_lt m (2 ^ 40)) refl h where
  by : (b : Bool) → (nat_lt 0 m && nat_lt m (2 ^ 40)) ≡ b → cond b (Some m) None ≡ Some n → (m ≡ n)
      × (0 < n) × (n < 2 ^ 40)
  by true e g =
      let same : m ≡ n = same_some m n g in
      let bounds : (0 < m) × (m < 2 ^ 40) = (grind (arith, nat_tests), grind (arith, nat_tests)) in
      (same, omega (arith, bounds.0), omega (arith, bounds.1))
  by false e g = absurd (none_some n g)

pub text_of_read : (text : List ℕ) (n : ℕ) → serial_in text ≡ Some n → (serial_text n ≡ text)
    × (0 < n) × (n < 2 ^ 40)
unfolding serial_in
text_of_read text n h = by_length (eqb (length text) 10) refl h where
  by_number : length text ≡ 10 → (o : Option ℕ) → hex_number 0 text ≡ o →
      option_and_then serial_from o ≡ Some n → (serial_text n ≡ text) × (0 < n) × (n < 2 ^ 40)
  by_number long None e g = absurd (none_some n g)
  by_number long (Some m) e g =
      let is = from_is m n g in (
        ap (hex_text 10) (sym is.0) ∙ read_digits text 0 0 m 10 (omega arith) e
            ∙ ap (λ t. t ++ text) (hex_none 0),
        is.1,
        is.2,
      )

  by_length : (b : Bool) → eqb (length text) 10 ≡ b →
      cond b (option_and_then serial_from (hex_number 0 text)) None ≡ Some n →
      (serial_text n ≡ text) × (0 < n) × (n < 2 ^ 40)
  by_length true e g = let long : length text ≡ 10 = grind (arith, nat_tests) in
      by_number long (hex_number 0 text) refl g
  by_length false e g = absurd (none_some n g)

-- ---- from a serial to its text

number_of_text : (k m : ℕ) (rest : List ℕ) → m < 16 ^ k →
    hex_number 0 (hex_text k m ++ rest) ≡ hex_number m rest
unfolding hex_text
number_of_text zero m rest h = ap (λ n. hex_number n rest) (let none : 0 ≡ m = omega arith in none)
number_of_text (suc k) m rest h =
    let less : m / 16 < 16 ^ k = omega arith in
    let same : 16 * (m / 16) + m % 16 ≡ m = omega arith in
    ap (hex_number 0) (append_assoc (hex_text k (m / 16)) (hex_digit (m % 16) ∷ []) rest)
    ∙ number_of_text k (m / 16) (hex_digit (m % 16) ∷ rest) less
    ∙ ap (option_and_then (λ d. hex_number (16 * (m / 16) + d) rest))
    (hex_value_digit (m % 16) (omega arith))
    ∙ ap (λ n. hex_number n rest) same

in_range : (n : ℕ) → 0 < n → n < 2 ^ 40 → serial_from n ≡ Some n
in_range n p q = ap (λ b. cond (b && nat_lt n (2 ^ 40)) (Some n) None) (lt-ltb 0 n p)
    ∙ ap (λ b. cond b (Some n) None) (lt-ltb n (2 ^ 40) q)

pub read_of_text : (n : ℕ) → 0 < n → n < 2 ^ 40 → serial_in (serial_text n) ≡ Some n
unfolding serial_in
read_of_text n p q =
    ap (λ b. cond b (option_and_then serial_from (hex_number 0 (serial_text n))) None)
    (eq-eqb (length (serial_text n)) 10 (length-hex_text 10 n))
    ∙ ap (option_and_then serial_from) (ap (hex_number 0) (sym (append-nil (serial_text n)))
    ∙ number_of_text 10 n [] q)
    ∙ in_range n p q

-- ---- how the reader goes

-- one more digit is read
pub digit_read : (text : List ℕ) (i n b v : ℕ) → i < length text →
    hex_number 0 text ≡ hex_number n (drop i text) → b ≡ get_or text i 0 → hex_value b ≡ Some v →
    hex_number 0 text ≡ hex_number (16 * n + v) (drop (i + 1) text)
digit_read text i n b v below so_far at digit =
    so_far ∙ at_drop_more (hex_number n) text i 0 below
    ∙ ap (option_and_then (λ d. hex_number (16 * n + d) (drop (i + 1) text)))
    (ap hex_value (sym at) ∙ digit)

-- The values of a notice are printable ASCII: no line of it ends within one.
use Rattle.std.proofs.Common.{◌≡◌, ℕ, zero, suc, ◌+◌, ◌/◌, ◌%◌, ◌^◌, ◌<◌, ◌≤◌, Bool, true, false}
use Rattle.std.proofs.Common.{◌&&◌, List, [], ◌∷◌, ◌++◌, length, Option, Some, None, refl, sym, ap}
use Rattle.std.proofs.Common.{◌∙◌, arith}
use Rattle.std.specs.Prelude.{decimal, nat_lt, nat_le, ◌==◌, if◌then◌else◌}
use Rattle.std.specs.List.{list_all, slice_split, join_with_byte}
use Rattle.std.proofs.lemmas.Bool.Decides.{nat_tests}
use Rattle.std.proofs.lemmas.Fmt.{decimal_by_steps}
use Rattle.std.proofs.lemmas.List.Folds.{list_all-append}
use Rattle.std.proofs.lemmas.List.Splits.{join_with_byte-slice_split}
use Rattle.hq_values.specs.Serials.{hex_digit, hex_text, serial_text}
use Rattle.hq_values.specs.Addresses.{is_label_byte, is_local_byte, is_dot, is_domain_label}
use Rattle.hq_values.specs.Addresses.{is_domain, is_local, is_address, parts_of, last_at}
use Rattle.hq_values.specs.Addresses.{has_good_parts}
use Rattle.hq_values.specs.Words.{is_text_byte, is_text, is_host}
use Rattle.hq_kept.specs.Statuses.{is_digit, is_leading_digit, is_class, is_number, is_status}
use Rattle.hq_kept.specs.Statuses.{are_status_parts}

pub both : (a b : Bool) → (a && b) ≡ true → (a ≡ true) × (b ≡ true)
both true true h = (refl, refl)
both true false h = absurd (cc)
both false b h = absurd (cc)

-- all bytes are printable ASCII or spaces
abbrev pub is_printed : List ℕ → Bool
is_printed bytes = list_all is_text_byte bytes

pub printed-append : (xs ys : List ℕ) → is_printed xs ≡ true → is_printed ys ≡ true →
    is_printed (xs ++ ys) ≡ true
printed-append xs ys x y = list_all-append is_text_byte xs ys ∙ ap (λ b. b && is_printed ys) x ∙ y

weaker : (p : ℕ → Bool) → ((b : ℕ) → p b ≡ true → is_text_byte b ≡ true) → (xs : List ℕ) →
    list_all p xs ≡ true → is_printed xs ≡ true
weaker p implies [] h = refl
weaker p implies (b ∷ xs) h =
    let parts = both (p b) (list_all p xs) h in
    ap (λ first. first && is_printed xs) (implies b parts.0) ∙ weaker p implies xs parts.1

-- ---- bytes

label_byte : (b : ℕ) → is_label_byte b ≡ true → is_text_byte b ≡ true
label_byte b h = grind (arith, nat_tests)

local_byte : (b : ℕ) → is_local_byte b ≡ true → is_text_byte b ≡ true
local_byte b h = grind (arith, nat_tests)

digit_byte : (b : ℕ) → is_digit b ≡ true → is_text_byte b ≡ true
digit_byte b h = grind (arith, nat_tests)

leading_byte : (b : ℕ) → is_leading_digit b ≡ true → is_text_byte b ≡ true
leading_byte b h = grind (arith, nat_tests)

-- ---- parts joined

parts_printed : (p : List ℕ → Bool) → ((part : List ℕ) → p part ≡ true → is_printed part ≡ true) →
    (parts : List (List ℕ)) → list_all p parts ≡ true → is_printed (join_with_byte 46 parts) ≡ true
parts_printed p printed [] h = refl
parts_printed p printed (part ∷ []) h = printed part (both (p part) true h).0
parts_printed p printed (part ∷ next ∷ rest) h =
    let parts = both (p part) (list_all p (next ∷ rest)) h in
    printed-append part (46 ∷ join_with_byte 46 (next ∷ rest)) (printed part parts.0)
    (parts_printed p printed (next ∷ rest) parts.1)

label_printed : (label : List ℕ) → is_domain_label label ≡ true → is_printed label ≡ true
label_printed label h = weaker is_label_byte label_byte label
    (both (nat_lt 0 (length label)) (list_all is_label_byte label) h).1

pub domain_printed : (bytes : List ℕ) → is_domain bytes ≡ true → is_printed bytes ≡ true
domain_printed bytes h =
    ap is_printed (sym (join_with_byte-slice_split 46 bytes))
    ∙ parts_printed is_domain_label label_printed (slice_split is_dot bytes) h

pub host_printed : (bytes : List ℕ) → is_host bytes ≡ true → is_printed bytes ≡ true
host_printed bytes h = domain_printed bytes (both (nat_le (length bytes) 254) (is_domain bytes) h).1

pub text_printed : (bytes : List ℕ) → is_text bytes ≡ true → is_printed bytes ≡ true
text_printed bytes h = (both (nat_le (length bytes) 1000) (is_printed bytes) h).1

-- ---- addresses

some_same : (a b : List ℕ × List ℕ) → ◌≡◌ {A = Option (List ℕ × List ℕ)} (Some a) (Some b) → a ≡ b
some_same a b e = cc

-- the parts at the last @, with it, are the whole
joined : (bytes : List ℕ) (parts : List ℕ × List ℕ) → parts_of bytes ≡ Some parts → bytes ≡ parts.0
    ++ 64 ∷ parts.1
joined [] parts h = absurd (cc)
joined (b ∷ bytes) parts h = by (parts_of bytes) refl h (λ inner e. joined bytes inner e) where
  first : (at : Bool) → (b == 64) ≡ at → (if at then Some ([], bytes) else None) ≡ Some parts → b
      ∷ bytes ≡ parts.0 ++ 64 ∷ parts.1
  first true e g = let is : b ≡ 64 = grind (arith, nat_tests) in let same =
      some_same ([], bytes) parts g in ap (λ x. x ∷ bytes) is
      ∙ ap (λ (p : List ℕ × List ℕ). p.0 ++ 64 ∷ p.1) same
  first false e g = absurd (cc)

  by : (inner : Option (List ℕ × List ℕ)) → parts_of bytes ≡ inner →
      last_at b inner bytes ≡ Some parts
      → ((ps : List ℕ × List ℕ) → parts_of bytes ≡ Some ps → bytes ≡ ps.0 ++ 64 ∷ ps.1) → b
      ∷ bytes ≡ parts.0 ++ 64 ∷ parts.1
  by None e g rest_is = first (b == 64) refl g
  by (Some inner) e g rest_is = ap (λ rest. b ∷ rest) (rest_is inner e)
      ∙ ap (λ (p : List ℕ × List ℕ). p.0 ++ 64 ∷ p.1) (some_same (b ∷ inner.0, inner.1) parts g)

pub address_printed : (bytes : List ℕ) → is_address bytes ≡ true → is_printed bytes ≡ true
address_printed bytes h = by (parts_of bytes) refl
    (both (nat_le (length bytes) 254) (has_good_parts (parts_of bytes)) h).1 where
      by : (parts : Option (List ℕ × List ℕ)) → parts_of bytes ≡ parts →
          has_good_parts parts ≡ true →
          is_printed bytes ≡ true
      by None e g = absurd (cc)
      by (Some parts) e g =
          let good = both (is_local parts.0) (is_domain parts.1) g in
          let local = weaker is_local_byte local_byte parts.0
          (both (nat_lt 0 (length parts.0)) (list_all is_local_byte parts.0) good.0).1 in
          ap is_printed (joined bytes parts e)
          ∙ printed-append parts.0 (64 ∷ parts.1) local (domain_printed parts.1 good.1)

-- ---- status codes

pub one_printed : (b : ℕ) → is_text_byte b ≡ true → is_printed (b ∷ []) ≡ true
one_printed b h = ap (λ first. first && true) h

then_printed : (b : ℕ) (bytes : List ℕ) → is_text_byte b ≡ true → is_printed bytes ≡ true →
    is_printed (b ∷ bytes) ≡ true
then_printed b bytes h rest = ap (λ first. first && is_printed bytes) h ∙ rest

class_printed : (class : List ℕ) → is_class class ≡ true → is_printed class ≡ true
class_printed [] h = absurd (cc)
class_printed (a ∷ []) h = one_printed a (digit_byte a h)
class_printed (a ∷ b ∷ more) h = absurd (cc)

number_printed : (number : List ℕ) → is_number number ≡ true → is_printed number ≡ true
number_printed [] h = absurd (cc)
number_printed (a ∷ []) h = one_printed a (digit_byte a h)
number_printed (a ∷ b ∷ []) h =
    let two = both (is_leading_digit a) (is_digit b) h in
    then_printed a (b ∷ []) (leading_byte a two.0) (one_printed b (digit_byte b two.1))
number_printed (a ∷ b ∷ c ∷ []) h =
    let last = both (is_leading_digit a && is_digit b) (is_digit c) h in
    let two = both (is_leading_digit a) (is_digit b) last.0 in
    then_printed a (b ∷ c ∷ []) (leading_byte a two.0)
    (then_printed b (c ∷ []) (digit_byte b two.1) (one_printed c (digit_byte c last.1)))
number_printed (a ∷ b ∷ c ∷ d ∷ more) h = absurd (cc)

three_printed : (parts : List (List ℕ)) → are_status_parts parts ≡ true →
    is_printed (join_with_byte 46 parts) ≡ true
three_printed [] h = refl
three_printed (class ∷ []) h = absurd (cc)
three_printed (class ∷ subject ∷ []) h = absurd (cc)
three_printed (class ∷ subject ∷ detail ∷ []) h =
    let last = both (is_class class && is_number subject) (is_number detail) h in
    let two = both (is_class class) (is_number subject) last.0 in
    printed-append class (46 ∷ (subject ++ 46 ∷ detail)) (class_printed class two.0)
    (printed-append subject (46 ∷ detail) (number_printed subject two.1)
    (number_printed detail last.1))
three_printed (class ∷ subject ∷ detail ∷ next ∷ more) h = absurd (cc)

pub status_printed : (bytes : List ℕ) → is_status bytes ≡ true → is_printed bytes ≡ true
status_printed bytes h = ap is_printed (sym (join_with_byte-slice_split 46 bytes))
    ∙ three_printed (slice_split is_dot bytes) h

-- ---- numbers

pub decimal_printed : (n : ℕ) → n < 2 ^ 64 → is_printed (decimal n) ≡ true
decimal_printed n h = decimal_by_steps (λ m ds. is_printed ds ≡ true) one more n h where
  one : (m : ℕ) → m < 10 → is_printed ((48 + m) ∷ []) ≡ true
  one m small = let byte : is_text_byte (48 + m) ≡ true = grind (arith, nat_tests) in
      one_printed (48 + m) byte

  more : (m : ℕ) (ds : List ℕ) → 10 ≤ m → is_printed ds ≡ true →
      is_printed (ds ++ ((48 + m % 10) ∷ [])) ≡ true
  more m ds large front =
      let small : m % 10 < 10 = omega arith in
      printed-append ds ((48 + m % 10) ∷ []) front (one (m % 10) small)

hex_printed : (places n : ℕ) → is_printed (hex_text places n) ≡ true
unfolding hex_text
hex_printed zero n = refl
hex_printed (suc places) n =
    let small : n % 16 < 16 = omega arith in
    let byte : is_text_byte (hex_digit (n % 16)) ≡ true = grind (arith, nat_tests) in
    printed-append (hex_text places (n / 16)) (hex_digit (n % 16) ∷ [])
    (hex_printed places (n / 16)) (one_printed (hex_digit (n % 16)) byte)

pub serial_printed : (n : ℕ) → is_printed (serial_text n) ≡ true
serial_printed n = hex_printed 10 n

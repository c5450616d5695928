-- Whatever a value is, its text stands on one line: in strings an LF is escaped, and nothing else
-- writes one.
use Rattle.std.proofs.Common.{◌≡◌, ◌≤◌, ◌+◌, ◌/◌, ◌%◌, ℕ, zero, suc, ℤ, pos, negsuc, Bool, true}
use Rattle.std.proofs.Common.{false, cond, List, [], ◌∷◌, ◌++◌, drop, refl, ◌∙◌, arith}
use Rattle.std.specs.Prelude.{◌==◌, ◌||◌, ◌&&◌, nat_le, nat_lt, flat_map, length, codes}
use Rattle.std.specs.Char.{digit_char}
use Rattle.std.specs.Cmp.Derive.{both_true}
use Rattle.std.specs.Fmt.{decimal, digits, digits_onto, digit_glyph}
use Rattle.std.specs.List.{list_all}
use Rattle.std.proofs.lemmas.Bool.Decides.{nat_tests}
use Rattle.std.proofs.lemmas.Bool.{and_parts}
use Rattle.std.proofs.lemmas.List.Folds.{list_all-append}
use Rattle.json.specs.Print.{escape_byte, escape_letter, quoted}
use Rattle.serde_json.specs.Data.{Num, unsigned, negative, float, Data, null, boolean, number}
use Rattle.serde_json.specs.Data.{string, array, object, Items, no_items, item, Members, no_members}
use Rattle.serde_json.specs.Data.{member}
use Rattle.serde_json.specs.Written.{compact_text, items_text, members_text, number_text, comma_if}
use Rattle.hq_values.specs.Words.{is_name, is_name_byte}
use Rattle.hq_rules.specs.declared.answer.Answer.{Answer}
use Rattle.hq_json.specs.OneLine.{is_in_line, is_one_line}
use Rattle.hq_json.specs.Parts.{for_customer}
use Rattle.hq_json.specs.Replies.{answer_data, answer_text}

-- as a record of a fact of a text
abbrev One : List ℕ → Type 0
One text = is_one_line text ≡ true

pub both_one_line : (xs ys : List ℕ) → is_one_line xs ≡ true → is_one_line ys ≡ true →
    is_one_line (xs ++ ys) ≡ true
both_one_line xs ys p q = list_all-append is_in_line xs ys ∙ both_true p q

-- ---- bytes

pub above : (n : ℕ) → 11 ≤ n → is_in_line n ≡ true
above n h = grind (arith, nat_tests)

at_least : (n : ℕ) → nat_lt n 32 ≡ false → is_in_line n ≡ true
at_least n h = grind (arith, nat_tests)

quote_or_slash : (n : ℕ) → ((n == 34) || (n == 92)) ≡ true → is_in_line n ≡ true
quote_or_slash n h = grind (arith, nat_tests)

either_in_line : (b : Bool) (x y : ℕ) → is_in_line x ≡ true → is_in_line y ≡ true →
    is_in_line (cond b x y) ≡ true
either_in_line true x y p q = p
either_in_line false x y p q = q

either_one : (b : Bool) (xs ys : List ℕ) → One xs → One ys → One (cond b xs ys)
either_one true xs ys p q = p
either_one false xs ys p q = q

-- ---- strings

letter_in_line : (x : ℕ) → is_in_line (escape_letter x) ≡ true
letter_in_line x = cases ((x == 34) || (x == 92)) refl where
  cases : (b : Bool) → ((x == 34) || (x == 92)) ≡ b →
      is_in_line (cond b x (cond (x == 8) 98 (cond (x == 12) 102
      (cond (x == 10) 110 (cond (x == 13) 114 (cond (x == 9) 116 0)))))) ≡ true
  cases true e = quote_or_slash x e
  cases false e = either_in_line (x == 8) 98 _ refl
      (either_in_line (x == 12) 102 _ refl (either_in_line (x == 10) 110 _ refl
      (either_in_line (x == 13) 114 _ refl (either_in_line (x == 9) 116 0 refl refl))))

digit_in_line : (d : ℕ) → is_in_line (digit_char d) ≡ true
digit_in_line d = either_in_line (nat_lt d 10) (48 + d) (87 + d) (above (48 + d) (omega arith))
    (above (87 + d) (omega arith))

alone : (x : ℕ) → is_in_line x ≡ true → One (x ∷ [])
alone x h = both_true h refl

byte_one : (x : ℕ) → One (escape_byte x)
unfolding escape_byte
byte_one x =
    either_one (nat_lt 0 (escape_letter x)) (92 ∷ escape_letter x ∷ []) _
    (alone (escape_letter x) (letter_in_line x))
    (plain (nat_lt x 32) refl) where
      plain : (b : Bool) → nat_lt x 32 ≡ b → One (cond b (92 ∷ 117 ∷ 48 ∷ 48 ∷ digit_char (x / 16)
          ∷ digit_char (x % 16) ∷ []) (x ∷ []))
      plain true e = both_true (digit_in_line (x / 16))
          (alone (digit_char (x % 16)) (digit_in_line (x % 16)))
      plain false e = alone x (at_least x e)

escape_one : (s : List ℕ) → One (flat_map escape_byte s)
escape_one [] = refl
escape_one (x ∷ s) = both_one_line (escape_byte x) (flat_map escape_byte s) (byte_one x)
    (escape_one s)

quoted_one : (s : List ℕ) → One (quoted s)
quoted_one s = both_one_line (flat_map escape_byte s) (34 ∷ []) (escape_one s) refl

-- ---- numbers

glyph_in_line : (d : ℕ) → is_in_line (digit_glyph false d) ≡ true
glyph_in_line d = either_in_line (nat_lt d 10) (48 + d) (87 + d) (above (48 + d) (omega arith))
    (above (87 + d) (omega arith))

digits_one : (k n : ℕ) (acc : List ℕ) → One acc → One (digits_onto k 10 false n acc)
digits_one zero n acc h = h
digits_one (suc k) n acc h =
    let more : One (digit_glyph false (n % 10) ∷ acc) = both_true (glyph_in_line (n % 10)) h in
    either_one (n / 10 == 0) (digit_glyph false (n % 10) ∷ acc)
    (digits_onto k 10 false (n / 10) (digit_glyph false (n % 10) ∷ acc)) more
    (digits_one k (n / 10) (digit_glyph false (n % 10) ∷ acc) more)

decimal_one : (n : ℕ) → One (decimal n)
unfolding digits
decimal_one n = digits_one 64 n [] refl

signed_one : (z : ℤ) → One (number_text (negative z))
signed_one (pos n) = decimal_one n
signed_one (negsuc n) = decimal_one (suc n)

number_one : (n : Num) → One (number_text n)
number_one (unsigned n) = decimal_one n
number_one (negative z) = signed_one z
number_one (float x) = refl

-- ---- values

comma_one : (later : Bool) → One (comma_if later)
comma_one true = refl
comma_one false = refl

mutual
  data_one : (d : Data) → One (compact_text d)
  data_one null = refl
  data_one (boolean true) = refl
  data_one (boolean false) = refl
  data_one (number n) = number_one n
  data_one (string s) = quoted_one s
  data_one (array ds) = items_one false ds
  data_one (object ms) = members_one false ms

  items_one : (later : Bool) (ds : Items) → One (items_text later ds)
  items_one later no_items = refl
  items_one later (item d ds) =
      both_one_line (comma_if later) _ (comma_one later)
      (both_one_line (compact_text d) (items_text true ds) (data_one d) (items_one true ds))

  members_one : (later : Bool) (ms : Members) → One (members_text later ms)
  members_one later no_members = refl
  members_one later (member k d ms) =
      both_one_line (comma_if later) _ (comma_one later)
      (both_one_line (quoted k) _ (quoted_one k)
      (both_one_line (compact_text d) (members_text true ms) (data_one d) (members_one true ms)))

pub answer_one_line : (answer : Answer) → is_one_line (answer_text answer) ≡ true
unfolding answer_text
answer_one_line answer = data_one (answer_data answer)

-- ---- names

name_byte : (b : ℕ) → is_name_byte b ≡ true → is_in_line b ≡ true
name_byte b h = grind (arith, nat_tests)

name_bytes : (bytes : List ℕ) → list_all is_name_byte bytes ≡ true → is_one_line bytes ≡ true
name_bytes [] h = refl
name_bytes (b ∷ bs) h =
    let parts = and_parts (is_name_byte b) (list_all is_name_byte bs) h in
    both_true (name_byte b parts.0) (name_bytes bs parts.1)

pub name_one : (name : List ℕ) → is_name name ≡ true → is_one_line name ≡ true
name_one name h = name_bytes name (and_parts (nat_lt 0 (length name) && nat_le (length name) 32)
    (list_all is_name_byte name) h).1

-- ---- what a customer is told

behind_first : (xs : List ℕ) → is_one_line xs ≡ true → is_one_line (drop 1 xs) ≡ true
behind_first [] h = refl
behind_first (x ∷ xs) h = (and_parts (is_in_line x) (is_one_line xs) h).1

pub customer_one : (name text : List ℕ) → is_name name ≡ true → is_one_line text ≡ true →
    is_one_line (for_customer name text) ≡ true
customer_one name text known h =
    let opened : is_one_line (codes "{\"customer\":\"" ++ name) ≡ true =
    both_one_line (codes "{\"customer\":\"") name refl (name_one name known) in
    both_one_line (codes "{\"customer\":\"" ++ name ++ codes "\",") (drop 1 text)
    (both_one_line (codes "{\"customer\":\"" ++ name) (codes "\",") opened refl)
    (behind_first text h)

-- Where the parts of a call of all end: whatever a value is, its text closes each brace that it
-- opens.
use Rattle.std.proofs.Common.{◌≡◌, ◌≤◌, ◌<◌, ◌+◌, ◌/◌, ◌%◌, ℕ, zero, suc, ℤ, pos, negsuc, Bool}
use Rattle.std.proofs.Common.{true, false, cond, List, [], ◌∷◌, ◌++◌, refl, ap, ◌∙◌, arith}
use Rattle.std.proofs.Common.{append_assoc, codes}
use Rattle.std.specs.Prelude.{◌==◌, ◌&&◌, nat_le, nat_lt, flat_map, length}
use Rattle.std.specs.Char.{digit_char}
use Rattle.std.specs.Fmt.{decimal, digits, digits_onto, digit_glyph}
use Rattle.std.specs.List.{list_all}
use Rattle.std.proofs.lemmas.Bool.Decides.{nat_tests}
use Rattle.std.proofs.lemmas.Bool.{and_parts}
use Rattle.json.specs.Print.{escape_byte, escape_letter, quoted}
use Rattle.serde_json.specs.Data.{Num, unsigned, negative, float, Data, null, boolean, number}
use Rattle.serde_json.specs.Data.{string, array, object, Items, no_items, item, Members, no_members}
use Rattle.serde_json.specs.Data.{member}
use Rattle.serde_json.specs.Written.{compact_text, items_text, members_text, number_text, comma_if}
use Rattle.hq_values.specs.Words.{is_name, is_name_byte}
use Rattle.hq_json.specs.Parts.{Outside, InString, closes, for_customer, IsObject}

-- ---- in a string

-- leaves a reader in the string that it is in
abbrev Stays : List ℕ → Type 0
Stays text = (n : ℕ) (rest : List ℕ) → closes InString (suc n) (text ++ rest)
    ≡ closes InString (suc n) rest

both_stay : (xs ys : List ℕ) → Stays xs → Stays ys → Stays (xs ++ ys)
both_stay xs ys p q n rest = ap (closes InString (suc n)) (append_assoc xs ys rest)
    ∙ p n (ys ++ rest) ∙ q n rest

byte_stays : (b : ℕ) → (b == 34) ≡ false → (b == 92) ≡ false → Stays (b ∷ [])
byte_stays b h k n rest = simp (h, k) refl

escaped_stays : (b : ℕ) → Stays (92 ∷ b ∷ [])
escaped_stays b n rest = refl

digit_stays : (d : ℕ) → Stays (digit_char d ∷ [])
digit_stays d = by (nat_lt d 10) refl where
  by : (b : Bool) → nat_lt d 10 ≡ b → Stays (cond b (48 + d) (87 + d) ∷ [])
  by true e = byte_stays (48 + d) (grind (arith, nat_tests, e)) (grind (arith, nat_tests, e))
  by false e = byte_stays (87 + d) (grind (arith, nat_tests, e)) (grind (arith, nat_tests, e))

either_stays : (b : Bool) (xs ys : List ℕ) → Stays xs → Stays ys → Stays (cond b xs ys)
either_stays true xs ys p q = p
either_stays false xs ys p q = q

not_quote : (x : ℕ) → nat_lt 0 (escape_letter x) ≡ false → (x == 34) ≡ false
not_quote x h = grind (arith, nat_tests)

not_slash : (x : ℕ) → nat_lt 0 (escape_letter x) ≡ false → (x == 92) ≡ false
not_slash x h = grind (arith, nat_tests)

hex_stays : (x : ℕ) → Stays (92 ∷ 117 ∷ 48 ∷ 48 ∷ digit_char (x / 16) ∷ digit_char (x % 16) ∷ [])
hex_stays x =
    let last = digit_char (x % 16) ∷ [] in
    both_stay (92 ∷ 117 ∷ 48 ∷ 48 ∷ []) (digit_char (x / 16) ∷ last) (λ n rest. refl)
    (both_stay (digit_char (x / 16) ∷ []) last (digit_stays (x / 16)) (digit_stays (x % 16)))

escape_stays : (x : ℕ) → Stays (escape_byte x)
unfolding escape_byte
escape_stays x = by (nat_lt 0 (escape_letter x)) refl where
  by : (b : Bool) → nat_lt 0 (escape_letter x) ≡ b → Stays (cond b (92 ∷ escape_letter x ∷ [])
      (cond (nat_lt x 32) (92 ∷ 117 ∷ 48 ∷ 48 ∷ digit_char (x / 16) ∷ digit_char (x % 16) ∷ [])
      (x ∷ [])))
  by true e = escaped_stays (escape_letter x)
  by false e = either_stays (nat_lt x 32) _ (x ∷ []) (hex_stays x)
      (byte_stays x (not_quote x e) (not_slash x e))

all_stay : (s : List ℕ) → Stays (flat_map escape_byte s)
all_stay [] = λ n rest. refl
all_stay (x ∷ s) = both_stay (escape_byte x) (flat_map escape_byte s) (escape_stays x) (all_stay s)

-- ---- outside of strings

-- leaves as many braces open as there were
abbrev Passes : List ℕ → Type 0
Passes text = (n : ℕ) (rest : List ℕ) → closes Outside (suc n) (text ++ rest)
    ≡ closes Outside (suc n) rest

both_pass : (xs ys : List ℕ) → Passes xs → Passes ys → Passes (xs ++ ys)
both_pass xs ys p q n rest = ap (closes Outside (suc n)) (append_assoc xs ys rest)
    ∙ p n (ys ++ rest) ∙ q n rest

byte_passes : (b : ℕ) → (b == 34) ≡ false → (b == 123) ≡ false → (b == 125) ≡ false →
    Passes (b ∷ [])
byte_passes b h k l n rest = simp (h, k, l) refl

quoted_passes : (s : List ℕ) → Passes (quoted s)
quoted_passes s n rest =
    ap (closes InString (suc n)) (append_assoc (flat_map escape_byte s) (34 ∷ []) rest)
    ∙ all_stay s n (34 ∷ rest)

digit_passes : (d : ℕ) → d < 10 → Passes (digit_glyph false d ∷ [])
digit_passes d small = by (nat_lt d 10) refl where
  by : (b : Bool) → nat_lt d 10 ≡ b → Passes (cond b (48 + d) (87 + d) ∷ [])
  by true e = byte_passes (48 + d) (grind (arith, nat_tests, e)) (grind (arith, nat_tests, e))
      (grind (arith, nat_tests, e))
  by false e = absurd (let no : 10 ≤ d = grind (arith, nat_tests, e) in omega (arith, no, small))

either_passes : (b : Bool) (xs ys : List ℕ) → Passes xs → Passes ys → Passes (cond b xs ys)
either_passes true xs ys p q = p
either_passes false xs ys p q = q

digits_pass : (k n : ℕ) (acc : List ℕ) → Passes acc → Passes (digits_onto k 10 false n acc)
digits_pass zero n acc h = h
digits_pass (suc k) n acc h =
    let more : Passes (digit_glyph false (n % 10) ∷ acc) =
    both_pass (digit_glyph false (n % 10) ∷ []) acc (digit_passes (n % 10) (omega arith)) h in
    either_passes (n / 10 == 0) (digit_glyph false (n % 10) ∷ acc)
    (digits_onto k 10 false (n / 10) (digit_glyph false (n % 10) ∷ acc)) more
    (digits_pass k (n / 10) (digit_glyph false (n % 10) ∷ acc) more)

nothing_passes : Passes []
nothing_passes n rest = refl

decimal_passes : (n : ℕ) → Passes (decimal n)
unfolding digits
decimal_passes n = digits_pass 64 n [] nothing_passes

signed_passes : (z : ℤ) → Passes (number_text (negative z))
signed_passes (pos n) = decimal_passes n
signed_passes (negsuc n) = both_pass (45 ∷ []) (decimal (suc n)) (λ m rest. refl)
    (decimal_passes (suc n))

number_passes : (n : Num) → Passes (number_text n)
number_passes (unsigned n) = decimal_passes n
number_passes (negative z) = signed_passes z
number_passes (float x) = nothing_passes

comma_passes : (later : Bool) → Passes (comma_if later)
comma_passes true n rest = refl
comma_passes false n rest = refl

-- ---- values

-- closes the brace before it
abbrev Ends : List ℕ → Type 0
Ends text = (n : ℕ) (rest : List ℕ) → closes Outside (suc (suc n)) (text ++ rest)
    ≡ closes Outside (suc n) rest

then_ends : (xs ys : List ℕ) → Passes xs → Ends ys → Ends (xs ++ ys)
then_ends xs ys p q n rest = ap (closes Outside (suc (suc n))) (append_assoc xs ys rest)
    ∙ p (suc n) (ys ++ rest) ∙ q n rest

mutual
  data_passes : (d : Data) → Passes (compact_text d)
  data_passes null = λ n rest. refl
  data_passes (boolean true) = λ n rest. refl
  data_passes (boolean false) = λ n rest. refl
  data_passes (number k) = number_passes k
  data_passes (string s) = quoted_passes s
  data_passes (array ds) = both_pass (91 ∷ []) (items_text false ds) (λ n rest. refl)
      (items_pass false ds)
  data_passes (object ms) = λ n rest. members_end false ms n rest

  items_pass : (later : Bool) (ds : Items) → Passes (items_text later ds)
  items_pass later no_items = λ n rest. refl
  items_pass later (item d ds) =
      both_pass (comma_if later) _ (comma_passes later)
      (both_pass (compact_text d) (items_text true ds) (data_passes d) (items_pass true ds))

  members_end : (later : Bool) (ms : Members) → Ends (members_text later ms)
  members_end later no_members = λ n rest. refl
  members_end later (member k d ms) =
      then_ends (comma_if later) _ (comma_passes later)
      (then_ends (quoted k) _ (quoted_passes k)
      (then_ends (58 ∷ []) (compact_text d ++ members_text true ms) (λ n rest. refl)
      (then_ends (compact_text d) (members_text true ms) (data_passes d) (members_end true ms))))

-- at the end of a text
then_closes : (xs ys : List ℕ) → Passes xs → closes Outside 1 ys ≡ true →
    closes Outside 1 (xs ++ ys) ≡ true
then_closes xs ys p h = p 0 ys ∙ h

members_close : (later : Bool) (ms : Members) → closes Outside 1 (members_text later ms) ≡ true
members_close later no_members = refl
members_close later (member k d ms) =
    then_closes (comma_if later) _ (comma_passes later)
    (then_closes (quoted k) _ (quoted_passes k)
    (then_closes (58 ∷ []) (compact_text d ++ members_text true ms) (λ n rest. refl)
    (then_closes (compact_text d) (members_text true ms) (data_passes d) (members_close true ms))))

-- ---- names

name_byte : (b : ℕ) → is_name_byte b ≡ true → Stays (b ∷ [])
name_byte b h = byte_stays b (grind (arith, nat_tests)) (grind (arith, nat_tests))

name_bytes : (bytes : List ℕ) → list_all is_name_byte bytes ≡ true → Stays bytes
name_bytes [] h = λ n rest. refl
name_bytes (b ∷ bs) h =
    let parts = and_parts (is_name_byte b) (list_all is_name_byte bs) h in
    both_stay (b ∷ []) bs (name_byte b parts.0) (name_bytes bs parts.1)

name_stays : (name : List ℕ) → is_name name ≡ true → Stays name
name_stays name h = name_bytes name
    (and_parts (nat_lt 0 (length name) && nat_le (length name) 32) (list_all is_name_byte name) h).1

-- ---- the part

-- an object with the customer before its members is one object
pub is_object : (name : List ℕ) (ms : Members) → is_name name ≡ true →
    IsObject (for_customer name (compact_text (object ms)))
is_object name ms known = (
  refl,
  ap (closes InString 1) (append_assoc name (codes "\",") (members_text false ms))
      ∙ name_stays name known 0 (codes "\"," ++ members_text false ms)
      ∙ members_close_behind,
) where
  members_close_behind : closes InString 1 (codes "\"," ++ members_text false ms) ≡ true
  members_close_behind = members_close false ms

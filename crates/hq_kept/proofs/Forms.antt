-- Status codes: their parts, and that they are short and ASCII.
use Rattle.std.proofs.Common.{◌≡◌, ℕ, ◌<◌, ◌≤◌, Bool, true, false, ◌&&◌, List, [], ◌∷◌, ◌++◌}
use Rattle.std.proofs.Common.{length, take, refl, sym, ap, ◌∙◌, subst, arith, lit<, length-append}
use Rattle.std.proofs.Common.{Option, Some, None, MatchOption, Bor}
use Rattle.std.specs.List.{AllPass, slice_split, before_first, after_first, position_or_len}
use Rattle.std.specs.List.{join_with_byte}
use Rattle.std.specs.Str.{IsAscii, IsUtf8}
use Rattle.std.proofs.lemmas.Bool.Decides.{nat_tests}
use Rattle.std.proofs.lemmas.List.{length-take-le}
use Rattle.std.proofs.lemmas.List.Elements.{All-nil, All-cons, All-get_or, All-from_get_or}
use Rattle.std.proofs.lemmas.List.Splits.{slice_split_none, slice_split_first}
use Rattle.std.proofs.lemmas.List.Splits.{join_with_byte-slice_split}
use Rattle.std.proofs.lemmas.List.Sums.{fails_before_first}
use Rattle.std.proofs.lemmas.Str.{IsAscii-append, IsUtf8-from_ascii}
use Rattle.std.proofs.lemmas.Str.Pattern.{IsSplitOnceResult, split_once_first}
use Rattle.std.proofs.lemmas.Str.Ascii.{IsAscii-cons, IsAscii-from_all}
use Rattle.hq_values.specs.Addresses.{is_dot}
use Rattle.hq_kept.specs.Statuses.{is_digit, is_leading_digit, is_class, is_number}
use Rattle.hq_kept.specs.Statuses.{are_status_parts, is_status}

both : (x y : Bool) → (x && y) ≡ true → (x ≡ true) × (y ≡ true)
both true y h = (refl, h)
both false y h = absurd (cc)

and_false : (x : Bool) → (x && false) ≡ false
and_false true = refl
and_false false = refl

leading_digit : (b : ℕ) → is_leading_digit b ≡ true → is_digit b ≡ true
leading_digit b h = grind (arith, nat_tests)

digit_no_dot : (b : ℕ) → is_digit b ≡ true → is_dot b ≡ false
digit_no_dot b h = grind (arith, nat_tests)

digit_ascii : (b : ℕ) → is_digit b ≡ true → b < 128
digit_ascii b h = grind (arith, nat_tests)

digits_more : (b : ℕ) (bytes : List ℕ) → is_digit b ≡ true → AllPass is_digit bytes →
    AllPass is_digit (b ∷ bytes)
digits_more b bytes h rest = All-cons (λ x. is_digit x ≡ true) b bytes h rest

digits_one : (b : ℕ) → is_digit b ≡ true → AllPass is_digit (b ∷ [])
digits_one b h = digits_more b [] h (All-nil (λ x. is_digit x ≡ true))

class_digit : (bytes : List ℕ) → is_class bytes ≡ true → (length bytes ≤ 1) × AllPass is_digit bytes
class_digit [] h = absurd (cc)
class_digit (a ∷ []) h = (omega arith, digits_one a h)
class_digit (a ∷ b ∷ more) h = absurd (cc)

number_digits : (bytes : List ℕ) → is_number bytes ≡ true → (length bytes ≤ 3)
    × AllPass is_digit bytes
number_digits [] h = absurd (cc)
number_digits (a ∷ []) h = (omega arith, digits_one a h)
number_digits (a ∷ b ∷ []) h = let two = both _ _ h in
    (omega arith, digits_more a (b ∷ []) (leading_digit a two.0) (digits_one b two.1))
number_digits (a ∷ b ∷ c ∷ []) h =
    let last = both _ _ h in
    let two = both _ _ last.0 in (
      omega arith,
      digits_more a (b ∷ c ∷ []) (leading_digit a two.0)
          (digits_more b (c ∷ []) two.1 (digits_one c last.1)),
    )
number_digits (a ∷ b ∷ c ∷ d ∷ more) h = absurd (cc)

digits_ascii : (bytes : List ℕ) → AllPass is_digit bytes → IsAscii bytes
digits_ascii bytes h = IsAscii-from_all bytes (All-from_get_or (λ b. b < 128) bytes 0
    (λ i below. digit_ascii _ (All-get_or (λ b. is_digit b ≡ true) bytes i 0 below h)))

-- a text without a dot is its one part
whole_split : (bytes : List ℕ) → position_or_len is_dot bytes ≡ length bytes →
    slice_split is_dot bytes ≡ bytes ∷ []
whole_split bytes h = slice_split_none is_dot bytes (All-from_get_or (λ b. is_dot b ≡ false) bytes 0
    (λ i below. fails_before_first is_dot bytes i 0 (omega (arith, h))))

-- a text with a dot is what stands before the first one, and the parts of what follows
first_split : (bytes front back : List ℕ) → position_or_len is_dot bytes < length bytes →
    front ≡ before_first is_dot bytes → back ≡ after_first is_dot bytes →
    slice_split is_dot bytes ≡ front ∷ slice_split is_dot back
first_split bytes front back h e f = rw (e, f) (slice_split_first is_dot bytes 0 h)

number_split : (bytes : List ℕ) → is_number bytes ≡ true → slice_split is_dot bytes ≡ bytes ∷ []
number_split bytes h = slice_split_none is_dot bytes
    (All-from_get_or (λ b. is_dot b ≡ false) bytes 0
    (λ i below. digit_no_dot _ (All-get_or (λ b. is_digit b ≡ true) bytes i 0 below
    (number_digits bytes h).1)))

abbrev pub IsCut : List ℕ → Option (Bor (List ℕ) × Bor (List ℕ)) → Type 0
IsCut bytes r = MatchOption r (slice_split is_dot bytes ≡ bytes ∷ [])
    (λ cut. slice_split is_dot bytes ≡ cut.0.now ∷ slice_split is_dot cut.1.now)

cut_by : (bytes : List ℕ) (r : Option (Bor (List ℕ) × Bor (List ℕ))) →
    MatchOption r (position_or_len is_dot bytes ≡ length bytes)
    (λ x. (position_or_len is_dot bytes < length bytes) × (x.0.now ≡ before_first is_dot bytes)
    × (x.1.now ≡ after_first is_dot bytes)) → IsCut bytes r
cut_by bytes None h = whole_split bytes h
cut_by bytes (Some x) h = first_split bytes x.0.now x.1.now h.0 h.1 h.2

-- what is found at the first dot
pub cut_at_dot : (bytes : List ℕ) (r : Option (Bor (List ℕ) × Bor (List ℕ))) →
    IsSplitOnceResult 46 bytes r → IsCut bytes r
cut_at_dot bytes r h = cut_by bytes r (split_once_first 46 bytes r h (lit< tt))

-- where what follows the second dot is no number, the parts are no status code's, however many they
-- are
other_parts : (class subject detail : List ℕ) (parts : List (List ℕ)) →
    join_with_byte 46 parts ≡ detail → is_number detail ≡ false →
    are_status_parts (class ∷ subject ∷ parts) ≡ false
other_parts class subject detail [] e h = refl
other_parts class subject detail (part ∷ []) e h =
    ap (λ b. is_class class && is_number subject && b) (ap is_number e ∙ h) ∙ and_false _
other_parts class subject detail (part ∷ next ∷ more) e h = refl

three_parts_by : (class subject detail : List ℕ) (b : Bool) → is_number detail ≡ b →
    are_status_parts (class ∷ subject ∷ slice_split is_dot detail) ≡ (is_class class
    && is_number subject && is_number detail)
three_parts_by class subject detail true h =
    ap (λ parts. are_status_parts (class ∷ subject ∷ parts)) (number_split detail h)
three_parts_by class subject detail false h =
    other_parts class subject detail (slice_split is_dot detail)
    (join_with_byte-slice_split 46 detail) h ∙ sym (ap (λ b. is_class class && is_number subject
    && b) h ∙ and_false _)

-- what a text cut at its first two dots says of its form
pub status_by_parts : (bytes class rest subject detail : List ℕ) → slice_split is_dot bytes ≡ class
    ∷ slice_split is_dot rest → slice_split is_dot rest ≡ subject ∷ slice_split is_dot detail →
    is_status bytes ≡ (is_class class && is_number subject && is_number detail)
status_by_parts bytes class rest subject detail e f =
    ap are_status_parts (e ∙ ap (λ parts. class ∷ parts) f)
    ∙ three_parts_by class subject detail (is_number detail) refl

shape_of : (parts : List (List ℕ)) (bytes : List ℕ) → join_with_byte 46 parts ≡ bytes →
    are_status_parts parts ≡ true → (length bytes ≤ 9) × IsAscii bytes
shape_of [] bytes e h = absurd (cc)
shape_of (class ∷ []) bytes e h = absurd (cc)
shape_of (class ∷ subject ∷ []) bytes e h = absurd (cc)
shape_of (class ∷ subject ∷ detail ∷ []) bytes e h =
    let last = both _ _ h in
    let two = both _ _ last.0 in
    let c = class_digit class two.0 in
    let s = number_digits subject two.1 in
    let d = number_digits detail last.1 in
    let small : 46 < 128 = omega arith in
    let text : List ℕ = class ++ 46 ∷ (subject ++ 46 ∷ detail) in
    let short : length (class ++ 46 ∷ (subject ++ 46 ∷ detail)) ≤ 9 =
    omega (
      arith,
      length-append class (46 ∷ (subject ++ 46 ∷ detail)),
      length-append subject (46 ∷ detail),
      c.0,
      s.0,
      d.0,
    ) in
    let ascii : IsAscii (class ++ 46 ∷ (subject ++ 46 ∷ detail)) =
    IsAscii-append class _ (digits_ascii class c.1)
    (IsAscii-cons 46 _ small (IsAscii-append subject _ (digits_ascii subject s.1)
    (IsAscii-cons 46 _ small (digits_ascii detail d.1)))) in
    subst (λ (t : List ℕ). (length t ≤ 9) × IsAscii t) e (short, ascii)
shape_of (class ∷ subject ∷ detail ∷ next ∷ more) bytes e h = absurd (cc)

-- a status code has at most nine bytes
pub status_short : (bytes : List ℕ) → is_status bytes ≡ true → length bytes ≤ 9
status_short bytes h = (shape_of (slice_split is_dot bytes) bytes
    (join_with_byte-slice_split 46 bytes) h).0

-- a status code is text
pub status_utf8 : (bytes : List ℕ) → is_status bytes ≡ true → IsUtf8 bytes
status_utf8 bytes h = IsUtf8-from_ascii bytes
    (shape_of (slice_split is_dot bytes) bytes (join_with_byte-slice_split 46 bytes) h).1

-- what fits into a full list is a part of it
pub room_for : (n : ℕ) (room : List ℕ) → n ≤ length room → length (take n room) ≡ n
room_for n room h = length-take-le n room h

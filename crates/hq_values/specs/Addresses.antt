-- The syntax of mail addresses, by their bytes (RFC 5321, 4.1.2; without quoted local parts and
-- domain literals).
use Rattle.std.specs.Prelude.{ℕ, Bool, false, ◌&&◌, ◌||◌, not, ◌==◌, nat_lt, nat_le, List, [], ◌∷◌}
use Rattle.std.specs.Prelude.{length, map, if◌then◌else◌, Option, Some, None, Result}
use Rattle.std.specs.Option.{option_map_or}
use Rattle.std.specs.Char.{to_ascii_lowercase}
use Rattle.std.specs.Cmp.Lexicographic.{slice_cmp}
use Rattle.std.specs.List.{list_all, slice_split}
use Rattle.std.specs.Ordering.{nat_cmp, eq_by_cmp}
use Rattle.hq_values.specs.Readers.{checked}
use Rattle.hq_values.specs.declared.failure.Refusal.{Refusal}
use Rattle.hq_values.specs.declared.failure.Refusal.TheVariants.{BadAddress}

abbrev pub is_dot : ℕ → Bool
is_dot b = b == 46

abbrev pub is_letter_or_digit : ℕ → Bool
is_letter_or_digit b = (nat_le 48 b && nat_le b 57) || (nat_le 65 b && nat_le b 90)
    || (nat_le 97 b && nat_le b 122)

-- a byte of a local part is visible ASCII, and none of " \ < > ( ) , ; @
abbrev pub is_local_byte : ℕ → Bool
is_local_byte b = nat_le 33 b && nat_le b 126 && not (b == 34 || b == 92 || b == 60 || b == 62
    || b == 40 || b == 41 || b == 44 || b == 59 || b == 64)

-- a byte of a label is a letter, a digit, '-' or '_'
abbrev pub is_label_byte : ℕ → Bool
is_label_byte b = is_letter_or_digit b || b == 45 || b == 95

abbrev pub is_local : List ℕ → Bool
is_local bytes = nat_lt 0 (length bytes) && list_all is_local_byte bytes

abbrev pub is_domain_label : List ℕ → Bool
is_domain_label bytes = nat_lt 0 (length bytes) && list_all is_label_byte bytes

-- one or more labels joined by dots
abbrev pub is_domain : List ℕ → Bool
is_domain bytes = list_all is_domain_label (slice_split is_dot bytes)

-- an @ parts a text where no later one does
abbrev pub last_at : ℕ → Option (List ℕ × List ℕ) → List ℕ → Option (List ℕ × List ℕ)
last_at b None rest = if b == 64 then Some ([], rest) else None
last_at b (Some parts) rest = Some (b ∷ parts.0, parts.1)

-- what stands before and after the last @
abbrev pub parts_of : List ℕ → Option (List ℕ × List ℕ)
parts_of [] = None
parts_of (b ∷ bytes) = last_at b (parts_of bytes) bytes

abbrev pub has_good_parts : Option (List ℕ × List ℕ) → Bool
has_good_parts None = false
has_good_parts (Some parts) = is_local parts.0 && is_domain parts.1

-- the most bytes of an address, of a domain and of a pattern
abbrev pub most_address_bytes : ℕ
most_address_bytes = 254

-- at most 254 bytes: a local part, the last @, and a domain
abbrev pub is_address : List ℕ → Bool
is_address bytes = nat_le (length bytes) most_address_bytes && has_good_parts (parts_of bytes)

-- the address that a text is
abbrev pub address_in : List ℕ → Result (List ℕ) Refusal
address_in text = checked text (is_address text) BadAddress

abbrev pub local_of : List ℕ → List ℕ
local_of bytes = option_map_or (λ parts. parts.0) (parts_of bytes) []

abbrev pub domain_of : List ℕ → List ℕ
domain_of bytes = option_map_or (λ parts. parts.1) (parts_of bytes) []

-- A to Z in lower case; two addresses are the same where their folded texts are equal (access(5)
-- folds so)
abbrev pub folded : List ℕ → List ℕ
folded bytes = map to_ascii_lowercase bytes

-- equal but for the case of ASCII letters, as a test
abbrev pub same_address : List ℕ → List ℕ → Bool
same_address a b = eq_by_cmp (slice_cmp nat_cmp) (folded a) (folded b)

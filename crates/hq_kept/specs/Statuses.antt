-- The form of status codes, by their bytes (RFC 3463, 2: a class, a subject and a detail, parted by
-- dots).
use Rattle.std.specs.Prelude.{ℕ, Bool, false, ◌&&◌, ◌-◌, nat_le, List, [], ◌∷◌, Result, codes}
use Rattle.std.specs.List.{slice_split}
use Rattle.hq_values.specs.Addresses.{is_dot}
use Rattle.hq_values.specs.Readers.{checked}
use Rattle.hq_values.specs.declared.failure.Refusal.{Refusal}
use Rattle.hq_values.specs.declared.failure.Refusal.TheVariants.{BadStatus}

-- '0' to '9'
abbrev pub is_digit : ℕ → Bool
is_digit b = nat_le 48 b && nat_le b 57

-- '1' to '9'
abbrev pub is_leading_digit : ℕ → Bool
is_leading_digit b = nat_le 49 b && nat_le b 57

-- the class is one digit
abbrev pub is_class : List ℕ → Bool
is_class (a ∷ []) = is_digit a
is_class _ = false

-- a subject or a detail has one to three digits; one of two or three does not begin with '0'
abbrev pub is_number : List ℕ → Bool
is_number (a ∷ []) = is_digit a
is_number (a ∷ b ∷ []) = is_leading_digit a && is_digit b
is_number (a ∷ b ∷ c ∷ []) = is_leading_digit a && is_digit b && is_digit c
is_number _ = false

abbrev pub are_status_parts : List (List ℕ) → Bool
are_status_parts (class ∷ subject ∷ detail ∷ []) = is_class class && is_number subject
    && is_number detail
are_status_parts _ = false

-- three parts, parted by dots: class, subject, detail
abbrev pub is_status : List ℕ → Bool
is_status bytes = are_status_parts (slice_split is_dot bytes)

-- a status is read as it was written; what has not its form is refused
abbrev pub status_in : List ℕ → Result (List ℕ) Refusal
status_in bytes = checked bytes (is_status bytes) BadStatus

-- a failure that may pass, of which no more is known (RFC 3463, 3.1 and 3.2)
abbrev pub unknown_status : List ℕ
unknown_status = codes "4.0.0"

-- delivery time expired (RFC 3463, 3.5)
abbrev pub expired_status : List ℕ
expired_status = codes "4.4.7"

-- the class as a number: what the first byte stands for (no status is empty)
abbrev pub first_digit : List ℕ → ℕ
first_digit [] = 0
first_digit (b ∷ bytes) = b - 48

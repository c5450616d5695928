-- What the fields of a request say of its body and its key (RFC 9112, section 6; the key is this
-- product's own field).
use Rattle.std.specs.Prelude.{ℕ, List, [], ◌∷◌, map, length, Bool, ◌==◌, nat_lt, if◌then◌else◌}
use Rattle.std.specs.Prelude.{Option, Some, None, option_map, codes, bytes_eq}
use Rattle.std.specs.Char.{to_ascii_lowercase}
use Rattle.std.specs.List.{All, list_all}
use Rattle.httparse.specs.Spans.{IsHeaderWithin, header_bytes}
use Rattle.httparse.specs.declared.spans.HeaderSpan.{HeaderSpan}
use Rattle.hq_values.specs.Decimals.{number_in}
use Rattle.hq_values.specs.Options.{◌>>=◌}
use Rattle.hq_http.specs.declared.fields.Framed.{Framed}

-- the fields of a head, each with its name and its value, by where they stand in its bytes
abbrev pub header_fields : List ℕ → List HeaderSpan → List (List ℕ × List ℕ)
header_fields bytes headers = map (header_bytes bytes) headers

-- where they stand is within the bytes
abbrev pub AreWithin : List ℕ → List HeaderSpan → Type 0
AreWithin bytes headers = All (IsHeaderWithin (length bytes)) headers

-- names are compared without regard to case
abbrev pub is_field_name : List ℕ → List ℕ → Bool
is_field_name name given = bytes_eq (map to_ascii_lowercase given) (map to_ascii_lowercase name)

-- the values of the fields of a name, in order
abbrev pub values : List ℕ → List (List ℕ × List ℕ) → List (List ℕ)
values name [] = []
values name (f ∷ fs) = if is_field_name name f.0 then f.1 ∷ values name fs else values name fs

-- none, or the one; two are a fault
abbrev pub at_most_one : List (List ℕ) → Option (Option (List ℕ))
at_most_one [] = Some None
at_most_one (v ∷ []) = Some (Some v)
at_most_one (v ∷ w ∷ vs) = None

-- none is 0, and else it is 1 to 10 decimal digits
abbrev pub length_in : Option (List ℕ) → Option ℕ
length_in None = Some 0
length_in (Some v) = number_in 10 v

abbrev pub is_ascii : List ℕ → Bool
is_ascii v = list_all (λ b. nat_lt b 128) v

-- an ASCII key, or none
abbrev pub shown_key : Option (List ℕ) → Option (Option (List ℕ))
shown_key None = Some None
shown_key (Some v) = if is_ascii v then Some (Some v) else None

pub record Framing : Type 0 where
  pub length : ℕ
  pub key : Option (List ℕ)

-- no field is a Transfer-Encoding
unfoldable pub is_plain : List (List ℕ × List ℕ) → Bool
is_plain fs = length (values (codes "transfer-encoding") fs) == 0

unfoldable pub length_of : List (List ℕ × List ℕ) → Option ℕ
length_of fs = at_most_one (values (codes "content-length") fs) >>= length_in

unfoldable pub key_of : List (List ℕ × List ℕ) → Option (Option (List ℕ))
key_of fs = at_most_one (values (codes "x-desk-key") fs) >>= shown_key

-- the length of the body and the key, or a fault
unfoldable pub framing : List (List ℕ × List ℕ) → Option Framing
framing fs = if is_plain fs then (do
  n ← length_of fs
  k ← key_of fs
  Some (record { length = n; key = k })) else None

abbrev pub framing_view : Framed → Framing
framing_view f = record { length = f.length; key = option_map (λ k. k.now) f.key }

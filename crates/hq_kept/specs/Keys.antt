-- The keys under which an address is looked up, in the order in which they are tried. All are
-- folded. (access(5), EMAIL ADDRESS PATTERNS and EMAIL ADDRESS EXTENSION, under the delimiter +)
use Rattle.std.specs.Prelude.{ℕ, Bool, ◌&&◌, ◌==◌, nat_lt, List, [], ◌∷◌, ◌++◌, length, map}
use Rattle.std.specs.Prelude.{if◌then◌else◌, Option, Some, None}
use Rattle.std.specs.List.{before_first, cons_option, join_with_byte, list_any, position_or_len}
use Rattle.std.specs.List.{slice_split}
use Rattle.std.specs.Str.{bytes_eq}
use Rattle.hq_values.specs.Addresses.{is_dot, local_of, domain_of, folded}
use Rattle.hq_values.specs.declared.address.Sender.{Sender}
use Rattle.hq_values.specs.declared.address.Sender.TheVariants.{Null, From}

abbrev pub is_plus : ℕ → Bool
is_plus b = b == 43

-- where the first + of a local part stands; its length, where none does
abbrev pub plus_at : List ℕ → ℕ
plus_at local = position_or_len is_plus local

-- the base of a local part: what stands before its first +, where at least one byte does
abbrev pub base_of : List ℕ → Option (List ℕ)
base_of local = if nat_lt 0 (plus_at local) && nat_lt (plus_at local) (length local) then
    Some (before_first is_plus local) else None

-- the local part, and its base where it has one
abbrev pub local_names : List ℕ → List (List ℕ)
local_names local = local ∷ cons_option (base_of local) []

-- user@domain, and user@ where the domain is left empty
abbrev pub at : List ℕ → List ℕ → List ℕ
at domain name = name ++ 64 ∷ domain

-- for each label but the last, a dot and the labels after it joined by dots: the longest first
abbrev pub parents : List (List ℕ) → List (List ℕ)
parents [] = []
parents (l ∷ []) = []
parents (l ∷ m ∷ labels) = (46 ∷ join_with_byte 46 (m ∷ labels)) ∷ parents (m ∷ labels)

-- the domain, and then .domain for each domain above it
abbrev pub domain_keys : List ℕ → List (List ℕ)
domain_keys domain = domain ∷ parents (slice_split is_dot domain)

-- the address, its base at the domain, the domain keys, user@, and its base with @
abbrev pub address_keys : List ℕ → List ℕ → List (List ℕ)
address_keys local domain = map (at domain) (local_names local) ++ domain_keys domain
    ++ map (at []) (local_names local)

-- the null sender has the one key <>
abbrev pub null_key : List ℕ
null_key = 60 ∷ 62 ∷ []

abbrev pub keys_of : Sender → List (List ℕ)
keys_of Null = null_key ∷ []
keys_of (From address) = address_keys (folded (local_of address)) (folded (domain_of address))

-- a text is one of the keys of a sender or a recipient
abbrev pub is_key_of : List ℕ → Sender → Bool
is_key_of text who = list_any (bytes_eq text) (keys_of who)

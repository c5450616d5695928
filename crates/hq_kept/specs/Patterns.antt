-- Patterns: what a line of an access table is for (access(5), EMAIL ADDRESS PATTERNS).
use Rattle.std.specs.Prelude.{ℕ, Bool, false, ◌&&◌, ◌||◌, ◌==◌, nat_le, List, [], ◌∷◌, codes}
use Rattle.std.specs.Prelude.{length, if◌then◌else◌, Option, Some, None, Result}
use Rattle.std.specs.Str.{bytes_eq}
use Rattle.hq_values.specs.Readers.{checked}
use Rattle.hq_values.specs.declared.failure.Refusal.{Refusal}
use Rattle.hq_values.specs.declared.failure.Refusal.TheVariants.{BadPattern}
use Rattle.hq_values.specs.Addresses.{is_dot, is_address, is_domain, is_local, folded, parts_of}
use Rattle.hq_values.specs.Addresses.{most_address_bytes}
use Rattle.hq_kept.specs.Keys.{null_key}
use Rattle.hq_kept.specs.declared.pattern.Class.{Class}
use Rattle.hq_kept.specs.declared.pattern.Class.TheVariants.{SenderSide, RecipientSide}

-- the name of a class, as tables are told apart by it
abbrev pub class_name : Class → List ℕ
class_name SenderSide = codes "sender"
class_name RecipientSide = codes "recipient"

-- the class of a name
abbrev pub class_in : List ℕ → Option Class
class_in name = if bytes_eq name (class_name SenderSide) then Some SenderSide else
    if bytes_eq name (class_name RecipientSide) then Some RecipientSide else None

-- .domain
abbrev pub is_subdomains : List ℕ → Bool
is_subdomains [] = false
is_subdomains (b ∷ domain) = is_dot b && is_domain domain

-- a local part alone before the last @
abbrev pub is_local_alone : Option (List ℕ × List ℕ) → Bool
is_local_alone None = false
is_local_alone (Some parts) = is_local parts.0 && length parts.1 == 0

-- user@
abbrev pub is_user : List ℕ → Bool
is_user text = is_local_alone (parts_of text)

-- <>, which no recipient is
abbrev pub is_null : Class → List ℕ → Bool
is_null SenderSide text = bytes_eq text null_key
is_null RecipientSide text = false

-- user@domain, domain, .domain, user@, or <> for senders; at most 254 bytes
abbrev pub is_pattern : Class → List ℕ → Bool
is_pattern class text = nat_le (length text) most_address_bytes
    && (is_address text || is_domain text || is_subdomains text || is_user text
    || is_null class text)

-- the pattern that a text is, of a class: the text is folded
abbrev pub pattern_in : Class → List ℕ → Result (Class × List ℕ) Refusal
pattern_in class text = checked (class, folded text) (is_pattern class (folded text)) BadPattern

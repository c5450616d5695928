-- The members of a JSON body. JSON is what `serde_json` reads as its `Value`.
use Rattle.std.specs.Prelude.{ℕ, List, [], ◌∷◌, ◌&&◌, Bool, true, false, Option, Some, None}
use Rattle.std.specs.Prelude.{if◌then◌else◌, option_map, option_and_then, bytes_eq}
use Rattle.std.specs.Str.{is_utf8}
use Rattle.std.specs.List.{list_any}
use Rattle.serde_json.specs.Data.{Data, Items, no_items, item, Members, no_members, member}
use Rattle.serde_json.specs.Read.{read}
use Rattle.serde_json.specs.Find.{get, as_str, as_number, as_u64, as_array}
use Rattle.hq_kept.specs.Limits.{is_within}

-- the value of a body that is UTF-8 and JSON
abbrev pub json_of : List ℕ → Option Data
json_of bytes = if is_utf8 bytes then read bytes else None

-- each member has one of these names
abbrev pub has_only : List (List ℕ) → Members → Bool
has_only names no_members = true
has_only names (member k d ms) = list_any (bytes_eq k) names && has_only names ms

-- it is an object, and each member has one of these names
abbrev pub has_only_members : List (List ℕ) → Option Members → Bool
has_only_members names None = false
has_only_members names (Some ms) = has_only names ms

-- a member that is a text
abbrev pub text_at : List ℕ → Data → Option (List ℕ)
text_at k d = option_and_then as_str (get k d)

abbrev pub within : ℕ → ℕ → ℕ → Option ℕ
within low high n = if is_within low high n then Some n else None

-- a member that is a number of digits alone, in a range
abbrev pub number_at : List ℕ → ℕ → ℕ → Data → Option ℕ
number_at k low high d =
    option_and_then (within low high) (option_and_then as_u64 (option_and_then as_number (get k d)))

-- the texts of a list that has texts alone
abbrev pub texts_of : Items → Option (List (List ℕ))
texts_of no_items = Some []
texts_of (item d ds) = option_and_then (λ s. option_map (λ ss. s ∷ ss) (texts_of ds)) (as_str d)

-- a member that is a list of texts
abbrev pub texts_at : List ℕ → Data → Option (List (List ℕ))
texts_at k d = option_and_then texts_of (option_and_then as_array (get k d))

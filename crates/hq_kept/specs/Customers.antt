-- Whose name or key a text is, and what holds of the customers of a directory.
use Rattle.std.specs.Prelude.{ℕ, Bool, true, not, ◌&&◌, List, [], ◌∷◌}
use Rattle.std.specs.Cmp.Lexicographic.{slice_cmp}
use Rattle.std.specs.List.{list_any}
use Rattle.std.specs.Ordering.{nat_cmp, eq_by_cmp}
use Rattle.hq_kept.specs.declared.account.Customer.{Customer}

-- two texts are the same, byte for byte
abbrev pub is_same_text : List ℕ → List ℕ → Bool
is_same_text = eq_by_cmp (slice_cmp nat_cmp)

abbrev pub has_name : List ℕ → Customer → Bool
has_name name c = is_same_text name c.entry.name

abbrev pub has_key : List ℕ → Customer → Bool
has_key key c = is_same_text key c.key

-- no two have the same name
abbrev pub names_apart : List Customer → Bool
names_apart [] = true
names_apart (c ∷ cs) = not (list_any (has_name c.entry.name) cs) && names_apart cs

-- no two have the same key
abbrev pub keys_apart : List Customer → Bool
keys_apart [] = true
keys_apart (c ∷ cs) = not (list_any (has_key c.key) cs) && keys_apart cs

-- customers with names and keys of their own
abbrev pub are_customers : List Customer → Bool
are_customers cs = names_apart cs && keys_apart cs

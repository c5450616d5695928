-- The key of what a customer has at a number, as columns.
-- Inner: it serves proofs alone, and no promise rests on it.
use Rattle.std.specs.Prelude.{ℕ, List, [], ◌∷◌}
use Rattle.sqlite.specs.declared.types.Value.TheVariants.{Text}
use Rattle.sqlite.specs.Order.{Row}
use Rattle.hq_keyed.specs.Values.{number}

abbrev pub number_key_columns : List ℕ × ℕ → Row
number_key_columns key = Text key.0 ∷ number key.1 ∷ []

-- Values of columns that are numbers and not negative.
use Rattle.std.specs.Prelude.{ℕ, pos}
use Rattle.sqlite.specs.declared.types.Value.{Value}
use Rattle.sqlite.specs.declared.types.Value.TheVariants.{Int}

abbrev pub number : ℕ → Value
number n = Int (pos n)

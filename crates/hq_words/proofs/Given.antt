-- What matches hold, read as rows.
use Rattle.std.proofs.Common.{◌≡◌, ◌∙◌, Option}
use Rattle.clap.specs.Matches.{found_of, first_value}
use Rattle.clap.specs.Walk.{Text, first_of, rows_of}
use Rattle.clap.specs.declared.parser.matches.ArgMatches.{ArgMatches}
use Rattle.clap.proofs.WalkLemmas.{first_value-rows}

-- the first value of an id, as rows have it
pub value_in : (m : ArgMatches) (id : Text) (value : Option Text) →
    value ≡ first_value (found_of m) id → value ≡ first_of id (rows_of (found_of m))
value_in m id value is = is ∙ first_value-rows (found_of m) id

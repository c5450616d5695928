-- The fields of a row: what a text and a number are. Both are this product's own.
use Rattle.std.specs.Prelude.{ℕ, List, if◌then◌else◌, Option, Some, None, option_and_then, Result}
use Rattle.std.specs.Prelude.{Ok, Err}
use Rattle.std.specs.Str.{is_utf8}
use Rattle.csv.specs.Records.{field_at}
use Rattle.hq_values.specs.Decimals.{number_in}
use Rattle.hq_rules.specs.Records.{Record}

-- a text is UTF-8
abbrev pub utf8_in : List ℕ → Option (List ℕ)
utf8_in field = if is_utf8 field then Some field else None

-- the field at a place, from 0, where it is a text
abbrev pub text_field : ℕ → Record → Option (List ℕ)
text_field place fields = option_and_then utf8_in (field_at fields place)

-- the number at a place: 1 to 13 decimal digits
abbrev pub number_field : ℕ → Record → Option ℕ
number_field place fields = option_and_then (number_in 13) (field_at fields place)

-- a reading whose refusal is told as that of the row
abbrev pub refused_as : {A E F : Type 0} → F → Result A E → Result A F
refused_as bad (Ok value) = Ok value
refused_as bad (Err refusal) = Err bad

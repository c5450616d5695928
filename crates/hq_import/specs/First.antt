-- What the first 1,002 records of a file say: words of the crate's own functions. No claim rests on
-- them.
-- Inner: it serves proofs alone, and no promise rests on it.
use Rattle.std.specs.Prelude.{ℕ, nat_le, List, [], length, take, Result}
use Rattle.hq_values.specs.Readers.{◌>>=◌, checked}
use Rattle.hq_values.specs.declared.failure.Refusal.{Refusal}
use Rattle.hq_values.specs.declared.failure.Refusal.TheVariants.{BadCsv}
use Rattle.hq_kept.specs.declared.pattern.Line.{Line}
use Rattle.hq_kept.specs.declared.account.Customer.{Customer}
use Rattle.hq_import.specs.Directories.{wrong_at, listed_customers}
use Rattle.hq_import.specs.Keys.{listed_keys}
use Rattle.hq_import.specs.declared.keys.NamedKey.{NamedKey}
use Rattle.hq_import.specs.declared.refused.DirectoryRefusal.{DirectoryRefusal}
use Rattle.hq_import.specs.declared.refused.Wrong.TheVariants.{TooLong}
use Rattle.hq_rules.specs.Records.{Record, records_in, under_header}
use Rattle.hq_rules.specs.TableFiles.{lines_under, table_header}
use Rattle.hq_values.specs.Limits.{most_bytes}

abbrev pub first_records : {E : Type 0} → E → List ℕ → Result (List Record) E
first_records bad file = checked (take 1002 (records_in file)) (nat_le (length file) most_bytes) bad

abbrev pub first_rows : Record → Refusal → List ℕ → Result (List Record) Refusal
first_rows names bad file = first_records bad file >>= under_header names bad

unfoldable pub first_lines : List ℕ → Result (List Line) Refusal
first_lines file = first_rows table_header (BadCsv 0) file >>= lines_under []

unfoldable pub first_customers : List ℕ → Result (List Customer) DirectoryRefusal
first_customers file = first_records (wrong_at 0 TooLong) file >>= listed_customers

unfoldable pub first_keys : List Customer → List ℕ → Result (List NamedKey) DirectoryRefusal
first_keys customers file = first_records (wrong_at 0 TooLong) file >>= listed_keys customers

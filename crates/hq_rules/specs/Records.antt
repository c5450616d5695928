-- The records of a CSV file, and the rows under its header. What a byte does to the record at hand
-- is what the reader of the crate `csv` does with its default settings: those of RFC 4180, and
-- lines may end in CR, LF or both; empty lines are no records. The limits are this product's own.
use Rattle.std.specs.Prelude.{ℕ, Bool, nat_le, List, [], ◌∷◌, ◌++◌, length, bytes_eq, if◌then◌else◌}
use Rattle.std.specs.Prelude.{Result, Err}
use Rattle.std.specs.Cmp.Lexicographic.{pointwise}
use Rattle.csv.specs.Machine.{step, is_end, ends_at_end, fields_after, field_after}
use Rattle.csv.specs.Reading.{default_config, strip_bom}
use Rattle.csv.specs.declared.parser.State.{State}
use Rattle.csv.specs.declared.parser.State.TheVariants.{StartRecord}
use Rattle.hq_values.specs.Readers.{◌>>=◌, checked}
use Rattle.hq_values.specs.declared.failure.Refusal.{Refusal}
use Rattle.hq_values.specs.Limits.{most_bytes}

-- a record is its fields, and a field its bytes
abbrev pub Record : Type 0
Record = List (List ℕ)

-- the records that bytes go on to write, from a state of the reader and behind the fields and the
-- field at hand
unfoldable pub records_from : State → Record → List ℕ → List ℕ → List Record
records_from s fields field [] = if ends_at_end s then (fields ++ field ∷ []) ∷ [] else []
records_from s fields field (b ∷ bytes) =
    let next = step default_config s b in
    let so_far = fields_after next.1 fields field in
    if is_end next.1 then so_far ∷ records_from next.0 [] [] bytes else
    records_from next.0 so_far (field_after next.1 b field) bytes

-- the records of a file; one byte order mark at its start is dropped
abbrev pub records_in : List ℕ → List Record
records_in file = records_from StartRecord [] [] (strip_bom file)

-- the records of a file of at most 262,144 bytes, a byte order mark among them
abbrev pub file_records : {E : Type 0} → E → List ℕ → Result (List Record) E
file_records bad file = checked (records_in file) (nat_le (length file) most_bytes) bad

-- the header has these fields, byte for byte
abbrev pub is_header : Record → Record → Bool
is_header names header = pointwise bytes_eq names header

-- what stands under the first record, which has to be the header
abbrev pub under_header : Record → Refusal → List Record → Result (List Record) Refusal
under_header names bad [] = Err bad
under_header names bad (header ∷ rows) = checked rows (is_header names header) bad

-- the rows of a file; it is refused where it is too long, has no record, or another header
abbrev pub rows_in : Record → Refusal → List ℕ → Result (List Record) Refusal
rows_in names bad file = file_records bad file >>= under_header names bad

-- the most rows
abbrev pub most_rows : ℕ
most_rows = 1000

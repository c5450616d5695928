-- The directory as CSV: rows of customers under the header
-- `name,key,messages,bytes,lines,notices,delay`, or that with `history` behind it. It is this
-- product's own.
use Rattle.std.specs.Prelude.{ℕ, ◌≡◌, ◌+◌, Bool, not, ◌==◌, ◌&&◌, nat_lt, nat_le, IsTrue, List}
use Rattle.std.specs.Prelude.{[], ◌∷◌, ◌++◌, length, codes, ◌||◌, if◌then◌else◌, true, Result}
use Rattle.std.specs.Prelude.{Ok, Err}
use Rattle.std.specs.List.{list_any}
use Rattle.hq_values.specs.Readers.{◌>>=◌, guard, or_refuse, passes}
use Rattle.hq_values.specs.declared.failure.Refusal.{Refusal}
use Rattle.hq_values.specs.Words.{name_in, key_in}
use Rattle.hq_kept.specs.declared.account.Customer.{Customer}
use Rattle.hq_kept.specs.declared.account.Quota.{Quota}
use Rattle.hq_kept.specs.Customers.{has_name, has_key}
use Rattle.hq_rules.specs.Fields.{text_field, number_field, refused_as}
use Rattle.hq_rules.specs.Records.{Record, most_rows, file_records, is_header}
use Rattle.hq_import.specs.Columns.{place, is_in}
use Rattle.hq_import.specs.Refused.{at_desk}
use Rattle.hq_import.specs.declared.columns.Column.TheVariants as column
use Rattle.hq_import.specs.declared.columns.Number.{Number}
use Rattle.hq_import.specs.declared.columns.Number.TheVariants.{Messages, Bytes, Lines, Notices}
use Rattle.hq_import.specs.declared.columns.Number.TheVariants.{Delay, History}
use Rattle.hq_import.specs.declared.refused.DirectoryRefusal.{DirectoryRefusal}
use Rattle.hq_import.specs.declared.refused.Wrong.{Wrong}
use Rattle.hq_import.specs.declared.refused.Wrong.TheVariants.{TooLong, NoRow, Header, TooMany}
use Rattle.hq_import.specs.declared.refused.Wrong.TheVariants.{Fields, HistoryFields, Field}
use Rattle.hq_import.specs.declared.refused.Wrong.TheVariants.{DoubledName, DoubledKey}

-- what is wrong at a row: at 0 with the header or the whole file
abbrev pub wrong_at : ℕ → Wrong → DirectoryRefusal
wrong_at row wrong = record { row = row; wrong = wrong }

-- what is wrong with the field of a number
abbrev pub bad_number : ℕ → Number → DirectoryRefusal
bad_number row number = wrong_at row (Field (column.Number number))

-- the name at a place of a row, or this refusal
unfoldable pub name_at : DirectoryRefusal → ℕ → Record → Result (List ℕ) DirectoryRefusal
name_at bad place fields = do
  text ← or_refuse bad (text_field place fields)
  refused_as bad (name_in text)

-- the key at a place of a row, or this refusal
unfoldable pub key_at : DirectoryRefusal → ℕ → Record → Result (List ℕ) DirectoryRefusal
key_at bad place fields = do
  text ← or_refuse bad (text_field place fields)
  refused_as bad (key_in text)

-- the name of a row, in its first field
unfoldable pub name_read : ℕ → Record → Result (List ℕ) DirectoryRefusal
name_read row fields = name_at (wrong_at row (Field column.Name)) 0 fields

-- the key of a row, in its second field
unfoldable pub key_read : ℕ → Record → Result (List ℕ) DirectoryRefusal
key_read row fields = key_at (wrong_at row (Field column.Key)) 1 fields

-- a number within the limits of its column
abbrev pub Limited : Number → Type 0
Limited number = (n : ℕ) × IsTrue (is_in number n)

-- what was read of such a number, which a program has without the proof
abbrev pub IsLimited : (number : Number) → Result ℕ DirectoryRefusal →
    Result (Limited number) DirectoryRefusal → Type 0
IsLimited number (Ok n) reading = (limits : IsTrue (is_in number n)) × (reading ≡ Ok (n, limits))
IsLimited number (Err refusal) reading = reading ≡ Err refusal

-- the number of a row in a column
unfoldable pub number_read : ℕ → Record → (number : Number) →
    Result (Limited number) DirectoryRefusal
number_read row fields number = do
  n ← or_refuse (bad_number row number) (number_field (place number) fields)
  limits ← passes (is_in number n) (bad_number row number)
  Ok (n, limits)

-- of how many recipients a row keeps the history: of none, where it has no eighth field
unfoldable pub history_read : ℕ → Record → Result (Limited History) DirectoryRefusal
history_read row fields = if length fields == 8 then number_read row fields History
    else Ok (0, λ _. true)

-- two tests that hold
abbrev pub both : {a b : Bool} → IsTrue a → IsTrue b → IsTrue (a && b)
both a b = λ i. a i && b i

-- the quota of a row
unfoldable pub quota_read : ℕ → Record → Result Quota DirectoryRefusal
quota_read row fields = do
  messages ← number_read row fields Messages
  bytes ← number_read row fields Bytes
  lines ← number_read row fields Lines
  notices ← number_read row fields Notices
  Ok (record {
    messages = messages.0;
    bytes = bytes.0;
    lines = lines.0;
    notices = notices.0;
    limits = both (both (both messages.1 bytes.1) lines.1) notices.1;
  })

-- a row has not as many fields as its header
abbrev pub other_fields : ℕ → Wrong
other_fields columns = if columns == 8 then HistoryFields else Fields

-- The customer of a row. Else it has not so many fields; or this is its first column, in the order
-- of the header, whose field is not as the column has it.
unfoldable pub customer_read : ℕ → ℕ → Record → Result Customer DirectoryRefusal
customer_read columns row fields = do
  all ← guard (length fields == columns) (wrong_at row (other_fields columns))
  name ← name_read row fields
  key ← key_read row fields
  quota ← quota_read row fields
  delay ← number_read row fields Delay
  history ← history_read row fields
  Ok (record {
    entry = record {
      name = name;
      quota = quota;
      delay = delay.0;
      history = history.0;
      limit = delay.1;
      span = history.1;
    };
    key = key;
  })

-- a name, or a key, that an earlier row has
abbrev pub is_name_taken : List Customer → List ℕ → Bool
is_name_taken earlier name = list_any (has_name name) earlier

abbrev pub is_taken : List Customer → List ℕ → Bool
is_taken earlier key = list_any (has_key key) earlier

-- The customer of the row under these customers, of which there is one per row. Else there are too
-- many rows; or the row is bad; or its name is doubled; or its key is.
unfoldable pub next_customer : ℕ → List Customer → Record → Result Customer DirectoryRefusal
next_customer columns earlier fields =
    let row = length earlier + 1 in do
      few ← guard (nat_le row most_rows) (wrong_at row TooMany)
      customer ← customer_read columns row fields
      new_name ← guard (not (is_name_taken earlier customer.entry.name)) (wrong_at row DoubledName)
      new_key ← guard (not (is_taken earlier customer.key)) (wrong_at row DoubledKey)
      Ok customer

-- these customers and those of the rows under them, or what is wrong with the first row that is not
-- good
unfoldable pub customers_under : ℕ → List Customer → List Record →
    Result (List Customer) DirectoryRefusal
customers_under columns earlier [] = Ok earlier
customers_under columns earlier (row ∷ rows) = next_customer columns earlier row >>=
    (λ customer. customers_under columns (earlier ++ customer ∷ []) rows)

abbrev pub directory_header : Record
directory_header = codes "name" ∷ codes "key" ∷ codes "messages" ∷ codes "bytes" ∷ codes "lines"
    ∷ codes "notices" ∷ codes "delay" ∷ []

abbrev pub history_header : Record
history_header = directory_header ++ codes "history" ∷ []

abbrev pub is_directory_header : Record → Bool
is_directory_header header = is_header directory_header header || is_header history_header header

-- the customers of the rows under a header, of which there is at least one; each has as many fields
-- as the header
unfoldable pub listed_customers : List Record → Result (List Customer) DirectoryRefusal
listed_customers [] = Err (wrong_at 0 NoRow)
listed_customers (header ∷ rows) = do
  some ← guard (nat_lt 0 (length rows)) (wrong_at 0 NoRow)
  known ← guard (is_directory_header header) (wrong_at 0 Header)
  customers_under (length header) [] rows

-- the customers of a directory, in the order of its rows, or its first fault
unfoldable pub directory_in : List ℕ → Result (List Customer) DirectoryRefusal
directory_in file = file_records (wrong_at 0 TooLong) file >>= listed_customers

-- the same with the refusals of the desk
abbrev pub customers_in : List ℕ → Result (List Customer) Refusal
customers_in file = at_desk (directory_in file)

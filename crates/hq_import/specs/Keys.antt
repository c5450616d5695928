-- Named keys, which customers have beside their own, as CSV: rows under the header
-- `customer,name,key,right`. It is this product's own.
use Rattle.std.specs.Prelude.{ℕ, ◌+◌, Bool, true, not, ◌==◌, ◌&&◌, ◌||◌, nat_lt, nat_le, List, []}
use Rattle.std.specs.Prelude.{◌∷◌, ◌++◌, length, codes, bytes_eq, if◌then◌else◌, Option, Some, None}
use Rattle.std.specs.Prelude.{option_and_then, Result, Ok, Err}
use Rattle.std.specs.List.{list_any}
use Rattle.hq_values.specs.Readers.{◌>>=◌, guard, or_refuse}
use Rattle.hq_kept.specs.Customers.{is_same_text}
use Rattle.hq_kept.specs.declared.account.Customer.{Customer}
use Rattle.hq_rules.specs.Fields.{text_field}
use Rattle.hq_rules.specs.Records.{Record, most_rows, file_records, is_header}
use Rattle.hq_import.specs.Directories.{wrong_at, name_at, key_at, is_name_taken, is_taken}
use Rattle.hq_import.specs.declared.columns.Column.TheVariants as column
use Rattle.hq_import.specs.declared.keys.NamedKey.{NamedKey}
use Rattle.hq_import.specs.declared.keys.Right.{Right}
use Rattle.hq_import.specs.declared.keys.Right.TheVariants.{All, Reading}
use Rattle.hq_import.specs.declared.refused.DirectoryRefusal.{DirectoryRefusal}
use Rattle.hq_import.specs.declared.refused.Wrong.TheVariants.{TooLong, NoRow, TooMany, DoubledName}
use Rattle.hq_import.specs.declared.refused.Wrong.TheVariants.{Field, KeysHeader, KeyFields}
use Rattle.hq_import.specs.declared.refused.Wrong.TheVariants.{NoCustomer, TakenKey}

-- ---- keys beside those of the directory

-- the text is this key
abbrev pub opens : List ℕ → NamedKey → Bool
opens text k = is_same_text text k.key

-- the other is a key of the same customer, and has the same name
abbrev pub is_namesake : NamedKey → NamedKey → Bool
is_namesake k other = is_same_text k.customer other.customer && is_same_text k.name other.name

-- the text is the key of a customer, or one of these
abbrev pub is_key_taken : List Customer → List NamedKey → List ℕ → Bool
is_key_taken customers keys text = is_taken customers text || list_any (opens text) keys

-- A key may stand behind these: its customer is there and has no key of its name, and nobody has
-- the same key.
abbrev pub joins : List Customer → List NamedKey → NamedKey → Bool
joins customers earlier k = is_name_taken customers k.customer
    && not (list_any (is_namesake k) earlier) && not (is_key_taken customers earlier k.key)

-- each of these may stand behind those and the ones before it
abbrev pub all_join : List Customer → List NamedKey → List NamedKey → Bool
all_join customers earlier [] = true
all_join customers earlier (k ∷ ks) = joins customers earlier k
    && all_join customers (earlier ++ k ∷ []) ks

-- named keys of these customers: each is of one of them, none is a customer's own, no two are the
-- same, and no two of a customer have the same name
abbrev pub are_keys : List Customer → List NamedKey → Bool
are_keys customers keys = all_join customers [] keys

-- ---- the file

-- the right of a text
abbrev pub right_named : List ℕ → Option Right
right_named text = if bytes_eq text (codes "all") then Some All else
    if bytes_eq text (codes "read") then Some Reading else None

-- the key of a row; else it has not four fields, or this is its first column whose field is not as
-- the column has it
unfoldable pub named_key_read : ℕ → Record → Result NamedKey DirectoryRefusal
named_key_read row fields = do
  all ← guard (length fields == 4) (wrong_at row KeyFields)
  customer ← name_at (wrong_at row (Field column.Customer)) 0 fields
  name ← name_at (wrong_at row (Field column.Name)) 1 fields
  key ← key_at (wrong_at row (Field column.Key)) 2 fields
  right ← or_refuse (wrong_at row (Field column.Right)) (option_and_then right_named
      (text_field 3 fields))
  Ok (record { customer = customer; name = name; key = key; right = right })

-- The key of the row under these keys, of which there is one per row. Else there are too many rows;
-- or the row is bad; or its customer is not in the directory; or the customer has a key of this
-- name; or somebody has this key.
unfoldable pub next_key : List Customer → List NamedKey → Record →
    Result NamedKey DirectoryRefusal
next_key customers earlier fields =
    let row = length earlier + 1 in do
      few ← guard (nat_le row most_rows) (wrong_at row TooMany)
      k ← named_key_read row fields
      known ← guard (is_name_taken customers k.customer) (wrong_at row NoCustomer)
      new_name ← guard (not (list_any (is_namesake k) earlier)) (wrong_at row DoubledName)
      new_key ← guard (not (is_key_taken customers earlier k.key)) (wrong_at row TakenKey)
      Ok k

-- these keys and those of the rows under them, or what is wrong with the first row that is not good
unfoldable pub keys_under : List Customer → List NamedKey → List Record →
    Result (List NamedKey) DirectoryRefusal
keys_under customers earlier [] = Ok earlier
keys_under customers earlier (row ∷ rows) = next_key customers earlier row >>=
    (λ k. keys_under customers (earlier ++ k ∷ []) rows)

abbrev pub keys_header : Record
keys_header = codes "customer" ∷ codes "name" ∷ codes "key" ∷ codes "right" ∷ []

-- the keys of the rows under a header, of which there is at least one
unfoldable pub listed_keys : List Customer → List Record → Result (List NamedKey) DirectoryRefusal
listed_keys customers [] = Err (wrong_at 0 NoRow)
listed_keys customers (header ∷ rows) = do
  some ← guard (nat_lt 0 (length rows)) (wrong_at 0 NoRow)
  known ← guard (is_header keys_header header) (wrong_at 0 KeysHeader)
  keys_under customers [] rows

-- the keys of a file, in the order of its rows, or its first fault
unfoldable pub keys_in : List Customer → List ℕ → Result (List NamedKey) DirectoryRefusal
keys_in customers file = file_records (wrong_at 0 TooLong) file >>= listed_keys customers

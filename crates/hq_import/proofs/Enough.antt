-- The first 1,002 records of a file say what all of them say: row 1,001 is one too many, and what
-- stands behind a row that is refused does not count.
use Rattle.std.proofs.Common.{◌≡◌, ◌≤◌, ◌+◌, ℕ, zero, suc, Bool, true, false, nat_lt, nat_le, List}
use Rattle.std.proofs.Common.{[], ◌∷◌, ◌++◌, length, take, Result, Ok, Err, lit≤, refl, sym, ap}
use Rattle.std.proofs.Common.{◌∙◌, arith}
use Rattle.std.specs.Bool.{⊤}
use Rattle.std.proofs.lemmas.List.{length-append}
use Rattle.std.proofs.lemmas.Bool.Decides.{nat_tests}
use Rattle.hq_values.specs.Readers.{◌>>=◌, checked, guard}
use Rattle.hq_values.specs.declared.failure.Refusal.{Refusal}
use Rattle.hq_values.specs.declared.failure.Refusal.TheVariants.{BadCsv}
use Rattle.hq_kept.specs.declared.account.Customer.{Customer}
use Rattle.hq_import.specs.Directories.{wrong_at, next_customer, customers_under, directory_in}
use Rattle.hq_import.specs.Directories.{listed_customers, is_directory_header}
use Rattle.hq_import.specs.declared.refused.DirectoryRefusal.{DirectoryRefusal}
use Rattle.hq_import.specs.declared.refused.Wrong.TheVariants.{TooLong, NoRow, Header, TooMany}
use Rattle.hq_import.specs.declared.refused.Wrong.TheVariants.{KeysHeader}
use Rattle.hq_import.specs.First.{first_lines, first_customers, first_keys}
use Rattle.hq_import.specs.Keys.{keys_header, keys_in, keys_under, listed_keys, next_key}
use Rattle.hq_import.specs.declared.keys.NamedKey.{NamedKey}
use Rattle.hq_rules.specs.Records.{records_in, is_header, under_header}
use Rattle.hq_rules.specs.TableFiles.{next_line, lines_under, table_lines, table_header}

abbrev Row : Type 0
Row = List (List ℕ)

-- values that rows hold, one after another; the first that is refused ends it
abbrev values_under : {A E : Type 0} → (List A → Row → Result A E) → List A → List Row →
    Result (List A) E
values_under next earlier [] = Ok earlier
values_under next earlier (row ∷ rows) = next earlier row >>=
    (λ value. values_under next (earlier ++ value ∷ []) rows)

-- behind 1,000 values the next row is refused
abbrev Stops : {A E : Type 0} → (List A → Row → Result A E) → Type 0
Stops {A} {E} next = (earlier : List A) (row : Row) → 1000 ≤ length earlier → (bad : E)
    × (next earlier row ≡ Err bad)

ok_err : {A E : Type 0} (a : A) (r : E) → ◌≡◌ {A = Result A E} (Ok a) (Err r) → ⊥
ok_err a r e = cc

enough : {A E : Type 0} (next : List A → Row → Result A E) → Stops next →
    (rows : List Row) (n : ℕ) (earlier : List A) → length earlier + n ≡ 1001 → length earlier ≤ 1000
    → values_under next earlier (take n rows) ≡ values_under next earlier rows
enough next stops [] zero earlier all few = refl
enough next stops [] (suc n) earlier all few = refl
enough next stops (row ∷ rows) zero earlier all few = absurd (omega arith)
enough {A} {E} next stops (row ∷ rows) (suc n) earlier all few =
    by (λ value. enough next stops rows n (earlier ++ value ∷ [])) (next earlier row) refl
  where
    by : ((value : A) → length (earlier ++ value ∷ []) + n ≡ 1001 →
        length (earlier ++ value ∷ []) ≤ 1000 →
        values_under next (earlier ++ value ∷ []) (take n rows) ≡ values_under next (earlier
        ++ value ∷ []) rows)
        → (o : Result A E) → next earlier row ≡ o
        → (o >>= (λ value. values_under next (earlier ++ value ∷ []) (take n rows))) ≡
        (o >>= (λ value. values_under next (earlier ++ value ∷ []) rows))
    by further (Err e) f = refl
    by further (Ok value) f =
        let not_yet : 1000 ≤ length earlier → ⊥ = λ many. let stop = stops earlier row many in
        ok_err value stop.0 (sym f ∙ stop.1) in
        let longer = length-append earlier (value ∷ []) in
        further value (omega arith) (omega arith)

refused_first : {A E : Type 0} (few : Bool) (bad : E) (rest : ⊤ → Result A E) →
    few ≡ false → (guard few bad >>= rest) ≡ Err bad
refused_first true bad rest h = absurd (no h) where
  no : true ≡ false → ⊥
  no e = cc
refused_first false bad rest h = refl

one_too_many : (count : ℕ) → 1000 ≤ count → nat_le (count + 1) 1000 ≡ false
one_too_many count many = grind (arith, nat_tests)

lines_stop : Stops next_line
unfolding next_line
lines_stop earlier row many = (
  BadCsv (length earlier + 1),
  refused_first (nat_le (length earlier + 1) 1000) (BadCsv (length earlier + 1)) _
      (one_too_many (length earlier) many),
)

customers_stop : (columns : ℕ) → Stops (next_customer columns)
unfolding next_customer
customers_stop columns earlier row many = (
  wrong_at (length earlier + 1) TooMany,
  refused_first (nat_le (length earlier + 1) 1000) (wrong_at (length earlier + 1) TooMany) _
      (one_too_many (length earlier) many),
)

-- what goes by the first 1,001 rows goes by the first 1,002 records
rows_then : {A : Type 0} (names : List (List ℕ)) (bad : Refusal) (fits : Bool) (records : List Row)
    (under : List Row → Result A Refusal) → ((rows : List Row) →
    under (take 1001 rows) ≡ under rows)
    → ((checked (take 1002 records) fits bad >>= under_header names bad) >>= under) ≡
    ((checked records fits bad >>= under_header names bad) >>= under)
rows_then names bad false records under h = refl
rows_then names bad true [] under h = refl
rows_then names bad true (header ∷ rows) under h = chosen (is_header names header)
  where
    chosen : (b : Bool) → (checked (take 1001 rows) b bad >>= under) ≡
        (checked rows b bad >>= under)
    chosen true = h rows
    chosen false = refl

pub lines_enough : (file : List ℕ) → first_lines file ≡ table_lines file
unfolding first_lines table_lines lines_under
lines_enough file = rows_then table_header (BadCsv 0) (nat_le (length file) 262144)
    (records_in file) (lines_under []) (λ rows. enough next_line lines_stop rows 1001 [] refl
    (lit≤ tt))

positive : (n : ℕ) → nat_lt 0 (suc n) ≡ true
positive n = grind (arith, nat_tests)

-- the rows of a directory, of which there is at least one
abbrev some_under : Bool → ℕ → List Row → Result (List Customer) DirectoryRefusal
some_under known columns rows = guard (nat_lt 0 (length rows)) (wrong_at 0 NoRow) >>=
    (λ some. guard known (wrong_at 0 Header) >>= (λ known. customers_under columns [] rows))

some_enough : (known : Bool) (columns : ℕ) (rows : List Row) →
    some_under known columns (take 1001 rows) ≡ some_under known columns rows
unfolding customers_under
some_enough known columns [] = refl
some_enough false columns (row ∷ rows) =
    ap (λ b. guard b (wrong_at 0 NoRow) >>= (λ some. Err (wrong_at 0 Header)))
    (positive (length (take 1000 rows)) ∙ sym (positive (length rows)))
some_enough true columns (row ∷ rows) =
    ap (λ b. guard b (wrong_at 0 NoRow) >>= (λ some. customers_under columns []
    (take 1001 (row ∷ rows)))) (positive (length (take 1000 rows)))
    ∙ enough (next_customer columns) (customers_stop columns) (row ∷ rows) 1001 [] refl (lit≤ tt)
    ∙ ap (λ b. guard b (wrong_at 0 NoRow) >>= (λ some. customers_under columns [] (row ∷ rows)))
    (sym (positive (length rows)))

records_enough : (records : List Row) →
    listed_customers (take 1002 records) ≡ listed_customers records
unfolding listed_customers
records_enough [] = refl
records_enough (header ∷ rows) = some_enough (is_directory_header header) (length header) rows

pub customers_enough : (file : List ℕ) → first_customers file ≡ directory_in file
unfolding first_customers directory_in
customers_enough file = fitting (nat_le (length file) 262144)
  where
    fitting : (b : Bool) →
        (checked (take 1002 (records_in file)) b (wrong_at 0 TooLong) >>= listed_customers) ≡
        (checked (records_in file) b (wrong_at 0 TooLong) >>= listed_customers)
    fitting true = records_enough (records_in file)
    fitting false = refl

keys_stop : (customers : List Customer) → Stops (next_key customers)
unfolding next_key
keys_stop customers earlier row many = (
  wrong_at (length earlier + 1) TooMany,
  refused_first (nat_le (length earlier + 1) 1000) (wrong_at (length earlier + 1) TooMany) _
      (one_too_many (length earlier) many),
)

-- the rows of a file of keys, of which there is at least one
abbrev some_keys : List Customer → Bool → List Row → Result (List NamedKey) DirectoryRefusal
some_keys customers known rows = guard (nat_lt 0 (length rows)) (wrong_at 0 NoRow) >>=
    (λ some. guard known (wrong_at 0 KeysHeader) >>= (λ known. keys_under customers [] rows))

some_keys_enough : (customers : List Customer) (known : Bool) (rows : List Row) →
    some_keys customers known (take 1001 rows) ≡ some_keys customers known rows
unfolding keys_under
some_keys_enough customers known [] = refl
some_keys_enough customers false (row ∷ rows) =
    ap (λ b. guard b (wrong_at 0 NoRow) >>= (λ some. Err (wrong_at 0 KeysHeader)))
    (positive (length (take 1000 rows)) ∙ sym (positive (length rows)))
some_keys_enough customers true (row ∷ rows) =
    ap (λ b. guard b (wrong_at 0 NoRow) >>= (λ some. keys_under customers []
    (take 1001 (row ∷ rows)))) (positive (length (take 1000 rows)))
    ∙ enough (next_key customers) (keys_stop customers) (row ∷ rows) 1001 [] refl (lit≤ tt)
    ∙ ap (λ b. guard b (wrong_at 0 NoRow) >>= (λ some. keys_under customers [] (row ∷ rows)))
    (sym (positive (length rows)))

key_records_enough : (customers : List Customer) (records : List Row) →
    listed_keys customers (take 1002 records) ≡ listed_keys customers records
unfolding listed_keys
key_records_enough customers [] = refl
key_records_enough customers (header ∷ rows) =
    some_keys_enough customers (is_header keys_header header) rows

pub keys_enough : (customers : List Customer) (file : List ℕ) →
    first_keys customers file ≡ keys_in customers file
unfolding first_keys keys_in
keys_enough customers file = fitting (nat_le (length file) 262144)
  where
    fitting : (b : Bool) →
        (checked (take 1002 (records_in file)) b (wrong_at 0 TooLong) >>= listed_keys customers) ≡
        (checked (records_in file) b (wrong_at 0 TooLong) >>= listed_keys customers)
    fitting true = key_records_enough customers (records_in file)
    fitting false = refl

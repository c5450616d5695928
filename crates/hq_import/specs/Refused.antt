-- Why a directory, or a file of named keys, is refused: in which row and column, and how that is
-- told; and of a directory, which refusal of the desk it is.
use Rattle.std.specs.Prelude.{ℕ, ◌≡◌, List, codes, Result, Ok, Err}
use Rattle.hq_values.specs.Refusals.{no_memory}
use Rattle.hq_values.specs.declared.failure.Fail.{Fail}
use Rattle.hq_values.specs.declared.failure.Fail.TheVariants as fail
use Rattle.hq_values.specs.declared.failure.Refusal.{Refusal}
use Rattle.hq_values.specs.declared.failure.Refusal.TheVariants as desk
use Rattle.hq_import.specs.declared.columns.Column.TheVariants.{Customer, Name, Key, Right, Number}
use Rattle.hq_import.specs.declared.columns.Number.TheVariants.{Messages, Bytes, Lines, Notices}
use Rattle.hq_import.specs.declared.columns.Number.TheVariants.{Delay, History}
use Rattle.hq_import.specs.declared.refused.DirectoryFail.{DirectoryFail}
use Rattle.hq_import.specs.declared.refused.DirectoryFail.TheVariants.{Refused, Fault}
use Rattle.hq_import.specs.declared.refused.DirectoryRefusal.{DirectoryRefusal}
use Rattle.hq_import.specs.declared.refused.Wrong.{Wrong}
use Rattle.hq_import.specs.declared.refused.Wrong.TheVariants.{TooLong, NoRow, Header, TooMany}
use Rattle.hq_import.specs.declared.refused.Wrong.TheVariants.{Fields, HistoryFields, Field}
use Rattle.hq_import.specs.declared.refused.Wrong.TheVariants.{KeysHeader, KeyFields, NoCustomer}
use Rattle.hq_import.specs.declared.refused.Wrong.TheVariants.{DoubledName, DoubledKey, TakenKey}

-- the refusal of the desk: 54 and 55 for what stands in a row before, and else 53
abbrev pub desk_refusal : DirectoryRefusal → Refusal
desk_refusal refusal = of refusal.wrong
  where
    of : Wrong → Refusal
    of DoubledName = desk.DoubledName refusal.row
    of DoubledKey = desk.DoubledKey refusal.row
    of _ = desk.BadDirectory refusal.row

-- why it was not read, as the desk tells it
abbrev pub fail_of : DirectoryFail → Fail
fail_of (Refused refusal) = fail.Refused (desk_refusal refusal)
fail_of (Fault fault) = fail.Fault fault

-- a reading, with the refusals of the desk
abbrev pub at_desk : {A : Type 0} → Result A DirectoryRefusal → Result A Refusal
at_desk (Ok value) = Ok value
at_desk (Err refusal) = Err (desk_refusal refusal)

-- what was answered is what reading gives; or want of memory, for this reason alone
abbrev pub ReadsDirectory : {A : Type 0} → Type 0 → Result A DirectoryFail →
    Result A DirectoryRefusal → Type 0
ReadsDirectory refused (Ok value) reading = reading ≡ Ok value
ReadsDirectory refused (Err (Refused refusal)) reading = reading ≡ Err refusal
ReadsDirectory refused (Err (Fault fault)) reading = (fault ≡ no_memory) × refused

-- what is wrong, as it is told behind the row: the column, its limits, and no field
abbrev pub wrong_shown : Wrong → List ℕ
wrong_shown TooLong = codes ": more than 262144 bytes"
wrong_shown NoRow = codes ": no row below the header"
wrong_shown Header =
    codes ": the header is not name,key,messages,bytes,lines,notices,delay"
wrong_shown KeysHeader = codes ": the header is not customer,name,key,right"
wrong_shown TooMany = codes ": more than 1000 rows"
wrong_shown Fields = codes ": not 7 fields"
wrong_shown HistoryFields = codes ": not 8 fields"
wrong_shown KeyFields = codes ": not 4 fields"
wrong_shown (Field Customer) =
    codes ", column customer: not 1 to 32 lower-case letters, digits and hyphens"
wrong_shown (Field Right) = codes ", column right: not all or read"
wrong_shown (Field Name) =
    codes ", column name: not 1 to 32 lower-case letters, digits and hyphens"
wrong_shown (Field Key) = codes ", column key: not 16 to 64 letters and digits"
wrong_shown (Field (Number Messages)) = codes ", column messages: no number from 1 to 1000"
wrong_shown (Field (Number Bytes)) = codes ", column bytes: no number from 1 to 2147483647000"
wrong_shown (Field (Number Lines)) = codes ", column lines: no number from 1 to 5000"
wrong_shown (Field (Number Notices)) = codes ", column notices: no number from 1 to 1000"
wrong_shown (Field (Number Delay)) = codes ", column delay: no number from 0 to 431999"
wrong_shown (Field (Number History)) = codes ", column history: no number from 0 to 1000000"
wrong_shown NoCustomer = codes ", column customer: not in the directory"
wrong_shown DoubledName = codes ", column name: as in a row before"
wrong_shown DoubledKey = codes ", column key: as in a row before"
wrong_shown TakenKey = codes ", column key: as that of a customer or of a row before"

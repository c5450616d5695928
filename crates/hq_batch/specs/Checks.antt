-- The word `check`: what a start would read before it opens its store is read and checked.
use Rattle.std.specs.Prelude.{ℕ, ◌≡◌, ◌==◌, ◌++◌, List, codes, decimal, if◌then◌else◌, Option}
use Rattle.std.specs.Prelude.{Result, Ok, Err}
use Rattle.hq_values.specs.Refusals.{no_memory}
use Rattle.hq_values.specs.declared.failure.Fail.TheVariants.{Fault as AsFault}
use Rattle.hq_rules.specs.declared.render.Rendered.{Rendered}
use Rattle.hq_settings.specs.Checked.{HasRelay, CountsCustomers}
use Rattle.hq_settings.specs.Settings.{Named}
use Rattle.hq_words.specs.Given.{CheckGiven}
use Rattle.hq_batch.specs.Printing.{IsPrinted}
use Rattle.hq_settings.specs.declared.trouble.Trouble.{Trouble}
use Rattle.hq_settings.specs.declared.trouble.Trouble.TheVariants.{Desk}
use Rattle.hq_settings.specs.Steps.{Then, IsFile, Reading}

-- that many, on a line
unfoldable pub count_line : ℕ → List ℕ
count_line count = decimal count ++ (if count == 1 then codes " customer\n" else
    codes " customers\n")

abbrev pub IsCountTold : ℕ → Result Rendered Trouble → Type 0
IsCountTold count (Ok rendered) = (rendered.number ≡ 0) × (rendered.bytes.items ≡ count_line count)
IsCountTold count (Err trouble) = trouble ≡ Desk (AsFault no_memory)

-- what is told of a directory and of the keys beside it, with the relay or without one
abbrev pub FileEnds : Reading → Option (List ℕ) → Option Named → List ℕ →
    Result Rendered Trouble → Type 0
FileEnds reads keys relay file = Then (CountsCustomers reads relay keys file) IsCountTold

-- How a check ends: with the first trouble of a start, or with the number of its customers.
abbrev pub CheckEnds : Reading → CheckGiven → Result Rendered Trouble → Type 0
CheckEnds reads given = Then (HasRelay reads given.host given.relay_key) (λ relay.
    Then (IsFile reads given.directory) (FileEnds reads given.keys relay))

-- a check ends so, and is printed
abbrev pub Checks : (Result Rendered Trouble → Type 0) → Type 0 → Option (List ℕ) →
    Option (List ℕ) → ℕ → Type 0
Checks ends unwritten old new status = (done : Result Rendered Trouble) × ends done
    × IsPrinted done unwritten old new status

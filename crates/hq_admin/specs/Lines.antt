-- What an administrator reads of a history: a line for each recipient that left the queue.
use Rattle.std.specs.Prelude.{ℕ, ◌++◌, List, [], codes, decimal, Option, None, Some, Bool}
use Rattle.std.specs.Prelude.{if◌then◌else◌}
use Rattle.std.specs.List.{flat_map}
use Rattle.hq_values.specs.Serials.{serial_text}
use Rattle.hq_rules.specs.Histories.{last_number}
use Rattle.hq_values.specs.declared.address.Sender.{Sender}
use Rattle.hq_values.specs.declared.address.Sender.TheVariants.{Null, From}
use Rattle.hq_kept.specs.declared.outcome.Ended.{Ended}
use Rattle.hq_kept.specs.declared.outcome.Fate.{Fate}
use Rattle.hq_kept.specs.declared.outcome.Fate.TheVariants.{Delivered, Failed, Deleted, Expired}
use Rattle.hq_kept.specs.declared.end.End.{End}

abbrev pub fate_word : Fate → List ℕ
fate_word Delivered = codes "delivered"
fate_word Failed = codes "failed"
fate_word Deleted = codes "deleted"
fate_word Expired = codes "expired"

-- the null sender is told as the queue report has it
abbrev pub sender_column : Sender → List ℕ
sender_column Null = codes "<>"
sender_column (From address) = address

-- a hyphen for none
abbrev pub shown_status : Option (List ℕ) → List ℕ
shown_status None = codes "-"
shown_status (Some status) = status

-- its number, when it left, and of which message it was
unfoldable pub numbers_text : End → List ℕ
numbers_text e = decimal e.number ++ codes " " ++ decimal e.at ++ codes " "
    ++ serial_text e.ended.serial

-- who it was of, and who it was
unfoldable pub addresses_text : Ended → List ℕ
addresses_text e = codes " " ++ fate_word e.fate ++ codes " " ++ sender_column e.sender ++ codes " "
    ++ e.recipient

-- a status and a text: of the report that it left by, or those that were told of it last
unfoldable pub told_text : Ended → List ℕ
told_text e = codes " " ++ shown_status e.status ++ codes " " ++ e.text ++ codes "\n"

abbrev pub end_line : End → List ℕ
end_line e = numbers_text e ++ addresses_text e.ended ++ told_text e.ended

-- there are more, before this number
unfoldable pub more_line : Option ℕ → List ℕ
more_line None = []
more_line (Some number) = codes "more before " ++ decimal number ++ codes "\n"

-- the number before which those are that are not told
abbrev pub more_from : List End → Bool → Option ℕ
more_from es more = if more then last_number es else None

abbrev pub history_lines : List End → Option ℕ → List ℕ
history_lines es next = flat_map end_line es ++ more_line next

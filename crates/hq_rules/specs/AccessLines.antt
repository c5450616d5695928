-- What the desk answers and changes on the lines of a customer's access tables, and what it finds
-- in them.
use Rattle.std.specs.Prelude.{ℕ, Bool, nat_le, nat_lt, List, [], ◌∷◌, length, take, if◌then◌else◌}
use Rattle.std.specs.Prelude.{Option, None, Some, option_map}
use Rattle.std.specs.Str.{bytes_eq}
use Rattle.hq_values.specs.declared.failure.Refusal.TheVariants.{NoLine, QuotaLines}
use Rattle.hq_values.specs.declared.address.Sender.{Sender}
use Rattle.hq_kept.specs.Actions.{action_text}
use Rattle.hq_kept.specs.Keys.{keys_of}
use Rattle.hq_rules.specs.Lookups.{Found, first_match}
use Rattle.hq_kept.specs.declared.action.Action.{Action}
use Rattle.hq_kept.specs.declared.pattern.Class.{Class}
use Rattle.hq_kept.specs.declared.pattern.Line.{Line}
use Rattle.hq_tables.specs.Readings.{Readings}
use Rattle.hq_tables.specs.declared.change.Change.TheVariants.{PutLine, DropLine}
use Rattle.hq_rules.specs.Answering.{tell, refuse}
use Rattle.hq_rules.specs.declared.answer.Answer.TheVariants as answer
use Rattle.hq_rules.specs.declared.answer.LinePut.{LinePut}
use Rattle.hq_rules.specs.declared.answer.LinePut.TheVariants.{Added, Changed, Same}
use Rattle.hq_rules.specs.declared.decision.Decision.{Decision}
use Rattle.hq_rules.specs.Limits.{page_rows}

-- ---- what is found for a sender or a recipient

-- the first of its keys that has a line, with the line's action
abbrev pub found_for : Readings → Class → Sender → Found
found_for readings class who = first_match (readings.line class) (keys_of who)

-- that action
abbrev pub action_for : Readings → Class → Sender → Option Action
action_for readings class who = option_map (λ found. found.1) (found_for readings class who)

-- ---- lines

-- the first hundred, and whether there are more
abbrev pub line_page : List Line → Decision
line_page ls = tell (answer.LinesListed (take page_rows ls) (nat_lt page_rows (length ls)))

-- actions that are written the same
abbrev pub same_action : Action → Action → Bool
same_action a b = bytes_eq (action_text a) (action_text b)

abbrev pub set : LinePut → Line → Decision
set done line = record { answer = answer.LinePut done; changes = PutLine line ∷ [] }

-- a line whose pattern has a line already, with that one's action
abbrev pub put_over : Action → Line → Decision
put_over known line = if same_action known line.action then tell (answer.LinePut Same) else
    set Changed line

-- a line of a new pattern: refused where the customer has as many lines as its quota
abbrev pub put_new : ℕ → ℕ → Line → Decision
put_new quota count line = if nat_le quota count then refuse QuotaLines else set Added line

abbrev pub put_line : ℕ → ℕ → Line → Option Action → Decision
put_line quota count line (Some known) = put_over known line
put_line quota count line None = put_new quota count line

abbrev pub drop_line : Class × List ℕ → Option Action → Decision
drop_line pattern None = refuse NoLine
drop_line pattern (Some action) = record {
  answer = answer.LineDropped;
  changes = DropLine pattern
      ∷ [];
}

-- the keys of an address, and what is found for it
abbrev pub check : Readings → Class → Sender → Decision
check readings class who = tell (answer.Checked (keys_of who) (found_for readings class who))

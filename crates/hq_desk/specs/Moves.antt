-- Calls that move one message of a customer, or that move or delete all.
-- Inner: it serves proofs alone, and no promise rests on it.
use Rattle.std.specs.Prelude.{ℕ, ◌≡◌, Bool, true, false, List, Option, None, Some}
use Rattle.hq_kept.specs.declared.account.Entry.{Entry}
use Rattle.hq_tables.specs.Readings.{Readings, read_tables}
use Rattle.hq_tables.specs.Tables.{Tables}
use Rattle.hq_rules.specs.Decision.{decide}
use Rattle.hq_rules.specs.Desks.{IsAnswerTo}
use Rattle.hq_rules.specs.Queues.{move_all}
use Rattle.hq_rules.specs.declared.answer.Answer.{Answer}
use Rattle.hq_rules.specs.declared.answer.Answer.TheVariants.{Changed, Refused}
use Rattle.hq_values.specs.declared.failure.Refusal.TheVariants.{NoMessage}
use Rattle.hq_rules.specs.declared.call.Call.{Call}
use Rattle.hq_rules.specs.declared.call.Move.{Move}
use Rattle.hq_rules.specs.declared.decision.Decision.{Decision}
use Rattle.hq_moves.specs.Moved.{all_moved, moved_count, move_found, one_moved, would_move}
use Rattle.hq_moves.specs.Moved.{DropAll}

-- a call at a moment that is decided as the move of all messages, whatever the customer has
abbrev pub IsMoveOfAll : ℕ → Call → Move → Type 0
IsMoveOfAll at call by = (host : List ℕ) (entry : Entry) (rows : Readings) →
    decide host entry rows at call ≡ move_all by rows.messages

-- each answer is one to the call
abbrev pub HasAnyAnswer : Call → Type 0
HasAnyAnswer call = (answer : Answer) → IsAnswerTo call answer

-- what such a call is told, and the tables afterwards
abbrev pub move_step : List ℕ → Move → Tables → Answer × Tables
move_step customer by t =
    (Changed (moved_count by (read_tables customer t)), all_moved customer by t)

-- where a decision deletes all messages, its first changes drop them, as many as it tells
abbrev pub DropsWhere : Bool → Decision → Readings → Type 0
DropsWhere all decision rows = all ≡ true → (count : ℕ) → decision.answer ≡ Changed count →
    DropAll count decision.changes rows

-- ---- of one message

-- a call at a moment that is decided as the move of the message of a serial
abbrev pub IsMoveOfOne : ℕ → Call → ℕ → Move → Type 0
IsMoveOfOne at call serial by = (host : List ℕ) (entry : Entry) (rows : Readings) →
    decide host entry rows at call ≡ move_found by (rows.message serial)

-- what is told, by whether the move changes the message
abbrev pub told_answer : Option Bool → Answer
told_answer None = Refused NoMessage
told_answer (Some true) = Changed 1
told_answer (Some false) = Changed 0

-- what such a call is told, and the tables afterwards
abbrev pub one_step : List ℕ → ℕ → Move → Tables → Answer × Tables
one_step customer serial by t =
    (told_answer (would_move by serial (read_tables customer t)), one_moved customer serial by t)

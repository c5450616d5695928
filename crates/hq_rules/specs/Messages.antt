-- What the desk answers and changes on one message, as it was found (postsuper(1)), and on a page
-- of messages.
use Rattle.std.specs.Prelude.{ℕ, ◌+◌, ◌==◌, if◌then◌else◌, nat_lt, List, [], ◌∷◌, length, take}
use Rattle.std.specs.Prelude.{Option, None, Some}
use Rattle.hq_values.specs.declared.failure.Refusal.TheVariants.{NoMessage, SerialsSpent}
use Rattle.hq_values.specs.Words.{customer_hold}
use Rattle.hq_rules.specs.Admission.{spent}
use Rattle.hq_rules.specs.Leaving.{all_ended}
use Rattle.hq_rules.specs.Moves.{held, released, requeued}
use Rattle.hq_kept.specs.declared.account.Entry.{Entry}
use Rattle.hq_kept.specs.declared.account.Head.{Head}
use Rattle.hq_kept.specs.declared.message.Message.{Message}
use Rattle.hq_kept.specs.declared.outcome.Fate.TheVariants as fate
use Rattle.hq_tables.specs.Readings.{saturated}
use Rattle.hq_tables.specs.declared.change.Change.TheVariants.{PutHead, PutMessage, DropMessage}
use Rattle.hq_rules.specs.Answering.{tell, refuse}
use Rattle.hq_rules.specs.Histories.{kept_history}
use Rattle.hq_rules.specs.declared.answer.Answer.TheVariants as answer
use Rattle.hq_rules.specs.declared.decision.Decision.{Decision}
use Rattle.hq_rules.specs.Limits.{page_rows}

-- the message after a move that applies; a move that does not apply changes no message, and no row
abbrev pub moved : Option Message → Decision
moved None = tell (answer.Changed 0)
moved (Some m) = record { answer = answer.Changed 1; changes = PutMessage m ∷ [] }

abbrev pub show : Option Message → Decision
show None = refuse NoMessage
show (Some m) = tell (answer.Shown m)

abbrev pub hold : Option Message → Decision
hold None = refuse NoMessage
hold (Some m) = moved (held customer_hold m)

abbrev pub release : ℕ → Option Message → Decision
release at None = refuse NoMessage
release at (Some m) = moved (released at m)

-- the head once its next serial was given out
abbrev pub next_head : Head → Head
next_head head = record head { next_serial = head.next_serial + 1 }

-- under the next serial; the old message is dropped first, so that its spool name is free
abbrev pub requeue_with : Head → ℕ → Message → Decision
requeue_with head at m = if head.next_serial == spent then refuse SerialsSpent else record {
  answer = answer.Requeued head.next_serial;
  changes = DropMessage m.serial ∷ PutHead (next_head head)
      ∷ PutMessage (requeued at head.next_serial m) ∷ [];
}

abbrev pub requeue : Head → ℕ → Option Message → Decision
requeue head at None = refuse NoMessage
requeue head at (Some m) = requeue_with head at m

-- the tally after so many recipients were deleted
abbrev pub with_deleted : ℕ → Head → Head
with_deleted count head = record head {
  tally = record head.tally { deleted = saturated (head.tally.deleted + count) };
}

-- its recipients are told of in the history
abbrev pub deleted : Entry → ℕ → Head → Message → Decision
deleted entry at after m = record {
  answer = answer.Changed 1;
  changes = DropMessage m.serial ∷ PutHead after
      ∷ kept_history entry at after (all_ended fate.Deleted m);
}

abbrev pub delete : Entry → ℕ → Head → Option Message → Decision
delete entry at head None = refuse NoMessage
delete entry at head (Some m) = deleted entry at (with_deleted (length m.pending) head) m

-- the first hundred, and whether there are more
abbrev pub page : List Message → Decision
page ms = tell (answer.Listed (take page_rows ms) (nat_lt page_rows (length ms)))

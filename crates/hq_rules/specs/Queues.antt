-- What the desk answers and changes on all messages of a customer (postsuper(1), `ALL`), what it
-- tells of its use, and the queue report (postqueue(1), -p).
use Rattle.std.specs.Prelude.{ℕ, ◌≡◌, ◌+◌, ◌==◌, List, [], ◌∷◌, ◌++◌, map, length, if◌then◌else◌}
use Rattle.std.specs.Prelude.{Option, None, Some}
use Rattle.std.specs.List.{flat_map}
use Rattle.hq_values.specs.Words.{customer_hold}
use Rattle.hq_rules.specs.Leaving.{all_ended}
use Rattle.hq_rules.specs.Moves.{held, released}
use Rattle.hq_kept.specs.declared.account.Counts.{Counts}
use Rattle.hq_kept.specs.declared.account.Entry.{Entry}
use Rattle.hq_kept.specs.declared.account.Head.{Head}
use Rattle.hq_kept.specs.declared.message.Message.{Message}
use Rattle.hq_kept.specs.declared.outcome.Fate.TheVariants as fate
use Rattle.hq_rules.specs.QueueReports.{report_text}
use Rattle.hq_tables.specs.Sound.{pending_count}
use Rattle.hq_tables.specs.declared.change.Change.{Change}
use Rattle.hq_tables.specs.declared.change.Change.TheVariants.{PutHead, PutMessage, DropMessage}
use Rattle.hq_rules.specs.Answering.{tell}
use Rattle.hq_rules.specs.Histories.{kept_history}
use Rattle.hq_rules.specs.Messages.{with_deleted}
use Rattle.hq_rules.specs.declared.answer.Answer.TheVariants as answer
use Rattle.hq_rules.specs.declared.decision.Decision.{Decision}
use Rattle.hq_rules.specs.declared.call.Move.{Move}
use Rattle.hq_rules.specs.declared.call.Move.TheVariants.{Hold, Release}

-- ---- hold and release of all

-- the message after a move, or nothing where the move does not apply
abbrev pub moved_by : Move → Message → Option Message
moved_by Hold m = held customer_hold m
moved_by (Release at) m = released at m

-- a message that a move applies to is put as it is then
abbrev pub put : Option Message → List Change
put None = []
put (Some m) = PutMessage m ∷ []

-- the changes of all, each moved by itself
abbrev pub moves_of : Move → List Message → List Change
moves_of move ms = flat_map (λ m. put (moved_by move m)) ms

-- told is how many messages the move changes
abbrev pub move_all : Move → List Message → Decision
move_all move ms = record {
  answer = answer.Changed (length (moves_of move ms));
  changes = moves_of move ms;
}

-- ---- the deletion of all

abbrev pub drop : Message → Change
drop m = DropMessage m.serial

abbrev pub all_deleted : Entry → ℕ → Head → List Message → Decision
all_deleted entry at after ms = record {
  answer = answer.Changed (length ms);
  changes = map drop ms ++ PutHead after
      ∷ kept_history entry at after (flat_map (all_ended fate.Deleted) ms);
}

-- where there is no message, nothing is changed
abbrev pub delete_all : Entry → ℕ → Head → List Message → Decision
delete_all entry at head ms = if length ms == 0 then tell (answer.Changed 0) else
    all_deleted entry at (with_deleted (pending_count ms) head) ms

-- ---- what a customer has on the desk

abbrev pub usage : Head → Counts → List Message → Decision
usage head counts ms = tell (answer.Used (record {
  counts = counts;
  pending = pending_count ms;
  tally = head.tally;
}))

-- how much it may keep
abbrev pub limits : Entry → Decision
limits entry = tell (answer.Allowed (record {
  bytes = entry.quota.bytes;
  delay = entry.delay;
  history = entry.history;
  lines = entry.quota.lines;
  messages = entry.quota.messages;
  notices = entry.quota.notices;
}))

-- each accepted recipient is pending, or what became of it is tallied
abbrev pub AreTold : Head → List Message → Type 0
AreTold head ms = head.tally.accepted ≡ pending_count ms + head.tally.delivered + head.tally.failed
    + head.tally.deleted + head.tally.expired

-- ---- the queue report

abbrev pub report : List Message → Decision
report ms = tell (answer.Reported (report_text ms))

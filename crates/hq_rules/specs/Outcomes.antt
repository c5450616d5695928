-- What the desk answers and changes on the report of a delivery attempt; and which messages may be
-- tried (qmgr(8)).
use Rattle.std.specs.Prelude.{ℕ, ◌+◌, nat_lt, List, [], ◌∷◌, length, take, Option, None, Some}
use Rattle.std.specs.Prelude.{Result, Ok, Err}
use Rattle.hq_values.specs.declared.failure.Refusal.{Refusal}
use Rattle.hq_values.specs.declared.failure.Refusal.TheVariants.{NoMessage}
use Rattle.hq_rules.specs.Attempts.{reported}
use Rattle.hq_kept.specs.declared.account.Entry.{Entry}
use Rattle.hq_kept.specs.declared.account.Head.{Head}
use Rattle.hq_kept.specs.declared.message.Message.{Message}
use Rattle.hq_kept.specs.declared.message.Pending.{Pending}
use Rattle.hq_kept.specs.declared.outcome.Ended.{Ended}
use Rattle.hq_kept.specs.declared.outcome.Reported.{Reported}
use Rattle.hq_kept.specs.declared.outcome.Reported.TheVariants.{Repeat, Done}
use Rattle.hq_kept.specs.declared.outcome.Told.{Told}
use Rattle.hq_kept.specs.declared.kind.Kind.TheVariants.{Failure}
use Rattle.hq_tables.specs.Readings.{saturated}
use Rattle.hq_tables.specs.declared.change.Change.{Change}
use Rattle.hq_tables.specs.declared.change.Change.TheVariants.{PutMessage, DropMessage}
use Rattle.hq_rules.specs.Answering.{tell, refuse}
use Rattle.hq_rules.specs.Notices.{drafted, carried_out}
use Rattle.hq_rules.specs.declared.answer.Answer.TheVariants as answer
use Rattle.hq_rules.specs.declared.call.AttemptReport.{AttemptReport}
use Rattle.hq_rules.specs.declared.decision.Decision.{Decision}
use Rattle.hq_rules.specs.declared.plan.Plan.{Plan}
use Rattle.hq_rules.specs.Limits.{page_rows}

-- ---- the report of an attempt

-- a message that nobody is left of leaves the queue
abbrev pub put_or_dropped : Message → List Pending → Change
put_or_dropped m [] = DropMessage m.serial
put_or_dropped m (p ∷ ps) = PutMessage m

-- the tally after so many recipients were delivered, and so many failed
abbrev pub with_attempted : ℕ → ℕ → Head → Head
with_attempted delivered failed head = record head {
  tally =
      record head.tally {
        delivered = saturated (head.tally.delivered + delivered);
        failed = saturated (head.tally.failed + failed);
      };
}

-- what is answered and changed where the message is `m` after the attempt; the sender is told of
-- those who failed, and the history of all who left the queue
abbrev pub attempted : Head → Message → ℕ → ℕ → List Told → List Ended → Plan
attempted head m delivered deferred failed ended = record {
  answer = answer.Attempted (record {
    deferred = deferred;
    delivered = delivered;
    failed = length failed;
    left = length m.pending;
  });
  changes = put_or_dropped m m.pending ∷ [];
  head = with_attempted delivered (length failed) head;
  drafts = drafted m Failure failed;
  ended = ended;
}

-- `m` is the message before the attempt
abbrev pub outcome_with : List ℕ → Entry → ℕ → Head → Message →
    Result (Reported × Message) Refusal → Decision
outcome_with host entry at head m (Err refusal) = refuse refusal
outcome_with host entry at head m (Ok (Repeat, after)) = tell (answer.AttemptRepeated m.attempts)
outcome_with host entry at head m (Ok (Done delivered deferred failed ended, after)) =
    carried_out host entry at (attempted head after delivered deferred failed ended)

abbrev pub outcome : List ℕ → Entry → ℕ → Head → AttemptReport → Option Message → Decision
outcome host entry at head report None = refuse NoMessage
outcome host entry at head report (Some m) =
    outcome_with host entry at head m (reported m at report.attempt report.outcomes)

-- ---- what may be tried

-- the first hundred, and whether there are more
abbrev pub due_page : List Message → Decision
due_page ms = tell (answer.DueListed (take page_rows ms) (nat_lt page_rows (length ms)))

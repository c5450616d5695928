-- What the desk answers and changes on a submission, and what it answers before one.
use Rattle.std.specs.Prelude.{ℕ, ◌+◌, false, not, List, [], ◌∷◌, length, map, filter, Option, None}
use Rattle.std.specs.Prelude.{Some, Result, Ok, Err}
use Rattle.hq_values.specs.declared.failure.Refusal.{Refusal}
use Rattle.hq_values.specs.declared.address.Sender.{Sender}
use Rattle.hq_values.specs.declared.address.Sender.TheVariants.{From}
use Rattle.hq_rules.specs.Verdicts.{verdict}
use Rattle.hq_kept.specs.declared.action.Action.{Action}
use Rattle.hq_kept.specs.declared.pattern.Class.TheVariants.{SenderSide, RecipientSide}
use Rattle.hq_rules.specs.declared.verdict.Refused.{Refused}
use Rattle.hq_rules.specs.declared.verdict.Verdict.{Verdict}
use Rattle.hq_rules.specs.declared.verdict.Verdict.TheVariants as verdict
use Rattle.hq_rules.specs.Admission.{admitted}
use Rattle.hq_kept.specs.declared.account.Entry.{Entry}
use Rattle.hq_kept.specs.declared.account.Head.{Head}
use Rattle.hq_kept.specs.declared.message.Message.{Message}
use Rattle.hq_kept.specs.declared.message.Pending.{Pending}
use Rattle.hq_kept.specs.declared.message.QueueState.{QueueState}
use Rattle.hq_kept.specs.declared.message.QueueState.TheVariants.{Incoming, Hold}
use Rattle.hq_tables.specs.Readings.{Readings, saturated}
use Rattle.hq_tables.specs.Sound.{same_address}
use Rattle.hq_tables.specs.declared.change.Change.TheVariants.{PutHead, PutMessage}
use Rattle.hq_rules.specs.AccessLines.{action_for}
use Rattle.hq_rules.specs.Answering.{tell, refuse}
use Rattle.hq_rules.specs.declared.answer.Answer.TheVariants as answer
use Rattle.hq_rules.specs.declared.answer.Answer.{Answer}
use Rattle.hq_rules.specs.declared.call.Envelope.{Envelope}
use Rattle.hq_rules.specs.declared.call.Origin.{Origin}
use Rattle.hq_rules.specs.declared.call.Submission.{Submission}
use Rattle.hq_rules.specs.declared.decision.Decision.{Decision}

-- ---- the verdict

-- each address, without the later ones that are the same
abbrev pub distinct : List (List ℕ) → List (List ℕ)
distinct [] = []
distinct (a ∷ rest) = a ∷ filter (λ b. not (same_address a b)) (distinct rest)

-- a recipient with the action that is found for it
abbrev pub with_action : Readings → List ℕ → List ℕ × Option Action
with_action readings recipient = (recipient, action_for readings RecipientSide (From recipient))

-- the verdict on a submission whose recipients are these, by the customer's access tables
abbrev pub judged : Readings → Sender → List (List ℕ) → Verdict
judged readings sender recipients = verdict (action_for readings SenderSide sender) sender
    (map (with_action readings) recipients)

-- ---- a message taken in

-- who gets it: the address of a redirect alone, or else all that are kept
abbrev pub receivers : List (List ℕ) → Option (List ℕ) → List (List ℕ)
receivers kept None = kept
receivers kept (Some address) = address ∷ []

-- on hold, where an action holds it
abbrev pub first_state : Option (List ℕ) → QueueState
first_state None = Incoming
first_state (Some text) = Hold

-- for the reason of that action
abbrev pub first_reason : Option (List ℕ) → List ℕ
first_reason None = []
first_reason (Some text) = text

abbrev pub not_tried : List ℕ → Pending
not_tried address = record { address = address; status = None; text = [] }

-- what it says beside its recipients
abbrev pub origin_of : Submission → Origin
origin_of sub = record { spool = sub.spool; sender = sub.sender; size = sub.size }

abbrev pub new_message : ℕ → ℕ → Origin → List (List ℕ) → Option (List ℕ) → Message
new_message serial at origin addresses held = record {
  serial = serial;
  sender = origin.sender;
  spool = origin.spool;
  size = origin.size;
  arrival = at;
  state = first_state held;
  reason = first_reason held;
  next_try = at;
  attempts = 0;
  warned = false;
  pending = map not_tried addresses;
}

-- the head after a message of so many recipients was queued
abbrev pub head_with_message : ℕ → Head → Head
head_with_message count head = record head {
  next_serial = head.next_serial + 1;
  tally = record head.tally { accepted = saturated (head.tally.accepted + count) };
}

abbrev pub enqueued : Head → Message → List Refused → Decision
enqueued head m refused = record {
  answer = answer.Queued m refused;
  changes = PutHead (head_with_message (length m.pending) head) ∷ PutMessage m ∷ [];
}

-- ---- submit

abbrev pub admit : Head → ℕ → Origin → List (List ℕ) → Option (List ℕ) → List Refused →
    Result ℕ Refusal → Decision
admit head at origin addresses held refused (Err refusal) = refuse refusal
admit head at origin addresses held refused (Ok serial) =
    enqueued head (new_message serial at origin addresses held) refused

-- a rejected or discarded submission uses no serial
abbrev pub settled : Head → ℕ → Origin → Result ℕ Refusal → Verdict → Decision
settled head at origin serial (verdict.Rejected refused) = tell (answer.Rejected refused)
settled head at origin serial (verdict.Discarded refused) = tell (answer.Discarded refused)
settled head at origin serial (verdict.Queue kept refused redirect held) =
    admit head at origin (receivers kept redirect) held refused serial

-- a spool name that is queued already is a repeat, whatever the access tables say
abbrev pub submit : Entry → Readings → ℕ → Submission → Option Message → Decision
submit entry readings at sub (Some m) = tell (answer.Repeated m.serial)
submit entry readings at sub None =
    settled readings.head at (origin_of sub)
    (admitted readings.head entry.quota readings.counts sub.size)
    (judged readings sub.sender (distinct sub.recipients))

-- ---- what a submission would be answered

-- the reply to a submission, without the queue ID
abbrev pub without_id : Answer → Answer
without_id (answer.Queued m refused) =
    answer.Admissible (map (λ (p : Pending). p.address) m.pending) refused m.state
without_id told = told

-- what a submission is judged by
abbrev pub envelope_of : Submission → Envelope
envelope_of sub = record {
  sender = sub.sender;
  recipients = sub.recipients;
  size = sub.size;
  number = sub.number;
  limit = sub.limit;
}

-- only where it would be queued the quota counts
abbrev pub would_answer : Result ℕ Refusal → Verdict → Answer
would_answer serial (verdict.Rejected refused) = answer.Rejected refused
would_answer serial (verdict.Discarded refused) = answer.Discarded refused
would_answer (Err refusal) (verdict.Queue kept refused redirect held) = answer.Refused refusal
would_answer (Ok serial) (verdict.Queue kept refused redirect held) =
    answer.Admissible (receivers kept redirect) refused (first_state held)

abbrev pub dry_run : Entry → Readings → Envelope → Decision
dry_run entry readings envelope = tell (would_answer
    (admitted readings.head entry.quota readings.counts envelope.size)
    (judged readings envelope.sender (distinct envelope.recipients)))

-- The report of a delivery attempt: what it makes of a message, recipient by recipient, or why it
-- is refused.
use Rattle.std.specs.Prelude.{ℕ, ◌≡◌, ◌+◌, ◌==◌, Bool, true, false, not, ◌||◌, nat_le, nat_lt}
use Rattle.std.specs.Prelude.{if◌then◌else◌, List, [], ◌∷◌, length, Option, None, Some, Result, Ok}
use Rattle.std.specs.Prelude.{Err}
use Rattle.std.specs.List.{find, filter_map, count_by, list_any}
use Rattle.hq_values.specs.Refusals.{no_memory}
use Rattle.hq_values.specs.declared.failure.Fail.{Fail}
use Rattle.hq_values.specs.declared.failure.Fail.TheVariants as fail
use Rattle.hq_values.specs.declared.failure.Refusal.{Refusal}
use Rattle.hq_values.specs.declared.failure.Refusal.TheVariants.{AttemptAhead, NoOutcome}
use Rattle.hq_values.specs.declared.failure.Refusal.TheVariants.{DoubledRecipient, UnknownRecipient}
use Rattle.hq_values.specs.Addresses.{same_address}
use Rattle.hq_rules.specs.Backoff.{next_try}
use Rattle.hq_rules.specs.Leaving.{ended_as}
use Rattle.hq_kept.specs.declared.message.Message.{Message}
use Rattle.hq_kept.specs.declared.message.Pending.{Pending}
use Rattle.hq_kept.specs.declared.message.QueueState.{QueueState}
use Rattle.hq_kept.specs.declared.message.QueueState.TheVariants.{Incoming, Deferred, Hold}
use Rattle.hq_kept.specs.declared.outcome.Delivery.{Delivery}
use Rattle.hq_kept.specs.declared.outcome.Delivery.TheVariants as delivery
use Rattle.hq_kept.specs.declared.outcome.Ended.{Ended}
use Rattle.hq_kept.specs.declared.outcome.Fate.TheVariants as fate
use Rattle.hq_kept.specs.declared.outcome.Outcome.{Outcome}
use Rattle.hq_kept.specs.declared.outcome.Told.{Told}
use Rattle.hq_kept.specs.declared.outcome.Reported.{Reported}
use Rattle.hq_kept.specs.declared.outcome.Reported.TheVariants.{Repeat, Done}

-- ---- one recipient: by the outcome that names it, if there is one

abbrev pub outcome_of : List Outcome → Pending → Option Outcome
outcome_of outcomes p = find (λ (o : Outcome). same_address o.address p.address) outcomes

abbrev pub left_by : Pending → Delivery → Option Pending
left_by p (delivery.Delivered status text) = None
left_by p (delivery.Deferred status text) = Some (record p { status = Some status; text = text })
left_by p (delivery.Failed status text) = None

-- what is left of a recipient: one that no outcome names stays as it is
abbrev pub left_with : Pending → Option Outcome → Option Pending
left_with p None = Some p
left_with p (Some o) = left_by p o.result

abbrev pub told_by : Pending → Delivery → Option Told
told_by p (delivery.Delivered status text) = None
told_by p (delivery.Deferred status text) = None
told_by p (delivery.Failed status text) = Some (record {
  address = p.address;
  status = status;
  text = text;
})

-- what is told of a recipient that failed, as the message spells it
abbrev pub told_with : Pending → Option Outcome → Option Told
told_with p None = None
told_with p (Some o) = told_by p o.result

abbrev pub ended_by : Message → Pending → Delivery → Option Ended
ended_by m p (delivery.Delivered status text) =
    Some (record (ended_as fate.Delivered m p) { status = status; text = text })
ended_by m p (delivery.Deferred status text) = None
ended_by m p (delivery.Failed status text) =
    Some (record (ended_as fate.Failed m p) { status = Some status; text = text })

-- what is kept of a recipient of a message that left the queue
abbrev pub ended_with : Message → Pending → Option Outcome → Option Ended
ended_with m p None = None
ended_with m p (Some o) = ended_by m p o.result

abbrev pub is_delivered : Delivery → Bool
is_delivered (delivery.Delivered status text) = true
is_delivered (delivery.Deferred status text) = false
is_delivered (delivery.Failed status text) = false

abbrev pub delivered_with : Option Outcome → Bool
delivered_with None = false
delivered_with (Some o) = is_delivered o.result

abbrev pub is_deferred : Delivery → Bool
is_deferred (delivery.Delivered status text) = false
is_deferred (delivery.Deferred status text) = true
is_deferred (delivery.Failed status text) = false

abbrev pub deferred_with : Option Outcome → Bool
deferred_with None = false
deferred_with (Some o) = is_deferred o.result

-- ---- all recipients, in the order of the message

-- who is still pending
abbrev pub left : List Outcome → List Pending → List Pending
left outcomes ps = filter_map (λ (p : Pending). left_with p (outcome_of outcomes p)) ps

-- who failed
abbrev pub failed : List Outcome → List Pending → List Told
failed outcomes ps = filter_map (λ (p : Pending). told_with p (outcome_of outcomes p)) ps

-- who left the queue
abbrev pub ended : Message → List Outcome → List Pending → List Ended
ended m outcomes ps = filter_map (λ (p : Pending). ended_with m p (outcome_of outcomes p)) ps

-- how many were delivered
abbrev pub delivered : List Outcome → List Pending → ℕ
delivered outcomes ps = count_by (λ (p : Pending). delivered_with (outcome_of outcomes p)) ps

-- how many were deferred
abbrev pub deferred : List Outcome → List Pending → ℕ
deferred outcomes ps = count_by (λ (p : Pending). deferred_with (outcome_of outcomes p)) ps

-- ---- a report

-- two outcomes name the same address
abbrev pub is_doubled : List Outcome → Bool
is_doubled [] = false
is_doubled (o ∷ os) = list_any (λ (x : Outcome). same_address o.address x.address) os
    || is_doubled os

-- an outcome names nobody who is pending
abbrev pub is_unknown : List Pending → Outcome → Bool
is_unknown ps o = not (list_any (λ (p : Pending). same_address o.address p.address) ps)

-- an incoming message is deferred by its first attempt; one on hold stays there
abbrev pub tried : QueueState → QueueState
tried Incoming = Deferred
tried Deferred = Deferred
tried Hold = Hold

abbrev pub after_attempt : Message → ℕ → ℕ → List Outcome → Message
after_attempt m at attempt outcomes = record m {
  state = tried m.state;
  next_try = next_try m.arrival at;
  attempts = attempt;
  pending = left outcomes m.pending;
}

abbrev pub done : Message → List Outcome → Reported
done m outcomes = Done (delivered outcomes m.pending) (deferred outcomes m.pending)
    (failed outcomes m.pending) (ended m outcomes m.pending)

-- what is answered to the report of an attempt, with the message after it; or why it is refused
abbrev pub reported : Message → ℕ → ℕ → List Outcome → Result (Reported × Message) Refusal
reported m at attempt outcomes =
    if nat_le attempt m.attempts then Ok (Repeat, m) else
    (if nat_lt (m.attempts + 1) attempt then Err (AttemptAhead m.attempts) else
    (if length outcomes == 0 then Err NoOutcome else
    (if is_doubled outcomes then Err DoubledRecipient else
    (if list_any (is_unknown m.pending) outcomes then Err UnknownRecipient else
    Ok (done m outcomes, after_attempt m at attempt outcomes)))))

-- What a report does by its rule: its answer and its message; or its refusal, or want of memory,
-- for this reason, and the message is as it was.
abbrev pub Reports : Type 0 → Result (Reported × Message) Refusal → Message → Message →
    Result Reported Fail → Type 0
Reports refused rule old new (Ok answer) = rule ≡ Ok (answer, new)
Reports refused rule old new (Err (fail.Refused refusal)) = (rule ≡ Err refusal) × (new ≡ old)
Reports refused rule old new (Err (fail.Fault fault)) =
    (fault ≡ no_memory) × refused × (new ≡ old)

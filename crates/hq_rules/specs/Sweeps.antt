-- What the desk answers and changes on a sweep of one customer's queue: each message by itself, in
-- order of serial.
use Rattle.std.specs.Prelude.{ℕ, ◌+◌, ◌==◌, Bool, true, false, List, [], ◌∷◌, map, length}
use Rattle.std.specs.Prelude.{if◌then◌else◌, ◌&&◌, Option, unwrap_or}
use Rattle.std.specs.List.{sum_by, count_by, flat_map}
use Rattle.hq_rules.specs.Leaving.{all_ended}
use Rattle.hq_kept.specs.Statuses.{unknown_status, expired_status}
use Rattle.hq_rules.specs.Ages.{swept, after_sweep}
use Rattle.hq_kept.specs.declared.account.Entry.{Entry}
use Rattle.hq_kept.specs.declared.account.Head.{Head}
use Rattle.hq_kept.specs.declared.message.Message.{Message}
use Rattle.hq_kept.specs.declared.message.Pending.{Pending}
use Rattle.hq_kept.specs.declared.outcome.Ended.{Ended}
use Rattle.hq_kept.specs.declared.outcome.Fate.TheVariants as fate
use Rattle.hq_kept.specs.declared.outcome.Told.{Told}
use Rattle.hq_rules.specs.declared.swept.Swept.{Swept}
use Rattle.hq_rules.specs.declared.swept.Swept.TheVariants.{Expired, Warned, Untouched}
use Rattle.hq_kept.specs.declared.kind.Kind.{Kind}
use Rattle.hq_kept.specs.declared.kind.Kind.TheVariants.{Failure, Delay}
use Rattle.hq_tables.specs.Readings.{saturated}
use Rattle.hq_tables.specs.declared.change.Change.{Change}
use Rattle.hq_tables.specs.declared.change.Change.TheVariants.{PutMessage, DropMessage}
use Rattle.hq_rules.specs.Answering.{tell}
use Rattle.hq_rules.specs.Notices.{drafted, carried_out}
use Rattle.hq_rules.specs.declared.answer.Answer.TheVariants as answer
use Rattle.hq_rules.specs.declared.decision.Decision.{Decision}
use Rattle.hq_rules.specs.declared.plan.Draft.{Draft}
use Rattle.hq_rules.specs.declared.plan.Plan.{Plan}

-- ---- one message

-- a message as a sweep leaves it, with what the sweep made of it
abbrev pub message_met : ℕ → ℕ → Message → Message × Swept
message_met at delay m = (after_sweep (swept at delay m) m, swept at delay m)

abbrev pub changed_by : Message × Swept → List Change
changed_by (m, Expired) = DropMessage m.serial ∷ []
changed_by (m, Warned) = PutMessage m ∷ []
changed_by (m, Untouched) = []

-- why a recipient is told of: its time has run out; or it is delayed, and that is why
abbrev pub status_told : Kind → Option (List ℕ) → List ℕ
status_told Failure status = expired_status
status_told Delay status = unwrap_or status unknown_status

-- with what was said of it last
abbrev pub last_told : Kind → Pending → Told
last_told kind p = record { address = p.address; status = status_told kind p.status; text = p.text }

-- its sender is told of all its recipients
abbrev pub drafts_of : Message × Swept → List Draft
drafts_of (m, Expired) = drafted m Failure (map (last_told Failure) m.pending)
drafts_of (m, Warned) = drafted m Delay (map (last_told Delay) m.pending)
drafts_of (m, Untouched) = []

-- how many recipients are given up
abbrev pub given_up : Message × Swept → ℕ
given_up (m, Expired) = length m.pending
given_up (m, _) = 0

-- and who they are
abbrev pub ended_in : Message × Swept → List Ended
ended_in (m, Expired) = all_ended fate.Expired m
ended_in (m, _) = []

abbrev pub is_made : Swept → Swept → Bool
is_made Expired Expired = true
is_made Warned Warned = true
is_made Untouched Untouched = true
is_made _ _ = false

-- ---- all of them

-- of how many messages the sweep made this
abbrev pub messages_that : Swept → List (Message × Swept) → ℕ
messages_that made rows = count_by (λ (row : Message × Swept). is_made made row.1) rows

-- the tally after so many recipients were given up
abbrev pub with_expired : ℕ → Head → Head
with_expired count head = record head {
  tally = record head.tally { expired = saturated (head.tally.expired + count) };
}

abbrev pub swept_all : Head → List (Message × Swept) → ℕ → ℕ → Plan
swept_all head rows expired warned = record {
  answer = answer.Swept (record {
    expired = expired;
    notices = length (flat_map drafts_of rows);
    warned = warned;
  });
  changes = flat_map changed_by rows;
  head = with_expired (sum_by given_up rows) head;
  drafts = flat_map drafts_of rows;
  ended = flat_map ended_in rows;
}

abbrev pub is_none_changed : ℕ → ℕ → Bool
is_none_changed expired warned = expired == 0 && warned == 0

-- where no message is changed, nothing is
abbrev pub sweep_with : List ℕ → Entry → ℕ → Head → List (Message × Swept) → ℕ → ℕ → Decision
sweep_with host entry at head rows expired warned =
    if is_none_changed expired warned then tell (answer.Swept
    (record { expired = 0; notices = 0; warned = 0 })) else
    carried_out host entry at (swept_all head rows expired warned)

abbrev pub sweep_rows : List ℕ → Entry → ℕ → Head → List (Message × Swept) → Decision
sweep_rows host entry at head rows = sweep_with host entry at head rows (messages_that Expired rows)
    (messages_that Warned rows)

abbrev pub sweep : List ℕ → Entry → ℕ → Head → List Message → Decision
sweep host entry at head ms = sweep_rows host entry at head (map (message_met at entry.delay) ms)

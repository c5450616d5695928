-- The body of each answer, as a JSON value with its members in the order of their names; its bytes
-- are the compact text of the value, as `serde_json` writes it.
use Rattle.std.specs.Prelude.{ℕ, Bool, List, [], ◌∷◌, map, length, codes, Option, None, Some}
use Rattle.serde_json.specs.Data.{Data, boolean, string, array}
use Rattle.serde_json.specs.View.{items_of}
use Rattle.serde_json.specs.Written.{compact_text}
use Rattle.hq_values.specs.Refusals.{refusal_number, refusal_name}
use Rattle.hq_values.specs.Senders.{sender_text}
use Rattle.hq_values.specs.declared.failure.Refusal.{Refusal}
use Rattle.hq_values.specs.declared.failure.Refusal.TheVariants.{AttemptAhead, BadCsv}
use Rattle.hq_values.specs.declared.failure.Refusal.TheVariants.{DoubledPattern}
use Rattle.hq_values.specs.declared.failure.Refusal.TheVariants.{BadDirectory, DoubledName}
use Rattle.hq_values.specs.declared.failure.Refusal.TheVariants.{DoubledKey}
use Rattle.hq_rules.specs.declared.verdict.Refused.{Refused}
use Rattle.hq_kept.specs.declared.message.Message.{Message}
use Rattle.hq_kept.specs.declared.message.Pending.{Pending}
use Rattle.hq_kept.specs.declared.message.QueueState.{QueueState}
use Rattle.hq_kept.specs.declared.message.QueueState.TheVariants.{Incoming, Deferred, Hold}
use Rattle.hq_rules.specs.declared.answer.Answer.{Answer}
use Rattle.hq_rules.specs.declared.answer.Answer.TheVariants as answer
use Rattle.hq_json.specs.AttemptReplies.{attempt_json, attempt_repeated, due_listed, sweep_json}
use Rattle.hq_json.specs.HistoryReplies.{history_listed, history_found}
use Rattle.hq_json.specs.NoticeReplies.{notices_listed, notice_json}
use Rattle.hq_json.specs.Objects.{having, count, id, addresses, texts}
use Rattle.hq_json.specs.QueueReplies.{used, allowed, report_json}
use Rattle.hq_json.specs.TableReplies.{refused_list, lines_listed, line_put, line_dropped}
use Rattle.hq_json.specs.TableReplies.{check_json, import_json}

-- ---- refusals

-- the number and the name
abbrev pub refusal_json : Refusal → Data
refusal_json r = having (
    (codes "error", count (refusal_number r)) ∷
    (codes "name", string (refusal_name r)) ∷
    [])

-- the row behind them
abbrev pub refused_at : Refusal → ℕ → Data
refused_at r row = having (
    (codes "error", count (refusal_number r)) ∷
    (codes "name", string (refusal_name r)) ∷
    (codes "row", count row) ∷
    [])

-- the attempts before them
abbrev pub refused_after : Refusal → ℕ → Data
refused_after r attempts = having (
    (codes "attempts", count attempts) ∷
    (codes "error", count (refusal_number r)) ∷
    (codes "name", string (refusal_name r)) ∷
    [])

abbrev pub refusal_data : Refusal → Data
refusal_data (AttemptAhead attempts) = refused_after (AttemptAhead attempts) attempts
refusal_data (BadCsv row) = refused_at (BadCsv row) row
refusal_data (DoubledPattern row) = refused_at (DoubledPattern row) row
refusal_data (BadDirectory row) = refused_at (BadDirectory row) row
refusal_data (DoubledName row) = refused_at (DoubledName row) row
refusal_data (DoubledKey row) = refused_at (DoubledKey row) row
refusal_data r = refusal_json r

-- ---- messages

abbrev pub state_name : QueueState → List ℕ
state_name Incoming = codes "incoming"
state_name Deferred = codes "deferred"
state_name Hold = codes "hold"

-- a message in a list; the reason is empty where it is not on hold
unfoldable pub entry : Message → Data
entry m = having (
    (codes "arrival", count m.arrival) ∷
    (codes "id", id m.serial) ∷
    (codes "reason", string m.reason) ∷
    (codes "recipients", count (length m.pending)) ∷
    (codes "sender", string (sender_text m.sender)) ∷
    (codes "size", count m.size) ∷
    (codes "state", string (state_name m.state)) ∷
    [])

-- the status, or the empty text where there is none
abbrev pub status_shown : Option (List ℕ) → List ℕ
status_shown None = []
status_shown (Some status) = status

abbrev pub pending_entry : Pending → Data
pending_entry p = having (
    (codes "address", string p.address) ∷
    (codes "status", string (status_shown p.status)) ∷
    (codes "text", string p.text) ∷
    [])

abbrev pub pending_list : List Pending → Data
pending_list ps = array (items_of (map pending_entry ps))

-- a message shown whole; the reason is empty where it is not on hold
unfoldable pub message_json : Message → Data
message_json m = having (
    (codes "arrival", count m.arrival) ∷
    (codes "attempts", count m.attempts) ∷
    (codes "id", id m.serial) ∷
    (codes "next_try", count m.next_try) ∷
    (codes "pending", pending_list m.pending) ∷
    (codes "reason", string m.reason) ∷
    (codes "sender", string (sender_text m.sender)) ∷
    (codes "size", count m.size) ∷
    (codes "spool", string m.spool) ∷
    (codes "state", string (state_name m.state)) ∷
    (codes "warned", boolean m.warned) ∷
    [])

unfoldable pub listed : List Message → Bool → Data
listed ms more = having (
    (codes "messages", array (items_of (map entry ms))) ∷
    (codes "more", boolean more) ∷
    [])

-- ---- submissions

unfoldable pub queued : Message → List Refused → Data
queued m refused = having (
    (codes "id", id m.serial) ∷
    (codes "recipients", addresses m.pending) ∷
    (codes "refused", refused_list refused) ∷
    (codes "state", string (state_name m.state)) ∷
    (codes "verdict", string (codes "queued")) ∷
    [])

-- as a submission would be answered, without the queue ID
unfoldable pub admissible : List (List ℕ) → List Refused → QueueState → Data
admissible receivers refused state = having (
    (codes "recipients", texts receivers) ∷
    (codes "refused", refused_list refused) ∷
    (codes "state", string (state_name state)) ∷
    (codes "verdict", string (codes "queued")) ∷
    [])

-- queued anew, under this queue ID
abbrev pub requeue_json : ℕ → Data
requeue_json serial = having ((codes "id", id serial) ∷ [])

abbrev pub repeat_json : ℕ → Data
repeat_json serial = having ((codes "id", id serial) ∷ (codes "verdict", string (codes "repeat"))
    ∷ [])

abbrev pub rejected : List Refused → Data
rejected refused = having ((codes "refused", refused_list refused)
    ∷ (codes "verdict", string (codes "rejected")) ∷ [])

abbrev pub discarded : List Refused → Data
discarded refused = having ((codes "refused", refused_list refused)
    ∷ (codes "verdict", string (codes "discarded")) ∷ [])

abbrev pub changed : ℕ → Data
changed n = having ((codes "changed", count n) ∷ [])

-- ---- every answer

abbrev pub answer_data : Answer → Data
answer_data (answer.Refused r) = refusal_data r
answer_data (answer.Queued m refused) = queued m refused
answer_data (answer.Admissible receivers refused state) = admissible receivers refused state
answer_data (answer.Repeated serial) = repeat_json serial
answer_data (answer.Requeued serial) = requeue_json serial
answer_data (answer.Listed ms more) = listed ms more
answer_data (answer.Shown m) = message_json m
answer_data (answer.Changed n) = changed n
answer_data (answer.Rejected refused) = rejected refused
answer_data (answer.Discarded refused) = discarded refused
answer_data (answer.LinesListed lines more) = lines_listed lines more
answer_data (answer.LinePut done) = line_put done
answer_data answer.LineDropped = line_dropped
answer_data (answer.Checked keys found) = check_json keys found
answer_data (answer.Imported counts) = import_json counts
answer_data (answer.Attempted counts) = attempt_json counts
answer_data (answer.AttemptRepeated attempts) = attempt_repeated attempts
answer_data (answer.DueListed ms more) = due_listed ms more
answer_data (answer.Swept counts) = sweep_json counts
answer_data (answer.NoticesListed ns more) = notices_listed ns more
answer_data (answer.NoticeShown n) = notice_json n
answer_data (answer.HistoryListed es more) = history_listed es more
answer_data (answer.HistoryFound es next) = history_found es next
answer_data (answer.Used usage) = used usage
answer_data (answer.Allowed most) = allowed most
answer_data (answer.Reported text) = report_json text

-- the bytes of an answer
unfoldable pub answer_text : Answer → List ℕ
answer_text a = compact_text (answer_data a)

-- The body of the report of an attempt: {"id", "attempt", "outcomes"}, and each outcome
-- {"recipient", "result", "status", "text"}. Every member of every outcome is looked at before any
-- value is read.
use Rattle.std.specs.Prelude.{ℕ, ◌==◌, nat_le, List, [], ◌∷◌, length, codes, bytes_eq, Option}
use Rattle.std.specs.Prelude.{Some, None, option_and_then, Result, Ok, Err, if◌then◌else◌}
use Rattle.std.specs.Result.{result_ok, result_unwrap_or}
use Rattle.serde_json.specs.Data.{Data, Items, no_items, item}
use Rattle.serde_json.specs.Find.{get, as_array, as_object}
use Rattle.hq_values.specs.Readers.{◌>>=◌, guard, or_refuse, seen_by}
use Rattle.hq_values.specs.Serials.{serial_in}
use Rattle.hq_values.specs.declared.failure.Refusal.{Refusal}
use Rattle.hq_values.specs.declared.failure.Refusal.TheVariants.{BadJson, BadField, BadStatus}
use Rattle.hq_values.specs.Addresses.{address_in}
use Rattle.hq_values.specs.Words.{text_in}
use Rattle.hq_kept.specs.Statuses.{status_in, first_digit}
use Rattle.hq_kept.specs.declared.outcome.Delivery.{Delivery}
use Rattle.hq_kept.specs.declared.outcome.Delivery.TheVariants as delivery
use Rattle.hq_kept.specs.declared.outcome.Outcome.{Outcome}
use Rattle.hq_rules.specs.declared.call.AttemptReport.{AttemptReport}
use Rattle.hq_bodies.specs.Reading.{json_of, has_only_members, text_at, number_at}
use Rattle.hq_bodies.specs.declared.outcomes.AttemptTexts.{AttemptTexts}
use Rattle.hq_bodies.specs.declared.outcomes.DeliveryTexts.{DeliveryTexts}
use Rattle.hq_bodies.specs.declared.outcomes.DeliveryTexts.TheVariants.{Delivered, Deferred, Failed}
use Rattle.hq_bodies.specs.declared.outcomes.OutcomeTexts.{OutcomeTexts}
use Rattle.hq_bodies.specs.declared.outcomes.ReasonTexts.{ReasonTexts}
use Rattle.hq_kept.specs.Limits.{most_recipients}

-- ---- the members, each of its kind

abbrev pub serial_at : Data → Option ℕ
serial_at d = option_and_then serial_in (text_at (codes "id") d)

-- a number of digits alone
abbrev pub attempt_at : Data → Option ℕ
attempt_at d = number_at (codes "attempt") 1 1000000 d

unfoldable pub reason_at : Data → Result ReasonTexts Refusal
reason_at d = do
  status ← or_refuse BadField (text_at (codes "status") d)
  text ← or_refuse BadField (text_at (codes "text") d)
  Ok (record { status = status; text = text })

-- what became of a recipient, by its word; one that was delivered needs no status and no text
unfoldable pub delivery_at : List ℕ → Data → Result DeliveryTexts Refusal
delivery_at word d =
    if bytes_eq word (codes "delivered") then Ok (Delivered (result_ok (reason_at d))) else
    (if bytes_eq word (codes "deferred") then seen_by Deferred (reason_at d) else
    (if bytes_eq word (codes "failed") then seen_by Failed (reason_at d) else
    Err BadField))

abbrev pub entry_names : List (List ℕ)
entry_names = codes "recipient" ∷ codes "result" ∷ codes "status" ∷ codes "text" ∷ []

unfoldable pub outcome_texts : Data → Result OutcomeTexts Refusal
outcome_texts d = do
  known ← guard (has_only_members entry_names (as_object d)) BadField
  recipient ← or_refuse BadField (text_at (codes "recipient") d)
  word ← or_refuse BadField (text_at (codes "result") d)
  result ← delivery_at word d
  Ok (record { recipient = recipient; result = result })

unfoldable pub entries_of : Items → Result (List OutcomeTexts) Refusal
entries_of no_items = Ok []
entries_of (item d ds) = do
  first ← outcome_texts d
  rest ← entries_of ds
  Ok (first ∷ rest)

-- at most 100
unfoldable pub entries_at : Data → Result (List OutcomeTexts) Refusal
entries_at d = do
  items ← or_refuse BadField (option_and_then as_array (get (codes "outcomes") d))
  entries ← entries_of items
  few ← guard (nat_le (length entries) most_recipients) BadField
  Ok entries

abbrev pub report_names : List (List ℕ)
report_names = codes "id" ∷ codes "attempt" ∷ codes "outcomes" ∷ []

unfoldable pub report_of : Data → Result AttemptTexts Refusal
report_of d = do
  known ← guard (has_only_members report_names (as_object d)) BadField
  serial ← or_refuse BadField (serial_at d)
  attempt ← or_refuse BadField (attempt_at d)
  outcomes ← entries_at d
  Ok (record { serial = serial; attempt = attempt; outcomes = outcomes })

-- ---- their values

-- a status of this class: 2 for a success, 4 for a failure that may pass, 5 for one for good
-- (RFC 3463, 3.1)
unfoldable pub status_of_class : ℕ → List ℕ → Result (List ℕ) Refusal
status_of_class class text = do
  status ← status_in text
  right ← guard (first_digit status == class) BadStatus
  Ok status

unfoldable pub success_in : ReasonTexts → Result Delivery Refusal
success_in reason = do
  status ← status_of_class 2 reason.status
  text ← text_in reason.text
  Ok (delivery.Delivered (Some status) text)

-- what was told of one that was delivered, where both are of their form; else nothing was
abbrev pub delivered_in : Option ReasonTexts → Delivery
delivered_in None = delivery.Delivered None []
delivered_in (Some reason) = result_unwrap_or (success_in reason) (delivery.Delivered None [])

-- what became of a recipient
unfoldable pub delivery_in : DeliveryTexts → Result Delivery Refusal
delivery_in (Delivered reason) = Ok (delivered_in reason)
delivery_in (Deferred reason) = do
  status ← status_of_class 4 reason.status
  text ← text_in reason.text
  Ok (delivery.Deferred status text)
delivery_in (Failed reason) = do
  status ← status_of_class 5 reason.status
  text ← text_in reason.text
  Ok (delivery.Failed status text)

unfoldable pub outcome_in : OutcomeTexts → Result Outcome Refusal
outcome_in entry = do
  address ← address_in entry.recipient
  result ← delivery_in entry.result
  Ok (record { address = address; result = result })

unfoldable pub outcomes_in : List OutcomeTexts → Result (List Outcome) Refusal
outcomes_in [] = Ok []
outcomes_in (entry ∷ entries) = do
  first ← outcome_in entry
  rest ← outcomes_in entries
  Ok (first ∷ rest)

-- JSON, then the members, then their values
unfoldable pub read_report : List ℕ → Result AttemptReport Refusal
read_report bytes = do
  d ← or_refuse BadJson (json_of bytes)
  report ← report_of d
  outcomes ← outcomes_in report.outcomes
  Ok (record { serial = report.serial; attempt = report.attempt; outcomes = outcomes })

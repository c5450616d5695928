-- The verdict on a submission (access(5), ACCEPT ACTIONS, REJECT ACTIONS, OTHER ACTIONS; which of
-- several actions counts is this product's own).
use Rattle.std.specs.Prelude.{ℕ, Bool, true, false, not, List, [], ◌∷◌, map, filter}
use Rattle.std.specs.Prelude.{if◌then◌else◌, Option, Some, None, option_map, is_some}
use Rattle.std.specs.List.{filter_map, last_or, list_any}
use Rattle.hq_values.specs.Words.{denied, table_hold, try_later}
use Rattle.hq_values.specs.declared.address.Sender.{Sender}
use Rattle.hq_values.specs.declared.address.Sender.TheVariants.{From}
use Rattle.hq_kept.specs.declared.action.Action.{Action}
use Rattle.hq_kept.specs.declared.action.Action.TheVariants.{Reject, Defer, Discard, Hold}
use Rattle.hq_kept.specs.declared.action.Action.TheVariants.{Redirect}
use Rattle.hq_rules.specs.declared.verdict.Refused.{Refused}
use Rattle.hq_rules.specs.declared.verdict.Verdict.{Verdict}
use Rattle.hq_rules.specs.declared.verdict.Verdict.TheVariants.{Rejected, Discarded, Queue}

-- ---- what was found for one address: an action, or no line

-- the text of a rejection, where its line has none
abbrev pub or_denied : List ℕ → List ℕ
or_denied [] = denied
or_denied (b ∷ text) = b ∷ text

-- the text of a deferral, where its line has none
abbrev pub or_later : List ℕ → List ℕ
or_later [] = try_later
or_later (b ∷ text) = b ∷ text

-- the reason of a hold, where its line has no text
abbrev pub or_table : List ℕ → List ℕ
or_table [] = table_hold
or_table (b ∷ text) = b ∷ text

-- the code and the text with which an action refuses
abbrev pub refusal : Option Action → Option (ℕ × List ℕ)
refusal (Some (Reject text)) = Some (554, or_denied text)
refusal (Some (Defer text)) = Some (450, or_later text)
refusal found = None

abbrev pub refuses : Option Action → Bool
refuses found = is_some (refusal found)

abbrev pub discards : Option Action → Bool
discards (Some (Discard text)) = true
discards found = false

abbrev pub redirection : Option Action → Option (List ℕ)
redirection (Some (Redirect address)) = Some address
redirection found = None

-- the text of a hold
abbrev pub holding : Option Action → Option (List ℕ)
holding (Some (Hold text)) = Some text
holding found = None

-- ---- recipients, each with what was found for it

abbrev pub refusal_of : Sender → ℕ × List ℕ → Refused
refusal_of who why = record { address = who; code = why.0; text = why.1 }

abbrev pub refused_one : List ℕ × Option Action → Option Refused
refused_one recipient = option_map (refusal_of (From recipient.0)) (refusal recipient.1)

-- those that are refused, in order
abbrev pub refused_in : List (List ℕ × Option Action) → List Refused
refused_in recipients = filter_map refused_one recipients

-- the others, in order
abbrev pub not_refused : List (List ℕ × Option Action) → List (List ℕ × Option Action)
not_refused recipients = filter (λ r. not (refuses r.1)) recipients

-- what was found for the sender, and then for the kept recipients in order
abbrev pub found_in : Option Action → List (List ℕ × Option Action) → List (Option Action)
found_in sender recipients = sender ∷ map (λ r. r.1) (not_refused recipients)

-- ---- the verdict

abbrev pub first_of : {A : Type 0} → List A → Option A
first_of [] = None
first_of (x ∷ xs) = Some x

-- the last redirection
abbrev pub redirect_of : List (Option Action) → Option (List ℕ)
redirect_of found = last_or None (filter_map redirection found)

-- the text of the first hold; none, where nothing holds
abbrev pub held_by : List (Option Action) → Option (List ℕ)
held_by found = first_of (filter_map holding found)

-- With no recipient kept the submission is rejected; else any DISCARD discards it; else it is
-- queued.
abbrev pub verdict_on : List (List ℕ) → List Refused → List (Option Action) → Verdict
verdict_on [] refused found = Rejected refused
verdict_on (k ∷ kept) refused found = if list_any discards found then Discarded refused else
    Queue (k ∷ kept) refused (redirect_of found) (option_map or_table (held_by found))

-- A rejected sender is refused alone, whatever its recipients are.
abbrev pub after_sender : Option Refused → Option Action → List (List ℕ × Option Action) → Verdict
after_sender (Some refused) found recipients = Rejected (refused ∷ [])
after_sender None found recipients = verdict_on (map (λ r. r.0) (not_refused recipients))
    (refused_in recipients) (found_in found recipients)

-- by what was found for the sender, the sender, and its recipients with what was found for each
abbrev pub verdict : Option Action → Sender → List (List ℕ × Option Action) → Verdict
verdict found sender recipients = after_sender (option_map (refusal_of sender) (refusal found))
    found
    recipients

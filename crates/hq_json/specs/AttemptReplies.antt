-- What is told to the relay's workers: what an attempt came to, what may be tried now, and what a
-- sweep did. Members stand in the order of their names.
use Rattle.std.specs.Prelude.{ℕ, ◌+◌, Bool, List, [], ◌∷◌, map, codes}
use Rattle.serde_json.specs.Data.{Data, boolean, string, array}
use Rattle.serde_json.specs.View.{items_of}
use Rattle.hq_values.specs.Senders.{sender_text}
use Rattle.hq_kept.specs.declared.message.Message.{Message}
use Rattle.hq_rules.specs.declared.answer.AttemptCounts.{AttemptCounts}
use Rattle.hq_rules.specs.declared.answer.SweepCounts.{SweepCounts}
use Rattle.hq_json.specs.Objects.{having, count, id, addresses}

-- how many recipients of each kind, and how many are left
abbrev pub attempt_json : AttemptCounts → Data
attempt_json counts = having (
    (codes "deferred", count counts.deferred) ∷
    (codes "delivered", count counts.delivered) ∷
    (codes "failed", count counts.failed) ∷
    (codes "left", count counts.left) ∷
    (codes "result", string (codes "done")) ∷
    [])

-- the attempts so far, of which the reported one is one
abbrev pub attempt_repeated : ℕ → Data
attempt_repeated attempts = having ((codes "attempts", count attempts)
    ∷ (codes "result", string (codes "repeat")) ∷ [])

-- a message that may be tried, with the number of its next attempt
unfoldable pub due_entry : Message → Data
due_entry m = having (
    (codes "attempt", count (m.attempts + 1)) ∷
    (codes "id", id m.serial) ∷
    (codes "recipients", addresses m.pending) ∷
    (codes "sender", string (sender_text m.sender)) ∷
    (codes "spool", string m.spool) ∷
    [])

unfoldable pub due_listed : List Message → Bool → Data
due_listed ms more = having ((codes "due", array (items_of (map due_entry ms)))
    ∷ (codes "more", boolean more) ∷ [])

abbrev pub sweep_json : SweepCounts → Data
sweep_json counts = having (
    (codes "expired", count counts.expired) ∷
    (codes "notices", count counts.notices) ∷
    (codes "warned", count counts.warned) ∷
    [])

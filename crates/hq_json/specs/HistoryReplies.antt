-- What is told of a history. Members stand in the order of their names.
use Rattle.std.specs.Prelude.{ℕ, Bool, List, [], ◌∷◌, map, codes, Option, None, Some, unwrap_or}
use Rattle.serde_json.specs.Data.{Data, null, boolean, string, array}
use Rattle.serde_json.specs.View.{items_of}
use Rattle.hq_values.specs.Senders.{sender_text}
use Rattle.hq_kept.specs.declared.outcome.Fate.{Fate}
use Rattle.hq_kept.specs.declared.outcome.Fate.TheVariants.{Delivered, Failed, Deleted, Expired}
use Rattle.hq_kept.specs.declared.end.End.{End}
use Rattle.hq_json.specs.Objects.{having, count, id}

abbrev pub fate_name : Fate → List ℕ
fate_name Delivered = codes "delivered"
fate_name Failed = codes "failed"
fate_name Deleted = codes "deleted"
fate_name Expired = codes "expired"

-- an end; the status is empty where none was told
unfoldable pub end_entry : End → Data
end_entry e = having (
    (codes "at", count e.at) ∷
    (codes "id", id e.ended.serial) ∷
    (codes "number", count e.number) ∷
    (codes "recipient", string e.ended.recipient) ∷
    (codes "result", string (fate_name e.ended.fate)) ∷
    (codes "sender", string (sender_text e.ended.sender)) ∷
    (codes "status", string (unwrap_or e.ended.status [])) ∷
    (codes "text", string e.ended.text) ∷
    [])

unfoldable pub history_listed : List End → Bool → Data
history_listed es more = having ((codes "history", array (items_of (map end_entry es)))
    ∷ (codes "more", boolean more) ∷ [])

-- a number, or null
abbrev pub next_told : Option ℕ → Data
next_told None = null
next_told (Some n) = count n

unfoldable pub history_found : List End → Option ℕ → Data
history_found es next = having ((codes "history", array (items_of (map end_entry es)))
    ∷ (codes "next", next_told next) ∷ [])

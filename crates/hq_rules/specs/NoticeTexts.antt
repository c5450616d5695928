-- The texts of a notice (bounce(5)): for programs the body of message/delivery-status (RFC 3464,
-- 2.1), for people a text of this product's own.
use Rattle.std.specs.Prelude.{ℕ, ◌+◌, ◌==◌, List, [], ◌∷◌, ◌++◌, length, map, Option, None, Some}
use Rattle.std.specs.Prelude.{codes, if◌then◌else◌}
use Rattle.std.specs.List.{flat_map}
use Rattle.hq_values.specs.Moments.{no_later}
use Rattle.hq_values.specs.Serials.{serial_text}
use Rattle.hq_kept.specs.Limits.{expiry}
use Rattle.hq_kept.specs.declared.message.Message.{Message}
use Rattle.hq_kept.specs.declared.outcome.Told.{Told}
use Rattle.hq_rules.specs.Dates.{date_text}
use Rattle.hq_rules.specs.TextLines.{crlf, text_of, said}
use Rattle.hq_kept.specs.declared.kind.Kind.{Kind}
use Rattle.hq_kept.specs.declared.kind.Kind.TheVariants.{Failure, Delay}

-- attempts go on until the message expires, which is no later than the last moment
abbrev pub retry_until : ℕ → ℕ
retry_until arrival = no_later (arrival + expiry)

-- the date until which attempts go on, for those who are delayed
abbrev pub retry_date : Kind → ℕ → Option (List ℕ)
retry_date Failure arrival = None
retry_date Delay arrival = Some (date_text (retry_until arrival))

-- ---- for programs

-- the fields of the message: two of RFC 3464 (2.2.2 and 2.2.5), and the queue ID
unfoldable pub message_fields : List ℕ → Message → List (List ℕ)
message_fields host m =
    (codes "Reporting-MTA: dns; " ++ host) ∷
    (codes "Arrival-Date: " ++ date_text m.arrival) ∷
    (codes "X-Desk-Queue-Id: " ++ serial_text m.serial) ∷ []

-- RFC 3464, 2.3.3
unfoldable pub action : Kind → List ℕ
action Failure = codes "failed"
action Delay = codes "delayed"

-- RFC 3464, 2.3.6; where the remote server said something
unfoldable pub diagnostic_lines : List ℕ → List (List ℕ)
diagnostic_lines text = if length text == 0 then [] else (codes "Diagnostic-Code: x-desk; " ++ text)
    ∷ []

-- RFC 3464, 2.3.9; in the notice of a delay alone
unfoldable pub retry_lines : Option (List ℕ) → List (List ℕ)
retry_lines None = []
retry_lines (Some date) = (codes "Will-Retry-Until: " ++ date) ∷ []

-- the fields of a recipient, behind an empty line (RFC 3464, 2.3.2 to 2.3.4, 2.3.6 and 2.3.9)
unfoldable pub recipient_fields : Kind → Option (List ℕ) → Told → List (List ℕ)
recipient_fields kind until t =
    [] ∷
    (codes "Final-Recipient: rfc822; " ++ t.address) ∷
    (codes "Action: " ++ action kind) ∷
    (codes "Status: " ++ t.status) ∷
    (diagnostic_lines t.text ++ retry_lines until)

unfoldable pub status_lines : List ℕ → Message → Kind → List Told → List (List ℕ)
status_lines host m kind told = message_fields host m
    ++ flat_map (recipient_fields kind (retry_date kind m.arrival)) told

unfoldable pub status_text : List ℕ → Message → Kind → List Told → List ℕ
status_text host m kind told = text_of crlf (status_lines host m kind told)

-- ---- for people

unfoldable pub what_happened : Kind → List ℕ
what_happened Failure = codes " could not be delivered to the recipients below."
what_happened Delay = codes " is delayed for the recipients below."

unfoldable pub what_follows : Option (List ℕ) → List ℕ
what_follows None = codes "No further attempt is made for them."
what_follows (Some date) = codes "Attempts go on until " ++ date ++ codes "."

abbrev pub told_line : Told → List ℕ
told_line t = t.address ++ codes ": " ++ t.status ++ said t.text

unfoldable pub opening_lines : List ℕ → Message → Kind → List (List ℕ)
opening_lines host m kind =
    (codes "This is the mail relay at " ++ host ++ codes ".") ∷
    [] ∷
    (codes "Message " ++ serial_text m.serial ++ what_happened kind) ∷
    what_follows (retry_date kind m.arrival) ∷
    [] ∷ []

unfoldable pub human_lines : List ℕ → Message → Kind → List Told → List (List ℕ)
human_lines host m kind told = opening_lines host m kind ++ map told_line told

unfoldable pub human_text : List ℕ → Message → Kind → List Told → List ℕ
human_text host m kind told = text_of crlf (human_lines host m kind told)

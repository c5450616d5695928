-- The queue report, in the manner of postqueue(1), -p. Its columns are this product's own.
use Rattle.std.specs.Prelude.{ℕ, ◌+◌, ◌-◌, ◌==◌, List, [], ◌∷◌, ◌++◌, length, replicate, count_by}
use Rattle.std.specs.Prelude.{Option, None, Some, codes, decimal, if◌then◌else◌}
use Rattle.std.specs.List.{flat_map, sum_by}
use Rattle.hq_values.specs.Serials.{serial_text}
use Rattle.hq_values.specs.declared.address.Sender.{Sender}
use Rattle.hq_values.specs.declared.address.Sender.TheVariants.{Null, From}
use Rattle.hq_kept.specs.Messages.{is_on_hold}
use Rattle.hq_kept.specs.declared.message.Message.{Message}
use Rattle.hq_kept.specs.declared.message.Pending.{Pending}
use Rattle.hq_kept.specs.declared.message.QueueState.{QueueState}
use Rattle.hq_rules.specs.Dates.{date_text}
use Rattle.hq_rules.specs.TextLines.{lf, text_of, said}

-- a text on the left of so many places
abbrev pub left_in : ℕ → List ℕ → List ℕ
left_in places text = text ++ replicate (places - length text) 32

-- a text on the right of so many places
abbrev pub right_in : ℕ → List ℕ → List ℕ
right_in places text = replicate (places - length text) 32 ++ text

unfoldable pub header : List ℕ
header = left_in 10 (codes "Queue ID") ++ codes "  " ++ right_in 10 (codes "Size") ++ codes " "
    ++ left_in 31 (codes "Arrival") ++ codes " " ++ codes "Sender/Recipient"

unfoldable pub shown_sender : Sender → List ℕ
shown_sender Null = codes "<>"
shown_sender (From address) = address

-- '!' marks mail on hold, as in postqueue(1)
abbrev pub mark : QueueState → List ℕ
mark state = if is_on_hold state then codes "!" else codes " "

-- the queue ID, the mark and the size
unfoldable pub left_columns : Message → List ℕ
left_columns m = serial_text m.serial ++ mark m.state ++ codes " " ++ right_in 10 (decimal m.size)

unfoldable pub message_line : Message → List ℕ
message_line m = left_columns m ++ codes " " ++ date_text m.arrival ++ codes " "
    ++ shown_sender m.sender

-- why a message is on hold
abbrev pub hold_line : List ℕ → List ℕ
hold_line reason = codes "    (hold: " ++ reason ++ codes ")"

-- only a message on hold has one
unfoldable pub hold_lines : Message → List (List ℕ)
hold_lines m = if is_on_hold m.state then hold_line m.reason ∷ [] else []

-- what stands above the recipients
unfoldable pub top_lines : Message → List (List ℕ)
top_lines m = message_line m ∷ hold_lines m

-- why a recipient was deferred
abbrev pub reason_line : List ℕ → List ℕ → List ℕ
reason_line status text = codes "    (" ++ status ++ said text ++ codes ")"

unfoldable pub reason_lines : Option (List ℕ) → List ℕ → List (List ℕ)
reason_lines None text = []
reason_lines (Some status) text = reason_line status text ∷ []

unfoldable pub recipient_lines : Pending → List (List ℕ)
recipient_lines p = reason_lines p.status p.text ++ (codes "    " ++ p.address) ∷ []

-- a message with its recipients
unfoldable pub message_lines : Message → List (List ℕ)
message_lines m = top_lines m ++ flat_map recipient_lines m.pending

-- how many messages there are, their bytes together, and how many are on hold
unfoldable pub summary : ℕ → ℕ → ℕ → List ℕ
summary queued bytes held = codes "-- " ++ decimal queued ++ codes " queued, " ++ decimal bytes
    ++ codes " bytes, " ++ decimal held ++ codes " on hold"

abbrev pub bytes_of : List Message → ℕ
bytes_of messages = sum_by (λ (m : Message). m.size) messages

abbrev pub held_of : List Message → ℕ
held_of messages = count_by (λ (m : Message). is_on_hold m.state) messages

unfoldable pub report_lines : List Message → List (List ℕ)
report_lines [] = codes "Mail queue is empty" ∷ []
report_lines (m ∷ ms) = header ∷ (flat_map message_lines (m ∷ ms)
    ++ summary (length (m ∷ ms)) (bytes_of (m ∷ ms)) (held_of (m ∷ ms)) ∷ [])

unfoldable pub report_text : List Message → List ℕ
report_text messages = text_of lf (report_lines messages)

-- ---- a report as it is written, message by message

-- the lines up to those of the last message, and what the last line will say
pub record Written : Type 0 where
  pub text : List ℕ
  pub queued : ℕ
  pub bytes : ℕ
  pub held : ℕ

-- the header stands before the first message
abbrev pub head_lines : ℕ → List (List ℕ)
head_lines queued = if queued == 0 then [] else header ∷ []

-- what is written of a report after these messages
unfoldable pub written : List Message → Written
written messages = record {
  text = text_of lf (head_lines (length messages) ++ flat_map message_lines messages);
  queued = length messages;
  bytes = bytes_of messages;
  held = held_of messages;
}

-- the lines of one more message; the first one's stand below the header
abbrev pub added_lines : ℕ → Message → List (List ℕ)
added_lines queued m = (if queued == 0 then header ∷ [] else []) ++ message_lines m

-- what is written with one more message
unfoldable pub written_with : Message → Written → Written
written_with m w = record {
  text = w.text ++ text_of lf (added_lines w.queued m);
  queued = w.queued + 1;
  bytes = w.bytes + m.size;
  held = w.held + (if is_on_hold m.state then 1 else 0);
}

-- the last line: how many messages there are, their bytes together, and how many are on hold
abbrev pub last_lines : ℕ → ℕ → ℕ → List (List ℕ)
last_lines queued bytes held = if queued == 0 then codes "Mail queue is empty" ∷ [] else
    summary queued bytes held ∷ []

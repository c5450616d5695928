-- The words of the functions of the plain lists: tests of rows, rows made, their order, pages. No
-- claim rests on them.
-- Inner: it serves proofs alone, and no promise rests on it.
use Rattle.std.specs.Prelude.{◌≡◌, ℕ, suc, Bool, true, nat_le, nat_lt, None, Some, ◌&&◌, List, []}
use Rattle.std.specs.Prelude.{◌∷◌, map, filter, Option, option_map}
use Rattle.std.specs.Ordering.{nat_cmp, eq_by_cmp, is_lt}
use Rattle.std.specs.FinMap.{entries, get}
use Rattle.hq_kept.specs.declared.message.Message.{Message}
use Rattle.hq_kept.specs.declared.message.Pending.{Pending}
use Rattle.hq_kept.specs.declared.action.Action.{Action}
use Rattle.hq_kept.specs.declared.pattern.Class.{Class}
use Rattle.hq_rows.specs.declared.rows.EndRow.{EndRow}
use Rattle.hq_rows.specs.declared.rows.HoldRow.{HoldRow}
use Rattle.hq_rows.specs.declared.rows.LineRow.{LineRow}
use Rattle.hq_rows.specs.declared.rows.MarkRow.{MarkRow}
use Rattle.hq_rows.specs.declared.rows.MessageRow.{MessageRow}
use Rattle.hq_rows.specs.declared.rows.NoticeRow.{NoticeRow}
use Rattle.hq_rows.specs.declared.rows.RecipientRow.{RecipientRow}
use Rattle.hq_tables.specs.Tables.{Row, text_cmp, message_cmp, line_cmp, lines_cmp, mark_cmp}
use Rattle.hq_tables.specs.Tables.{notice_cmp, end_cmp, Noted, Past, left_of, joined, pending_of}
use Rattle.hq_owned.specs.Owned.{rows_of}
use Rattle.hq_owned.specs.Rows.{HasUniqueKeys}
use Rattle.hq_rows.specs.Listed.{message_key, recipient_value, line_row_key, notice_key, end_key}
use Rattle.hq_rows.specs.Listed.{messages_of, recipients_of, holds_of, lines_of, notices_of}
use Rattle.hq_rows.specs.Listed.{ends_of}

-- ---- tests of rows

unfoldable pub is_message : List ℕ → ℕ → MessageRow → Bool
is_message customer serial r = eq_by_cmp message_cmp (customer, serial) (r.customer, r.serial)

unfoldable pub is_recipient : List ℕ → ℕ → RecipientRow → Bool
is_recipient customer serial r = eq_by_cmp text_cmp customer r.customer
    && eq_by_cmp nat_cmp serial r.serial

-- the reason of a message
unfoldable pub is_hold : List ℕ → ℕ → HoldRow → Bool
is_hold customer serial r = eq_by_cmp message_cmp (customer, serial) (r.customer, r.serial)

abbrev pub is_after : Option ℕ → ℕ → Bool
is_after None serial = true
is_after (Some n) serial = nat_lt n serial

-- a message of the customer after a serial, or any of its messages
unfoldable pub is_past : List ℕ → Option ℕ → MessageRow → Bool
is_past customer after r = eq_by_cmp text_cmp customer r.customer && is_after after r.serial

-- a message of the customer with a spool name
unfoldable pub has_spool : List ℕ → List ℕ → MessageRow → Bool
has_spool customer spool r = eq_by_cmp text_cmp customer r.customer
    && eq_by_cmp text_cmp spool r.spool

-- the line of a pattern
unfoldable pub is_line : List ℕ → Class × List ℕ → LineRow → Bool
is_line customer pattern r = eq_by_cmp lines_cmp (customer, pattern) (r.customer, r.line.pattern)

abbrev pub is_after_pattern : Option (Class × List ℕ) → Class × List ℕ → Bool
is_after_pattern None pattern = true
is_after_pattern (Some first) pattern = is_lt (line_cmp first pattern)

-- a line of the customer after a pattern, or any of its lines
unfoldable pub is_line_past : List ℕ → Option (Class × List ℕ) → LineRow → Bool
is_line_past customer after r = eq_by_cmp text_cmp customer r.customer
    && is_after_pattern after r.line.pattern

-- the import of a label
unfoldable pub is_mark : List ℕ → List ℕ → MarkRow → Bool
is_mark customer label r = eq_by_cmp mark_cmp (customer, label) (r.customer, r.mark.label)

-- the notice of a number
unfoldable pub is_notice : List ℕ → ℕ → NoticeRow → Bool
is_notice customer number r = eq_by_cmp notice_cmp (customer, number) (r.customer, r.notice.number)

-- a notice of the customer after a number, or any of its notices
unfoldable pub is_notice_past : List ℕ → Option ℕ → NoticeRow → Bool
is_notice_past customer after r = eq_by_cmp text_cmp customer r.customer
    && is_after after r.notice.number

-- another customer's notice, or one of a number that is not below this one
unfoldable pub is_kept_notice : List ℕ → ℕ → NoticeRow → Bool
is_kept_notice customer number r = left_of customer (nat_le number) (r.customer, r.notice.number)

-- the end of a number
unfoldable pub is_end : List ℕ → ℕ → EndRow → Bool
is_end customer number r = eq_by_cmp end_cmp (customer, number) (r.customer, r.end.number)

abbrev pub is_before : Option ℕ → ℕ → Bool
is_before None number = true
is_before (Some n) number = nat_lt number n

-- an end of the customer before a number, or any of its ends
unfoldable pub is_end_before : List ℕ → Option ℕ → EndRow → Bool
is_end_before customer before r = eq_by_cmp text_cmp customer r.customer
    && is_before before r.end.number

-- another customer's end, or one of a number above this one
unfoldable pub is_kept_end : List ℕ → ℕ → EndRow → Bool
is_kept_end customer number r = left_of customer (nat_lt number) (r.customer, r.end.number)

-- another customer's end, or one of a number up to this one
unfoldable pub is_earlier_end : List ℕ → ℕ → EndRow → Bool
is_earlier_end customer number r =
    left_of customer (λ n. nat_le n number) (r.customer, r.end.number)

-- ---- rows made

abbrev pub message_row : List ℕ → Message → MessageRow
message_row customer m = record {
  customer = customer;
  serial = m.serial;
  sender = m.sender;
  spool = m.spool;
  size = m.size;
  arrival = m.arrival;
  state = m.state;
  next_try = m.next_try;
  attempts = m.attempts;
  warned = m.warned;
}

-- recipients at the places from i on
abbrev pub recipient_rows : List ℕ → ℕ → ℕ → List Pending → List RecipientRow
recipient_rows customer serial i [] = []
recipient_rows customer serial i (p ∷ ps) = record {
  customer = customer;
  serial = serial;
  place = i;
  pending = p;
} ∷ recipient_rows customer serial (suc i) ps

-- ---- the order in which rows are kept

-- a message's recipients in the order of the rows
abbrev pub pending_in : List ℕ → ℕ → List RecipientRow → List Pending
pending_in customer serial rows = map recipient_value (filter (is_recipient customer serial) rows)

-- each message's recipients lie in the order of their places
unfoldable pub AreDealt : List RecipientRow → Type 0
AreDealt rows = (customer : List ℕ) (serial : ℕ) →
    pending_in customer serial rows ≡ pending_of customer serial (recipients_of rows)

-- no message stands twice
unfoldable pub AreUnique : List MessageRow → Type 0
AreUnique rows = HasUniqueKeys message_cmp message_key rows

-- no line stands twice
unfoldable pub AreUniqueLines : List LineRow → Type 0
AreUniqueLines rows = HasUniqueKeys lines_cmp line_row_key rows

-- no notice stands twice
unfoldable pub AreUniqueNotices : List NoticeRow → Type 0
AreUniqueNotices rows = HasUniqueKeys notice_cmp notice_key rows

-- no end stands twice
unfoldable pub AreUniqueEnds : List EndRow → Type 0
AreUniqueEnds rows = HasUniqueKeys end_cmp end_key rows

-- ---- pages

-- the customer's rows of messages, by serial
abbrev pub rows_with : List ℕ → List MessageRow → List (ℕ × Row)
rows_with customer rows = rows_of text_cmp customer (entries (messages_of rows))

-- the serials of the rows that pass a test, as they lie
abbrev pub serials_where : (MessageRow → Bool) → List MessageRow → List ℕ
serials_where p rows = map (λ (r : MessageRow). r.serial) (filter p rows)

-- the serials after a serial, in order
abbrev pub serials_after : Option ℕ → List (ℕ × Row) → List ℕ
serials_after after es = map (λ (e : ℕ × Row). e.0)
    (filter (λ (e : ℕ × Row). is_after after e.0) es)

-- the serials with a spool name, in order
abbrev pub serials_with_spool : List ℕ → List (ℕ × Row) → List ℕ
serials_with_spool spool es = map (λ (e : ℕ × Row). e.0)
    (filter (λ (e : ℕ × Row). eq_by_cmp text_cmp spool e.1.spool) es)

-- the customer's rows of lines, by class and pattern
abbrev pub line_rows_with : List ℕ → List LineRow → List ((Class × List ℕ) × Action)
line_rows_with customer rows = rows_of text_cmp customer (entries (lines_of rows))

-- the customer's rows of notices, by number
abbrev pub notice_rows_with : List ℕ → List NoticeRow → List (ℕ × Noted)
notice_rows_with customer rows = rows_of text_cmp customer (entries (notices_of rows))

-- the customer's rows of its history, the newest first
abbrev pub end_rows_with : List ℕ → List EndRow → List (ℕ × Past)
end_rows_with customer rows = rows_of text_cmp customer (entries (ends_of rows))

abbrev pub message_at : List ℕ → List MessageRow → List RecipientRow → List HoldRow → ℕ →
    Option Message
message_at customer messages recipients holds serial =
    option_map (joined customer (recipients_of recipients) (holds_of holds) serial)
    (get (messages_of messages) (customer, serial))

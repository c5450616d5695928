-- One customer's state, the tables of all customers, and what a change does to each.
use Rattle.std.specs.Prelude.{ℕ, suc, nat_le, nat_lt, ◌+◌, ◌-◌, Bool, not, ◌&&◌, List, [], ◌∷◌}
use Rattle.std.specs.Prelude.{length, unwrap_or}
use Rattle.std.specs.declared.cmp.Ordering.{Ordering}
use Rattle.std.specs.Ordering.{nat_cmp, eq_by_cmp, flip_args}
use Rattle.std.specs.FinMap.{FinMap, empty, get, insert, remove, retain_keys, values}
use Rattle.hq_values.specs.declared.address.Sender.{Sender}
use Rattle.hq_kept.specs.Patterns.{class_name}
use Rattle.hq_kept.specs.declared.action.Action.{Action}
use Rattle.hq_kept.specs.declared.pattern.Class.{Class}
use Rattle.hq_kept.specs.declared.account.Counts.{Counts}
use Rattle.hq_kept.specs.declared.account.Head.{Head}
use Rattle.hq_kept.specs.declared.message.Message.{Message}
use Rattle.hq_kept.specs.declared.message.Pending.{Pending}
use Rattle.hq_kept.specs.declared.message.QueueState.{QueueState}
use Rattle.hq_kept.specs.declared.outcome.Ended.{Ended}
use Rattle.hq_tables.specs.declared.account.Account.{Account}
use Rattle.hq_tables.specs.declared.change.Change.{Change}
use Rattle.hq_tables.specs.declared.change.Change.TheVariants.{PutHead, PutMessage, DropMessage}
use Rattle.hq_tables.specs.declared.change.Change.TheVariants.{PutLine, DropLine, PutMark}
use Rattle.hq_tables.specs.declared.change.Change.TheVariants.{AddNotice}
use Rattle.hq_tables.specs.declared.change.Change.TheVariants.{DropNoticesBelow, PutEnds}
use Rattle.hq_tables.specs.declared.change.Change.TheVariants.{DropEndsTo}
use Rattle.hq_kept.specs.declared.end.End.{End}
use Rattle.hq_kept.specs.declared.end.Ends.{Ends}
use Rattle.hq_kept.specs.declared.mark.Mark.{Mark}
use Rattle.hq_kept.specs.declared.notice.Notice.{Notice}
use Rattle.hq_kept.specs.declared.kind.Kind.{Kind}
use Rattle.hq_owned.specs.Owned.{by_both, part_of, map_values, given}
pub use Rattle.hq_owned.specs.Owned.{text_cmp}

-- by customer, then by serial
abbrev pub message_cmp : List ℕ × ℕ → List ℕ × ℕ → Ordering
message_cmp = by_both text_cmp nat_cmp

-- by customer, then by serial, then by place
abbrev pub recipient_cmp : List ℕ × (ℕ × ℕ) → List ℕ × (ℕ × ℕ) → Ordering
recipient_cmp = by_both text_cmp (by_both nat_cmp nat_cmp)

-- classes in the order of their names
abbrev pub class_cmp : Class → Class → Ordering
class_cmp a b = text_cmp (class_name a) (class_name b)

-- by class, then by the pattern's text
abbrev pub line_cmp : Class × List ℕ → Class × List ℕ → Ordering
line_cmp = by_both class_cmp text_cmp

-- by customer, then by class, then by the pattern's text
abbrev pub lines_cmp : List ℕ × (Class × List ℕ) → List ℕ × (Class × List ℕ) → Ordering
lines_cmp = by_both text_cmp line_cmp

-- by customer, then by the label of an import
abbrev pub mark_cmp : List ℕ × List ℕ → List ℕ × List ℕ → Ordering
mark_cmp = by_both text_cmp text_cmp

-- by customer, then by the number of a notice
abbrev pub notice_cmp : List ℕ × ℕ → List ℕ × ℕ → Ordering
notice_cmp = by_both text_cmp nat_cmp

-- the greater number first
abbrev pub newest_cmp : ℕ → ℕ → Ordering
newest_cmp = flip_args nat_cmp

-- by customer, then by the number of an end, the newest first
abbrev pub end_cmp : List ℕ × ℕ → List ℕ × ℕ → Ordering
end_cmp = by_both text_cmp newest_cmp

-- ---- one customer

-- a notice without its number
pub record Noted : Type 0 where
  pub kind : Kind
  pub serial : ℕ
  pub at : ℕ
  pub to : List ℕ
  pub human : List ℕ
  pub status : List ℕ

abbrev pub noted_of : Notice → Noted
noted_of n = record {
  kind = n.kind;
  serial = n.serial;
  at = n.at;
  to = n.to;
  human = n.human;
  status = n.status;
}

-- the notice of a number
abbrev pub notice_of : ℕ × Noted → Notice
notice_of e = record {
  number = e.0;
  kind = e.1.kind;
  serial = e.1.serial;
  at = e.1.at;
  to = e.1.to;
  human = e.1.human;
  status = e.1.status;
}

-- an end without its number
pub record Past : Type 0 where
  pub at : ℕ
  pub ended : Ended

abbrev pub past_of : End → Past
past_of e = record { at = e.at; ended = e.ended }

-- the end of a number
abbrev pub end_of : ℕ × Past → End
end_of e = record { number = e.0; at = e.1.at; ended = e.1.ended }

-- the greatest number that stays before these ends
abbrev pub last_before : Ends → ℕ
last_before ends = ends.last - length ends.ended

-- ends added, of which the last has this number
abbrev pub add_ends : ℕ → ℕ → List Ended → FinMap newest_cmp Past → FinMap newest_cmp Past
add_ends at last [] m = m
add_ends at last (e ∷ es) m =
    add_ends at last es (insert m (last - length es) (record { at = at; ended = e }))

-- a customer's state: its head, its messages by serial, the actions of its lines by pattern, its
-- imports by label, its notices by number, and its history: the ends of recipients, the newest
-- first
pub record State : Type 0 where
  pub head : Head
  pub messages : FinMap nat_cmp Message
  pub lines : FinMap line_cmp Action
  pub marks : FinMap text_cmp Mark
  pub notices : FinMap nat_cmp Noted
  pub ends : FinMap newest_cmp Past

-- the head of a customer of whom nothing is kept yet: both next numbers are 1
abbrev pub opening_head : Head
opening_head = record {
  next_serial = 1;
  next_notice = 1;
  tally = record { accepted = 0; delivered = 0; failed = 0; deleted = 0; expired = 0 };
}

-- a customer of whom nothing is kept yet
abbrev pub opening : State
opening = record {
  head = opening_head;
  messages = empty;
  lines = empty;
  marks = empty;
  notices = empty;
  ends = empty;
}

-- a change of one customer's state; a message stands at its serial, and an import at its label
abbrev pub change : Change → State → State
change (PutHead head) s = record s { head = head }
change (PutMessage message) s = record s { messages = insert s.messages message.serial message }
change (DropMessage serial) s = record s { messages = remove s.messages serial }
change (PutLine line) s = record s { lines = insert s.lines line.pattern line.action }
change (DropLine pattern) s = record s { lines = remove s.lines pattern }
change (PutMark mark) s = record s { marks = insert s.marks mark.label mark }
change (AddNotice notice) s = record s {
  notices = insert s.notices notice.number (noted_of notice);
}
change (DropNoticesBelow number) s = record s { notices = retain_keys s.notices (nat_le number) }
change (PutEnds ends) s = record s {
  ends = add_ends ends.at ends.last ends.ended
      (retain_keys s.ends (λ n. nat_le n (last_before ends)));
}
change (DropEndsTo number) s = record s { ends = retain_keys s.ends (nat_lt number) }

-- all changes in order
abbrev pub change_all : List Change → State → State
change_all [] s = s
change_all (c ∷ cs) s = change_all cs (change c s)

-- ---- the tables of all customers

-- a row of messages, beside its key: the message without serial and recipients
pub record Row : Type 0 where
  pub sender : Sender
  pub spool : List ℕ
  pub size : ℕ
  pub arrival : ℕ
  pub state : QueueState
  pub next_try : ℕ
  pub attempts : ℕ
  pub warned : Bool

-- every key begins with the customer's name; recipients have a table of their own, by serial and
-- place, and so have the reasons of messages on hold, by serial
pub record Tables : Type 0 where
  pub heads : FinMap text_cmp Account
  pub messages : FinMap message_cmp Row
  pub recipients : FinMap recipient_cmp Pending
  pub holds : FinMap message_cmp (List ℕ)
  pub lines : FinMap lines_cmp Action
  pub marks : FinMap mark_cmp Mark
  pub notices : FinMap notice_cmp Noted
  pub ends : FinMap end_cmp Past

-- tables of nobody
abbrev pub no_tables : Tables
no_tables = record {
  heads = empty;
  messages = empty;
  recipients = empty;
  holds = empty;
  lines = empty;
  marks = empty;
  notices = empty;
  ends = empty;
}

-- the row of a message
abbrev pub row_of : Message → Row
row_of m = record {
  sender = m.sender;
  spool = m.spool;
  size = m.size;
  arrival = m.arrival;
  state = m.state;
  next_try = m.next_try;
  attempts = m.attempts;
  warned = m.warned;
}

-- the message of a row, its serial, its reason and its recipients
abbrev pub message_of : ℕ → Row → List ℕ → List Pending → Message
message_of serial r reason ps = record {
  serial = serial;
  sender = r.sender;
  spool = r.spool;
  size = r.size;
  arrival = r.arrival;
  state = r.state;
  reason = reason;
  next_try = r.next_try;
  attempts = r.attempts;
  warned = r.warned;
  pending = ps;
}

-- the recipients of a customer's message, in order of place
unfoldable pub pending_of : List ℕ → ℕ → FinMap recipient_cmp Pending → List Pending
pending_of customer serial rs = values (part_of nat_cmp serial (part_of text_cmp customer rs))

-- the reason of a customer's message; empty, where none is kept
unfoldable pub reason_of : List ℕ → ℕ → FinMap message_cmp (List ℕ) → List ℕ
reason_of customer serial hs = unwrap_or (get hs (customer, serial)) []

-- this reason of the message, instead of the one that it had; an empty one is not kept
unfoldable pub give_reason : List ℕ → ℕ → List ℕ → FinMap message_cmp (List ℕ) →
    FinMap message_cmp (List ℕ)
give_reason customer serial [] hs = remove hs (customer, serial)
give_reason customer serial (b ∷ reason) hs = insert hs (customer, serial) (b ∷ reason)

-- a row of messages with its reason and its recipients
abbrev pub joined : List ℕ → FinMap recipient_cmp Pending → FinMap message_cmp (List ℕ) → ℕ → Row →
    Message
joined customer rs hs serial r =
    message_of serial r (reason_of customer serial hs) (pending_of customer serial rs)

-- recipients put at the places from i on
abbrev pub place_all : List ℕ → ℕ → ℕ → List Pending → FinMap recipient_cmp Pending →
    FinMap recipient_cmp Pending
place_all customer serial i [] rs = rs
place_all customer serial i (p ∷ ps) rs =
    place_all customer serial (suc i) ps (insert rs (customer, (serial, i)) p)

-- these recipients, at the places 1, 2, .., instead of all that the message had
unfoldable pub deal : List ℕ → ℕ → List Pending → FinMap recipient_cmp Pending →
    FinMap recipient_cmp Pending
deal customer serial ps rs = place_all customer serial 1 ps
    (retain_keys rs (λ k. not (eq_by_cmp text_cmp customer k.0 && eq_by_cmp nat_cmp serial k.1.0)))

-- ---- how much a customer keeps, beside its head

-- one message more is kept, or one fewer; one line more, or one fewer
abbrev pub with_message : ℕ → Counts → Counts
with_message size n = record { messages = n.messages + 1; bytes = n.bytes + size; lines = n.lines }

abbrev pub without_message : ℕ → Counts → Counts
without_message size n = record {
  messages = n.messages - 1;
  bytes = n.bytes - size;
  lines = n.lines;
}

abbrev pub with_line : Counts → Counts
with_line n = record { messages = n.messages; bytes = n.bytes; lines = n.lines + 1 }

abbrev pub without_line : Counts → Counts
without_line n = record { messages = n.messages; bytes = n.bytes; lines = n.lines - 1 }

-- a head row of whom nothing is kept yet
abbrev pub opening_account : Account
opening_account = record {
  head = opening_head;
  counts = record {
    messages = 0;
    bytes = 0;
    lines = 0;
  };
}

-- the customer's head row; that of a customer of whom nothing is kept, where it has none
abbrev pub account : FinMap text_cmp Account → List ℕ → Account
account heads customer = unwrap_or (get heads customer) opening_account

-- the same head, with the counts changed
abbrev pub recounted : (Counts → Counts) → Account → Account
recounted f a = record a { counts = f a.counts }

-- the heads after another head was put: the counts stay
unfoldable pub headed : List ℕ → Head → FinMap text_cmp Account → FinMap text_cmp Account
headed customer head heads = insert heads customer (record (account heads customer) { head = head })

-- the heads with the counts of one customer changed: the head stays
unfoldable pub counted : (Counts → Counts) → List ℕ → FinMap text_cmp Account →
    FinMap text_cmp Account
counted f customer heads = insert heads customer (recounted f (account heads customer))

-- the heads once the message of a serial is not counted any more; the same, where there is none
abbrev pub uncounted_message : List ℕ → ℕ → Tables → FinMap text_cmp Account
uncounted_message customer serial t = given t.heads
    (λ (r : Row). counted (without_message r.size) customer t.heads)
    (get t.messages (customer, serial))

-- of the keys that begin with the customer's name, those that pass a test; and all others
abbrev pub left_of : {K : Type 0} → List ℕ → (K → Bool) → List ℕ × K → Bool
left_of customer p k = not (eq_by_cmp text_cmp customer k.0 && not (p k.1))

-- ends of a customer added, of which the last has this number
abbrev pub add_rows : List ℕ → ℕ → ℕ → List Ended → FinMap end_cmp Past → FinMap end_cmp Past
add_rows customer at last [] m = m
add_rows customer at last (e ∷ es) m = add_rows customer at last es
    (insert m (customer, last - length es) (record { at = at; ended = e }))

-- a change of one customer's rows in the tables; the counts in its head row follow
abbrev pub write : List ℕ → Change → Tables → Tables
write customer (PutHead head) t = record t { heads = headed customer head t.heads }
write customer (PutMessage m) t = record t {
  heads = counted (with_message m.size) customer (uncounted_message customer m.serial t);
  messages = insert t.messages (customer, m.serial) (row_of m);
  recipients = deal customer m.serial m.pending t.recipients;
  holds = give_reason customer m.serial m.reason t.holds;
}
write customer (DropMessage serial) t = record t {
  heads = uncounted_message customer serial t;
  messages = remove t.messages (customer, serial);
  recipients = deal customer serial [] t.recipients;
  holds = give_reason customer serial [] t.holds;
}
write customer (PutLine line) t = record t {
  heads = given (counted with_line customer t.heads) (λ _. t.heads)
      (get t.lines (customer, line.pattern));
  lines = insert t.lines (customer, line.pattern) line.action;
}
write customer (DropLine pattern) t = record t {
  heads = given t.heads (λ _. counted without_line customer t.heads)
      (get t.lines (customer, pattern));
  lines = remove t.lines (customer, pattern);
}
write customer (PutMark mark) t = record t { marks = insert t.marks (customer, mark.label) mark }
write customer (AddNotice notice) t = record t {
  notices = insert t.notices (customer, notice.number) (noted_of notice);
}
write customer (DropNoticesBelow number) t = record t {
  notices = retain_keys t.notices (left_of customer (nat_le number));
}
write customer (PutEnds ends) t = record t {
  ends = add_rows customer ends.at ends.last ends.ended
      (retain_keys t.ends (left_of customer (λ n. nat_le n (last_before ends))));
}
write customer (DropEndsTo number) t = record t {
  ends = retain_keys t.ends (left_of customer (nat_lt number));
}

-- all changes in order
abbrev pub write_all : List ℕ → List Change → Tables → Tables
write_all customer [] t = t
write_all customer (c ∷ cs) t = write_all customer cs (write customer c t)

-- what the tables have of one customer: its state
abbrev pub own : List ℕ → Tables → State
own customer t = record {
  head = (account t.heads customer).head;
  messages = map_values (joined customer t.recipients t.holds)
      (part_of text_cmp customer t.messages);
  lines = part_of text_cmp customer t.lines;
  marks = part_of text_cmp customer t.marks;
  notices = part_of text_cmp customer t.notices;
  ends = part_of text_cmp customer t.ends;
}

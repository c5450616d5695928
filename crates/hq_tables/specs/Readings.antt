-- What can be read of one customer: from its state alone, and from the tables of all.
use Rattle.std.specs.Prelude.{ℕ, ◌-◌, ◌^◌, min, nat_lt, List, map, filter, take, length, Option}
use Rattle.std.specs.Prelude.{None, Some, option_map}
use Rattle.std.specs.List.{find, sum_by}
use Rattle.std.specs.Ordering.{eq_by_cmp, is_lt}
use Rattle.std.specs.FinMap.{get, entries, values}
use Rattle.hq_tables.specs.declared.account.Account.{Account}
use Rattle.hq_kept.specs.declared.account.Counts.{Counts}
use Rattle.hq_kept.specs.declared.account.Head.{Head}
use Rattle.hq_kept.specs.declared.message.Message.{Message}
use Rattle.hq_kept.specs.declared.action.Action.{Action}
use Rattle.hq_kept.specs.declared.pattern.Class.{Class}
use Rattle.hq_kept.specs.declared.pattern.Line.{Line}
use Rattle.hq_kept.specs.declared.end.End.{End}
use Rattle.hq_kept.specs.declared.mark.Mark.{Mark}
use Rattle.hq_kept.specs.declared.notice.Notice.{Notice}
use Rattle.hq_tables.specs.Tables.{State, Tables, Row, Noted, text_cmp, line_cmp, account, joined}
use Rattle.hq_tables.specs.Tables.{notice_of, end_of}
use Rattle.hq_owned.specs.Owned.{rows_of}

-- what can be read of one customer
pub record Readings : Type 0 where
  pub head : Head
  pub counts : Counts
  pub message : ℕ → Option Message  -- at a serial
  pub by_spool : List ℕ → Option Message  -- with a spool name
  pub messages : List Message  -- in order of serial
  pub line : Class → List ℕ → Option Action  -- of a class, at a key
  pub lines : List Line  -- in order of class and pattern
  pub mark : List ℕ → Option Mark  -- of a label
  pub notice : ℕ → Option Notice  -- of a number
  pub notices : List Notice  -- in order of number
  pub ends : List End  -- the newest first

-- the head, and how much the customer keeps
abbrev pub account_read : Readings → Account
account_read rows = record { head = rows.head; counts = rows.counts }

-- a sum that stays at the greatest number of 64 bits
abbrev pub saturated : ℕ → ℕ
saturated n = min n (2 ^ 64 - 1)

-- how many messages, their bytes together, and how many lines
abbrev pub kept_of : {X Y : Type 0} → (X → ℕ) → List X → List Y → Counts
kept_of size xs ls = record { messages = length xs; bytes = sum_by size xs; lines = length ls }

-- counts as they are told: bytes stay at the greatest number of 64 bits
abbrev pub counts_told : Counts → Counts
counts_told n = record { messages = n.messages; bytes = saturated n.bytes; lines = n.lines }

-- a line of a pattern and its action
abbrev pub line_of : (Class × List ℕ) × Action → Line
line_of e = record { pattern = e.0; action = e.1 }

-- the lines after a pattern, or all
abbrev pub after_pattern : Option (Class × List ℕ) → List Line → List Line
after_pattern None ls = ls
after_pattern (Some pattern) ls = filter (λ (l : Line). is_lt (line_cmp pattern l.pattern)) ls

-- the notices after a number, or all
abbrev pub after_number : Option ℕ → List Notice → List Notice
after_number None ns = ns
after_number (Some number) ns = filter (λ (n : Notice). nat_lt number n.number) ns

-- the ends before a number, or all
abbrev pub before_end : Option ℕ → List End → List End
before_end None es = es
before_end (Some number) es = filter (λ (e : End). nat_lt e.number number) es

-- the first message with that spool name
abbrev pub with_spool : List ℕ → List Message → Option Message
with_spool spool ms = find (λ (m : Message). eq_by_cmp text_cmp spool m.spool) ms

-- the messages after a serial, or all
abbrev pub after_serial : Option ℕ → List Message → List Message
after_serial None ms = ms
after_serial (Some serial) ms = filter (λ (m : Message). nat_lt serial m.serial) ms

-- a page: the first so many messages after a serial
abbrev pub page_of : Option ℕ → ℕ → List Message → List Message
page_of after limit ms = take limit (after_serial after ms)

-- a customer's state, read as it stands
abbrev pub read_state : State → Readings
read_state s = record {
  head = s.head;
  counts = counts_told (kept_of (λ (m : Message). m.size) (values s.messages) (entries s.lines));
  message = get s.messages;
  by_spool = λ spool. with_spool spool (values s.messages);
  messages = values s.messages;
  line = λ class key. get s.lines (class, key);
  lines = map line_of (entries s.lines);
  mark = get s.marks;
  notice = λ number. option_map (λ (n : Noted). notice_of (number, n)) (get s.notices number);
  notices = map notice_of (entries s.notices);
  ends = map end_of (entries s.ends);
}

-- the customer's rows of messages with their recipients, in order of serial
abbrev pub messages_in : List ℕ → Tables → List Message
messages_in customer t = map (λ e. joined customer t.recipients t.holds e.0 e.1)
    (rows_of text_cmp customer (entries t.messages))

-- how much the customer keeps, counted by the rows that have its name
abbrev pub kept_in : List ℕ → Tables → Counts
kept_in customer t = kept_of (λ (e : ℕ × Row). e.1.size)
    (rows_of text_cmp customer (entries t.messages)) (rows_of text_cmp customer (entries t.lines))

-- the tables of all, read at keys that begin with the customer's name, and by the rows that have
-- this name
abbrev pub read_tables : List ℕ → Tables → Readings
read_tables customer t = record {
  head = (account t.heads customer).head;
  counts = counts_told (kept_in customer t);
  message = λ serial. option_map (joined customer t.recipients t.holds serial)
      (get t.messages (customer, serial));
  by_spool = λ spool. with_spool spool (messages_in customer t);
  messages = messages_in customer t;
  line = λ class key. get t.lines (customer, (class, key));
  lines = map line_of (rows_of text_cmp customer (entries t.lines));
  mark = λ label. get t.marks (customer, label);
  notice = λ number. option_map (λ (n : Noted). notice_of (number, n))
      (get t.notices (customer, number));
  notices = map notice_of (rows_of text_cmp customer (entries t.notices));
  ends = map end_of (rows_of text_cmp customer (entries t.ends));
}

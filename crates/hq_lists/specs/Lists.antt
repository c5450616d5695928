-- The tables that plain lists stand for, and the order in which their rows lie. What a customer
-- keeps is counted in no list: its counts are those of its rows.
use Rattle.std.specs.Prelude.{ℕ, List}
use Rattle.std.specs.FinMap.{FinMap, entries}
use Rattle.hq_kept.specs.declared.account.Counts.{Counts}
use Rattle.hq_tables.specs.declared.account.Account.{Account}
use Rattle.hq_tables.specs.Tables.{Tables, Row, text_cmp}
use Rattle.hq_tables.specs.Readings.{kept_of}
use Rattle.hq_owned.specs.Owned.{rows_of}
use Rattle.hq_owned.specs.Rows.{map_of}
use Rattle.hq_rows.specs.declared.rows.LineRow.{LineRow}
use Rattle.hq_rows.specs.declared.rows.MessageRow.{MessageRow}
use Rattle.hq_rows.specs.Listed.{messages_of, recipients_of, holds_of, lines_of, marks_of}
use Rattle.hq_rows.specs.Listed.{notices_of, ends_of}
use Rattle.hq_rows.specs.Lookups.{AreUnique, AreDealt, AreUniqueLines, AreUniqueNotices}
use Rattle.hq_rows.specs.Lookups.{AreUniqueEnds}
use Rattle.hq_lists.specs.declared.heads.ListedHead.{ListedHead}
use Rattle.hq_lists.specs.declared.list_rows.ListRows.{ListRows}

-- how many messages and lines a customer has, and the bytes of its messages together
abbrev pub counts_in : List MessageRow → List LineRow → List ℕ → Counts
counts_in messages lines customer = kept_of (λ (e : ℕ × Row). e.1.size)
    (rows_of text_cmp customer (entries (messages_of messages)))
    (rows_of text_cmp customer (entries (lines_of lines)))

-- a head with its customer's counts
abbrev pub with_counts : (List ℕ → Counts) → ListedHead → Account
with_counts counts r = record { head = r.head; counts = counts r.customer }

-- the table of heads
abbrev pub accounts_of : (List ℕ → Counts) → List ListedHead → FinMap text_cmp Account
accounts_of counts rows = map_of text_cmp (λ (r : ListedHead). r.customer) (with_counts counts) rows

abbrev pub tables_of : ListRows → Tables
tables_of s = record {
  heads = accounts_of (counts_in s.messages.items s.lines.items) s.heads.items;
  messages = messages_of s.messages.items;
  recipients = recipients_of s.recipients.items;
  holds = holds_of s.holds.items;
  lines = lines_of s.lines.items;
  marks = marks_of s.marks.items;
  notices = notices_of s.notices.items;
  ends = ends_of s.ends.items;
}

-- no row stands twice, and recipients lie in the order of their places
abbrev pub AreInOrder : ListRows → Type 0
AreInOrder s = AreUnique s.messages.items × AreDealt s.recipients.items
    × AreUniqueLines s.lines.items × AreUniqueNotices s.notices.items
    × AreUniqueEnds s.ends.items

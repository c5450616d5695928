-- Rows of each table: the general lemmas at their keys.
use Rattle.std.proofs.Common.{◌≡◌, ℕ, not, List, [], ◌∷◌, ◌++◌, filter}
use Rattle.std.proofs.Common.{sym}
use Rattle.std.specs.Prelude.{option_map, nat_le, nat_lt}
use Rattle.std.specs.List as list
use Rattle.std.specs.FinMap.{get, insert, remove, retain_keys}
use Rattle.hq_tables.specs.Tables.{message_cmp, lines_cmp, left_of, noted_of}
use Rattle.hq_tables.specs.Tables.{end_cmp, past_of}
use Rattle.hq_owned.proofs.Lists.{get_table, table_drop, table_keep, table_put}
use Rattle.hq_owned.proofs.Unique.{unique_filter, unique_put}
use Rattle.hq_kept.specs.declared.pattern.Class.{Class}
use Rattle.hq_rows.specs.declared.rows.EndRow.{EndRow}
use Rattle.hq_rows.specs.declared.rows.HoldRow.{HoldRow}
use Rattle.hq_rows.specs.declared.rows.LineRow.{LineRow}
use Rattle.hq_rows.specs.declared.rows.MarkRow.{MarkRow}
use Rattle.hq_rows.specs.declared.rows.MessageRow.{MessageRow}
use Rattle.hq_rows.specs.declared.rows.NoticeRow.{NoticeRow}
use Rattle.hq_rows.specs.Listed.{message_key, message_value, messages_of, hold_key, hold_value}
use Rattle.hq_rows.specs.Listed.{holds_of, line_row_key, line_row_value, lines_of, mark_key}
use Rattle.hq_rows.specs.Listed.{mark_value, marks_of, notice_key, notice_value, notices_of}
use Rattle.hq_rows.specs.Listed.{end_key, end_value, ends_of}
use Rattle.hq_rows.specs.Lookups.{is_message, is_hold, AreUnique, is_line, AreUniqueLines}
use Rattle.hq_rows.specs.Lookups.{is_mark, is_notice, is_kept_notice, AreUniqueNotices}
use Rattle.hq_rows.specs.Lookups.{is_end, is_kept_end, is_earlier_end, AreUniqueEnds}
use Rattle.hq_tables.proofs.Orders.{message_total, lines_total, mark_total, message_exact}
use Rattle.hq_tables.proofs.Orders.{lines_exact, mark_exact, end_total, end_exact}

pub message_found : (rows : List MessageRow) (c : List ℕ) (serial : ℕ) →
    option_map message_value (list.find (is_message c serial) rows) ≡ get (messages_of rows) (
      c,
      serial,
    )
unfolding is_message
message_found rows c serial =
    sym (get_table message_total message_exact message_key message_value rows (c, serial))

pub message_drop : (rows : List MessageRow) (c : List ℕ) (serial : ℕ) →
    messages_of (filter (λ x. not (is_message c serial x)) rows) ≡ remove (messages_of rows) (
      c,
      serial,
    )
unfolding is_message
message_drop rows c serial =
    table_drop message_total message_exact message_key message_value (c, serial) rows

pub message_put : (rows : List MessageRow) (r : MessageRow) →
    messages_of (filter (λ x. not (is_message r.customer r.serial x)) rows ++ r ∷ []) ≡ insert
    (messages_of rows) (r.customer, r.serial) (message_value r)
unfolding is_message
message_put rows r = table_put message_total message_exact message_key message_value rows r

pub unique_drop : (rows : List MessageRow) (c : List ℕ) (serial : ℕ) → AreUnique rows →
    AreUnique (filter (λ x. not (is_message c serial x)) rows)
unfolding AreUnique
unique_drop rows c serial u = unique_filter message_cmp message_key _ rows u

pub unique_message : (rows : List MessageRow) (r : MessageRow) → AreUnique rows →
    AreUnique (filter (λ x. not (is_message r.customer r.serial x)) rows ++ r ∷ [])
unfolding AreUnique is_message
unique_message rows r u = unique_put message_total message_key rows r u

pub line_found : (rows : List LineRow) (c : List ℕ) (p : Class × List ℕ) →
    option_map line_row_value (list.find (is_line c p) rows) ≡ get (lines_of rows) (c, p)
unfolding is_line
line_found rows c p = sym
    (get_table lines_total lines_exact line_row_key line_row_value rows (c, p))

pub line_drop : (rows : List LineRow) (c : List ℕ) (p : Class × List ℕ) →
    lines_of (filter (λ x. not (is_line c p x)) rows) ≡ remove (lines_of rows) (c, p)
unfolding is_line
line_drop rows c p = table_drop lines_total lines_exact line_row_key line_row_value (c, p) rows

pub line_put : (rows : List LineRow) (r : LineRow) →
    lines_of (filter (λ x. not (is_line r.customer r.line.pattern x)) rows ++ r ∷ []) ≡ insert
    (lines_of rows) (r.customer, r.line.pattern) r.line.action
unfolding is_line
line_put rows r = table_put lines_total lines_exact line_row_key line_row_value rows r

pub unique_line_drop : (rows : List LineRow) (c : List ℕ) (p : Class × List ℕ) → AreUniqueLines rows
    → AreUniqueLines (filter (λ x. not (is_line c p x)) rows)
unfolding AreUniqueLines
unique_line_drop rows c p u = unique_filter lines_cmp line_row_key _ rows u

pub unique_line_put : (rows : List LineRow) (r : LineRow) → AreUniqueLines rows →
    AreUniqueLines (filter (λ x. not (is_line r.customer r.line.pattern x)) rows ++ r ∷ [])
unfolding AreUniqueLines is_line
unique_line_put rows r u = unique_put lines_total line_row_key rows r u

pub mark_found : (rows : List MarkRow) (c label : List ℕ) →
    option_map mark_value (list.find (is_mark c label) rows) ≡ get (marks_of rows) (c, label)
unfolding is_mark
mark_found rows c label = sym (get_table mark_total mark_exact mark_key mark_value rows (c, label))

pub mark_put : (rows : List MarkRow) (r : MarkRow) →
    marks_of (filter (λ x. not (is_mark r.customer r.mark.label x)) rows ++ r ∷ []) ≡ insert
    (marks_of rows) (r.customer, r.mark.label) r.mark
unfolding is_mark
mark_put rows r = table_put mark_total mark_exact mark_key mark_value rows r

pub hold_found : (rows : List HoldRow) (c : List ℕ) (serial : ℕ) →
    option_map hold_value (list.find (is_hold c serial) rows) ≡ get (holds_of rows) (c, serial)
unfolding is_hold
hold_found rows c serial = sym
    (get_table message_total message_exact hold_key hold_value rows (c, serial))

pub hold_drop : (rows : List HoldRow) (c : List ℕ) (serial : ℕ) →
    holds_of (filter (λ x. not (is_hold c serial x)) rows) ≡ remove (holds_of rows) (c, serial)
unfolding is_hold
hold_drop rows c serial = table_drop message_total message_exact hold_key hold_value (c, serial)
    rows

pub hold_put : (rows : List HoldRow) (r : HoldRow) →
    holds_of (filter (λ x. not (is_hold r.customer r.serial x)) rows ++ r ∷ []) ≡ insert
    (holds_of rows) (r.customer, r.serial) r.reason
unfolding is_hold
hold_put rows r = table_put message_total message_exact hold_key hold_value rows r

pub notice_put : (rows : List NoticeRow) (r : NoticeRow) →
    notices_of (filter (λ x. not (is_notice r.customer r.notice.number x)) rows ++ r ∷ []) ≡ insert
    (notices_of rows) (r.customer, r.notice.number) (noted_of r.notice)
unfolding is_notice
notice_put rows r = table_put message_total message_exact notice_key notice_value rows r

pub notices_kept : (rows : List NoticeRow) (c : List ℕ) (number : ℕ) →
    notices_of (filter (is_kept_notice c number) rows) ≡ retain_keys (notices_of rows)
    (left_of c (nat_le number))
unfolding is_kept_notice
notices_kept rows c number =
    table_keep message_total message_exact notice_key notice_value (left_of c (nat_le number)) rows

pub unique_notice_put : (rows : List NoticeRow) (r : NoticeRow) → AreUniqueNotices rows →
    AreUniqueNotices (filter (λ x. not (is_notice r.customer r.notice.number x)) rows ++ r ∷ [])
unfolding AreUniqueNotices is_notice
unique_notice_put rows r u = unique_put message_total notice_key rows r u

pub unique_notices_kept : (rows : List NoticeRow) (c : List ℕ) (number : ℕ) → AreUniqueNotices rows
    → AreUniqueNotices (filter (is_kept_notice c number) rows)
unfolding AreUniqueNotices
unique_notices_kept rows c number u = unique_filter message_cmp notice_key _ rows u

pub end_put : (rows : List EndRow) (r : EndRow) →
    ends_of (filter (λ x. not (is_end r.customer r.end.number x)) rows ++ r ∷ []) ≡ insert
    (ends_of rows) (r.customer, r.end.number) (past_of r.end)
unfolding is_end
end_put rows r = table_put end_total end_exact end_key end_value rows r

pub ends_kept : (rows : List EndRow) (c : List ℕ) (number : ℕ) →
    ends_of (filter (is_kept_end c number) rows) ≡ retain_keys (ends_of rows)
    (left_of c (nat_lt number))
unfolding is_kept_end
ends_kept rows c number =
    table_keep end_total end_exact end_key end_value (left_of c (nat_lt number)) rows

pub ends_earlier : (rows : List EndRow) (c : List ℕ) (number : ℕ) →
    ends_of (filter (is_earlier_end c number) rows) ≡ retain_keys (ends_of rows)
    (left_of c (λ n. nat_le n number))
unfolding is_earlier_end
ends_earlier rows c number =
    table_keep end_total end_exact end_key end_value (left_of c (λ n. nat_le n number)) rows

pub unique_end_put : (rows : List EndRow) (r : EndRow) → AreUniqueEnds rows →
    AreUniqueEnds (filter (λ x. not (is_end r.customer r.end.number x)) rows ++ r ∷ [])
unfolding AreUniqueEnds is_end
unique_end_put rows r u = unique_put end_total end_key rows r u

pub unique_ends_earlier : (rows : List EndRow) (c : List ℕ) (number : ℕ) → AreUniqueEnds rows
    → AreUniqueEnds (filter (is_earlier_end c number) rows)
unfolding AreUniqueEnds
unique_ends_earlier rows c number u = unique_filter end_cmp end_key _ rows u

pub unique_ends_kept : (rows : List EndRow) (c : List ℕ) (number : ℕ) → AreUniqueEnds rows
    → AreUniqueEnds (filter (is_kept_end c number) rows)
unfolding AreUniqueEnds
unique_ends_kept rows c number u = unique_filter end_cmp end_key _ rows u

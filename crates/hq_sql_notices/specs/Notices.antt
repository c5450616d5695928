-- What the statements on notices find and leave.
-- Inner: it serves proofs alone, and no promise rests on it.
use Rattle.std.specs.Prelude.{ℕ, ℤ, pos, negsuc, nat_le, List, [], ◌∷◌, map, Option, Some, None}
use Rattle.std.specs.FinMap.{insert, remove, retain_keys}
use Rattle.sqlite.specs.declared.types.Value.TheVariants.{Int, Text}
use Rattle.sqlite.specs.Order.{Row}
use Rattle.hq_keyed.specs.Values.{number}
use Rattle.hq_kept.specs.declared.notice.Notice.{Notice}
use Rattle.hq_rows.specs.declared.rows.NoticeRow.{NoticeRow}
use Rattle.hq_rows.specs.Listed.{notice_key, notice_value}
use Rattle.hq_tables.specs.Tables.{Tables, left_of}
use Rattle.hq_sql.specs.Rows.{kind_code, notice_shown}
use Rattle.hq_sql_notices.specs.declared.notice_values.NoticeNumbers.{NoticeNumbers}

abbrev pub notice_row : List ℕ → Notice → NoticeRow
notice_row customer notice = record { customer = customer; notice = notice }

-- the notice stands at its number
abbrev pub with_notice : NoticeRow → Tables → Tables
with_notice r t = record t { notices = insert t.notices (notice_key r) (notice_value r) }

-- no notice stands at the number
abbrev pub without_notice : List ℕ × ℕ → Tables → Tables
without_notice key t = record t { notices = remove t.notices key }

-- none of the customer's stands below the number
abbrev pub without_below : List ℕ → ℕ → Tables → Tables
without_below customer n t = record t {
  notices = retain_keys t.notices (left_of customer (nat_le n));
}

-- the numbers of a notice as columns take them
abbrev pub notice_numbers : Notice → NoticeNumbers
notice_numbers n = record {
  number = pos n.number;
  kind = pos (kind_code n.kind);
  serial = pos n.serial;
  at = pos n.at;
}

-- above which number notices are wanted
abbrev pub from_number : Option ℕ → ℤ
from_number None = negsuc 0
from_number (Some n) = pos n

-- what a page is asked with
abbrev pub notice_page_columns : List ℕ → Option ℕ → ℕ → Row
notice_page_columns customer after limit = Text customer ∷ Int (from_number after) ∷ number limit
    ∷ []

-- the notice of a row of an answer
abbrev pub notice_in : Row → Notice
notice_in r = (notice_shown r).notice

-- the notices of an answer
abbrev pub notices_in : List Row → List Notice
notices_in rows = map notice_in rows

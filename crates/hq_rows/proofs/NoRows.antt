-- Lists without a row stand for empty tables.
use Rattle.std.proofs.Common.{◌≡◌, [], sym, refl, ap, ◌∙◌}
use Rattle.std.specs.List.{IsDistinct}
use Rattle.std.specs.declared.cmp.Ordering.{Ordering}
use Rattle.std.specs.FinMap.{empty}
use Rattle.hq_owned.specs.Rows.{map_of}
use Rattle.hq_tables.specs.Tables.{text_cmp, lines_cmp, no_tables, pending_of, message_cmp}
use Rattle.hq_tables.specs.Tables.{recipient_cmp, mark_cmp, notice_cmp, end_cmp}
use Rattle.hq_rows.specs.Listed.{head_key, head_value, message_key, message_value, recipient_key}
use Rattle.hq_rows.specs.Listed.{recipient_value, recipients_of, hold_key, hold_value, holds_of}
use Rattle.hq_rows.specs.Listed.{heads_of, messages_of, line_row_key, line_row_value, lines_of}
use Rattle.hq_rows.specs.Listed.{mark_key, mark_value, marks_of, notice_key, notice_value}
use Rattle.hq_rows.specs.Listed.{notices_of, end_key, end_value, ends_of}
use Rattle.hq_rows.specs.Lookups.{AreUnique, AreDealt, AreUniqueLines, AreUniqueNotices}
use Rattle.hq_rows.specs.Lookups.{AreUniqueEnds}
use Rattle.hq_tables.proofs.Empty.{no_pending}

table_nothing : {A K X : Type 0} (R : K → K → Ordering) (key : A → K) (val : A → X) →
    map_of R key val [] ≡ empty
unfolding map_of
table_nothing R key val = refl

pub none_unique : AreUnique []
unfolding AreUnique IsDistinct
none_unique = tt

pub none_dealt : AreDealt []
unfolding AreDealt
none_dealt customer serial = sym
    (ap (pending_of customer serial) (table_nothing recipient_cmp recipient_key recipient_value)
    ∙ no_pending customer serial)

pub none_unique_notices : AreUniqueNotices []
unfolding AreUniqueNotices IsDistinct
none_unique_notices = tt

pub none_unique_ends : AreUniqueEnds []
unfolding AreUniqueEnds IsDistinct
none_unique_ends = tt

pub none_unique_lines : AreUniqueLines []
unfolding AreUniqueLines IsDistinct
none_unique_lines = tt

pub no_rows : record {
  heads = heads_of [];
  messages = messages_of [];
  recipients = recipients_of [];
  holds = holds_of [];
  lines = lines_of [];
  marks = marks_of [];
  notices = notices_of [];
  ends = ends_of [];
} ≡ no_tables
no_rows = λ i. record {
  heads = table_nothing text_cmp head_key head_value i;
  messages = table_nothing message_cmp message_key message_value i;
  recipients = table_nothing recipient_cmp recipient_key recipient_value i;
  holds = table_nothing message_cmp hold_key hold_value i;
  lines = table_nothing lines_cmp line_row_key line_row_value i;
  marks = table_nothing mark_cmp mark_key mark_value i;
  notices = table_nothing notice_cmp notice_key notice_value i;
  ends = table_nothing end_cmp end_key end_value i;
}

-- What plain lists of rows stand for, in whatever order the rows lie.
use Rattle.std.specs.Prelude.{ℕ, List}
use Rattle.std.specs.FinMap.{FinMap}
use Rattle.hq_kept.specs.declared.message.Pending.{Pending}
use Rattle.hq_kept.specs.declared.action.Action.{Action}
use Rattle.hq_kept.specs.declared.pattern.Class.{Class}
use Rattle.hq_tables.specs.declared.account.Account.{Account}
use Rattle.hq_rows.specs.declared.rows.EndRow.{EndRow}
use Rattle.hq_rows.specs.declared.rows.HeadRow.{HeadRow}
use Rattle.hq_rows.specs.declared.rows.HoldRow.{HoldRow}
use Rattle.hq_rows.specs.declared.rows.LineRow.{LineRow}
use Rattle.hq_kept.specs.declared.mark.Mark.{Mark}
use Rattle.hq_rows.specs.declared.rows.MarkRow.{MarkRow}
use Rattle.hq_rows.specs.declared.rows.MessageRow.{MessageRow}
use Rattle.hq_rows.specs.declared.rows.NoticeRow.{NoticeRow}
use Rattle.hq_rows.specs.declared.rows.RecipientRow.{RecipientRow}
use Rattle.hq_tables.specs.Tables.{Row, Noted, Past, text_cmp, message_cmp, recipient_cmp}
use Rattle.hq_tables.specs.Tables.{lines_cmp}
use Rattle.hq_tables.specs.Tables.{mark_cmp, notice_cmp, end_cmp, noted_of, past_of}
use Rattle.hq_owned.specs.Rows.{map_of}

-- ---- keys and values of rows

abbrev pub head_key : HeadRow → List ℕ
head_key r = r.customer

abbrev pub head_value : HeadRow → Account
head_value r = r.account

abbrev pub message_key : MessageRow → List ℕ × ℕ
message_key r = (r.customer, r.serial)

abbrev pub message_value : MessageRow → Row
message_value r = record {
  sender = r.sender;
  spool = r.spool;
  size = r.size;
  arrival = r.arrival;
  state = r.state;
  next_try = r.next_try;
  attempts = r.attempts;
  warned = r.warned;
}

abbrev pub recipient_key : RecipientRow → List ℕ × (ℕ × ℕ)
recipient_key r = (r.customer, (r.serial, r.place))

abbrev pub recipient_value : RecipientRow → Pending
recipient_value r = r.pending

abbrev pub hold_key : HoldRow → List ℕ × ℕ
hold_key r = (r.customer, r.serial)

abbrev pub hold_value : HoldRow → List ℕ
hold_value r = r.reason

abbrev pub line_row_key : LineRow → List ℕ × (Class × List ℕ)
line_row_key r = (r.customer, r.line.pattern)

abbrev pub line_row_value : LineRow → Action
line_row_value r = r.line.action

abbrev pub mark_key : MarkRow → List ℕ × List ℕ
mark_key r = (r.customer, r.mark.label)

abbrev pub mark_value : MarkRow → Mark
mark_value r = r.mark

abbrev pub notice_key : NoticeRow → List ℕ × ℕ
notice_key r = (r.customer, r.notice.number)

abbrev pub notice_value : NoticeRow → Noted
notice_value r = noted_of r.notice

abbrev pub end_key : EndRow → List ℕ × ℕ
end_key r = (r.customer, r.end.number)

abbrev pub end_value : EndRow → Past
end_value r = past_of r.end

-- ---- the tables that rows stand for: of rows with one key the first counts

abbrev pub heads_of : List HeadRow → FinMap text_cmp Account
heads_of rows = map_of text_cmp head_key head_value rows

abbrev pub messages_of : List MessageRow → FinMap message_cmp Row
messages_of rows = map_of message_cmp message_key message_value rows

abbrev pub recipients_of : List RecipientRow → FinMap recipient_cmp Pending
recipients_of rows = map_of recipient_cmp recipient_key recipient_value rows

abbrev pub holds_of : List HoldRow → FinMap message_cmp (List ℕ)
holds_of rows = map_of message_cmp hold_key hold_value rows

abbrev pub lines_of : List LineRow → FinMap lines_cmp Action
lines_of rows = map_of lines_cmp line_row_key line_row_value rows

abbrev pub marks_of : List MarkRow → FinMap mark_cmp Mark
marks_of rows = map_of mark_cmp mark_key mark_value rows

abbrev pub notices_of : List NoticeRow → FinMap notice_cmp Noted
notices_of rows = map_of notice_cmp notice_key notice_value rows

abbrev pub ends_of : List EndRow → FinMap end_cmp Past
ends_of rows = map_of end_cmp end_key end_value rows

-- The tables of a store, as the finite maps of the definitions.
use Rattle.std.specs.Prelude.{◌≡◌, pos, List, [], ◌∷◌, map, IsTrue}
use Rattle.sqlite.specs.declared.types.Value.TheVariants.{Int}
use Rattle.sqlite.specs.Effect.{Database}
use Rattle.sqlite.specs.Order.{Row, column}
use Rattle.sqlite.specs.State.{State}
use Rattle.hq_keyed.specs.Stored.{IsStored}
use Rattle.hq_schema.specs.Schema.{desk_schema}
use Rattle.hq_tables.specs.Tables.{Tables, text_cmp, message_cmp, recipient_cmp, lines_cmp}
use Rattle.hq_tables.specs.Tables.{mark_cmp}
use Rattle.hq_tables.specs.Tables.{notice_cmp, end_cmp}
use Rattle.hq_rows.specs.Listed.{head_key, message_key, recipient_key, hold_key, line_row_key}
use Rattle.hq_rows.specs.Listed.{mark_key, notice_key, heads_of, messages_of, recipients_of}
use Rattle.hq_rows.specs.Listed.{holds_of, lines_of, marks_of, notices_of, end_key, ends_of}
use Rattle.hq_sql.specs.Rows.{head_stored, head_read, message_stored, message_read}
use Rattle.hq_sql.specs.Rows.{recipient_stored, recipient_read, hold_stored, hold_read, line_stored}
use Rattle.hq_sql.specs.Rows.{line_read, mark_stored, mark_read, notice_stored, notice_read}
use Rattle.hq_sql.specs.Rows.{end_stored, end_read}

-- the rows of each tree, read as rows of its table
abbrev pub tables_in : Database → Tables
tables_in db = record {
  heads = heads_of (map head_read (db.trees 1));
  messages = messages_of (map message_read (db.trees 3));
  recipients = recipients_of (map recipient_read (db.trees 6));
  holds = holds_of (map hold_read (db.trees 14));
  lines = lines_of (map line_read (db.trees 8));
  marks = marks_of (map mark_read (db.trees 12));
  notices = notices_of (map notice_read (db.trees 10));
  ends = ends_of (map end_read (db.trees 16));
}

abbrev pub AreHeads : List Row → Type 0
AreHeads = IsStored head_stored head_read text_cmp head_key

abbrev pub AreMessages : List Row → Type 0
AreMessages = IsStored message_stored message_read message_cmp message_key

abbrev pub AreRecipients : List Row → Type 0
AreRecipients = IsStored recipient_stored recipient_read recipient_cmp recipient_key

abbrev pub AreHolds : List Row → Type 0
AreHolds = IsStored hold_stored hold_read message_cmp hold_key

abbrev pub AreLines : List Row → Type 0
AreLines = IsStored line_stored line_read lines_cmp line_row_key

abbrev pub AreMarks : List Row → Type 0
AreMarks = IsStored mark_stored mark_read mark_cmp mark_key

abbrev pub AreNotices : List Row → Type 0
AreNotices = IsStored notice_stored notice_read notice_cmp notice_key

abbrev pub AreEnds : List Row → Type 0
AreEnds = IsStored end_stored end_read end_cmp end_key

-- The schema is the desk's, its version is 3, and each row is a value of its type.
pub record IsDesk (db : Database) : Type 0 where
  pub schema_is : db.schema ≡ desk_schema
  pub version : map (λ r. column r 1) (db.trees 0) ≡ Int (pos 3) ∷ []
  pub heads : AreHeads (db.trees 1)
  pub messages : AreMessages (db.trees 3)
  pub recipients : AreRecipients (db.trees 6)
  pub holds : AreHolds (db.trees 14)
  pub lines : AreLines (db.trees 8)
  pub notices : AreNotices (db.trees 10)
  pub marks : AreMarks (db.trees 12)
  pub ends : AreEnds (db.trees 16)

-- a write inside a transaction left these tables, and the transaction goes on
pub record Leaves (old new : State) (t : Tables) : Type 0 where
  pub desk : IsDesk new.now
  pub tables : tables_in new.now ≡ t
  pub is_open : IsTrue new.is_open
  pub was_open : IsTrue old.is_open
  pub mode : new.in_transaction ≡ old.in_transaction
  pub committed : IsTrue old.in_transaction → new.committed ≡ old.committed

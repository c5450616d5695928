-- The stores of the three versions, and what a migration makes of the first two.
use Rattle.std.specs.Prelude.{◌≡◌, ◌⊎◌, ℕ, ℤ, List, [], ◌∷◌, map, filter, length}
use Rattle.std.specs.FinMap.{FinMap, empty, entries}
use Rattle.sqlite.specs.declared.types.Value.TheVariants.{Int}
use Rattle.sqlite.specs.Effect.{Database}
use Rattle.sqlite.specs.Schema.{Schema}
use Rattle.hq_keyed.specs.Values.{number}
use Rattle.hq_schema.specs.Schema.{first_schema, second_schema, desk_schema}
use Rattle.hq_sql_open.specs.Lifted.{on_hold, holds_for}
use Rattle.hq_rows.specs.Listed.{holds_of}
use Rattle.hq_tables.specs.Tables.{Tables, Row, message_cmp}
use Rattle.hq_sql.specs.Rows.{hold_read}
use Rattle.hq_sql.specs.Tables.{tables_in, AreHeads, AreMessages, AreRecipients, AreLines}
use Rattle.hq_sql.specs.Tables.{AreNotices, AreMarks, AreHolds, AreEnds}

-- the reasons in the rows of holds
abbrev pub holds_in : Database → FinMap message_cmp (List ℕ)
holds_in db = holds_of (map hold_read (db.trees 14))

-- the one row of the version table, under some rowid
pub record HasVersion (db : Database) (version : ℕ) : Type 0 where
  pub rowid : ℤ
  pub row_is : db.trees 0 ≡ (Int rowid ∷ number version ∷ []) ∷ []

-- the rows of the tables that all versions have
pub record HoldsRows (db : Database) : Type 0 where
  pub heads : AreHeads (db.trees 1)
  pub messages : AreMessages (db.trees 3)
  pub recipients : AreRecipients (db.trees 6)
  pub lines : AreLines (db.trees 8)
  pub notices : AreNotices (db.trees 10)
  pub marks : AreMarks (db.trees 12)

-- the schema of a store of an earlier version
abbrev pub IsEarlier : Schema → Type 0
IsEarlier schema = (schema ≡ first_schema) ⊎ (schema ≡ second_schema)

-- a version 1 store: its schema is the first, its version is 1, and each row is a value of its type
pub record IsFirst (db : Database) : Type 0 where
  pub schema_is : db.schema ≡ first_schema
  pub version : HasVersion db 1
  pub rows : HoldsRows db

-- a version 2 store, likewise, with the reasons of messages on hold
pub record IsSecond (db : Database) : Type 0 where
  pub schema_is : db.schema ≡ second_schema
  pub version : HasVersion db 2
  pub rows : HoldsRows db
  pub holds : AreHolds (db.trees 14)

-- a version 3 store, likewise, with histories
pub record IsThird (db : Database) : Type 0 where
  pub schema_is : db.schema ≡ desk_schema
  pub version : HasVersion db 3
  pub rows : HoldsRows db
  pub holds : AreHolds (db.trees 14)
  pub ends : AreEnds (db.trees 16)

-- the tables of a version 2 store, which has no history
abbrev pub second_tables_in : Database → Tables
second_tables_in db = record (tables_in db) { ends = empty }

-- the tables of a version 1 store, in which no message has a reason
abbrev pub first_tables_in : Database → Tables
first_tables_in db = record (tables_in db) { holds = empty; ends = empty }

-- how many messages are on hold
abbrev pub count_on_hold : FinMap message_cmp Row → ℕ
count_on_hold messages = length (filter on_hold (entries messages))

-- the tables of a version 1 store, with this reason for each message on hold and no other
abbrev pub lifted_in : List ℕ → Database → Tables
lifted_in reason db = record (first_tables_in db) {
  holds = holds_for reason (first_tables_in db).messages;
}

-- a version 3 store with these tables
pub record HoldsThird (t : Tables) (db : Database) : Type 0 where
  pub third : IsThird db
  pub tables : tables_in db ≡ t

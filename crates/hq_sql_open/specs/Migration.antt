-- What a migration does and keeps. `old` and `new` are what is seen of a connection before and
-- after.
use Rattle.std.specs.Prelude.{◌≡◌, ◌≢◌, ◌⊎◌, ℕ, List, [], ◌∷◌, map, Option, None, Some, Result}
use Rattle.std.specs.Prelude.{OnErr, IsTrue}
use Rattle.sqlite.specs.declared.error.Error.{Error}
use Rattle.sqlite.specs.Effect.{Database, IsDatabase}
use Rattle.sqlite.specs.State.{State, HasCleanDisk, KeepsCommit}
use Rattle.sqlite.specs.Order.{Row, column}
use Rattle.sqlite.specs.Tree.{Trees}
use Rattle.sqlite_rules.specs.Edit.{IsNoIndex}
use Rattle.hq_keyed.specs.Left.{IsQuiet, LeavesNoMore}
use Rattle.hq_keyed.specs.Values.{number}
use Rattle.hq_schema.specs.Schema.{first_schema, second_schema, desk_schema}
use Rattle.hq_tables.specs.Tables.{Tables}
use Rattle.hq_sql_open.specs.Lifted.{holds_for}
use Rattle.hq_rows.specs.Listed.{messages_of, holds_of}
use Rattle.hq_sql.specs.Rows.{message_read, hold_read}
use Rattle.hq_sql.specs.Tables.{AreMessages, AreHolds}
use Rattle.hq_sql_open.specs.Found.{desk_with}
use Rattle.hq_sql_open.specs.Making.{GoesOn}
use Rattle.hq_sql_open.specs.Opening.{versions_in, Rests}
use Rattle.hq_sql_open.specs.Transactions.{IsSettled}
use Rattle.hq_sql_open.specs.Stores.{HasVersion, holds_in, first_tables_in, second_tables_in}
use Rattle.hq_sql_open.specs.Stores.{count_on_hold, lifted_in, IsEarlier, IsFirst, IsSecond}
use Rattle.hq_sql_open.specs.Stores.{HoldsThird}

-- the table of holds is there, and has no row
pub record HasEmptyHolds (db : Database) : Type 0 where
  pub schema_is : db.schema ≡ desk_schema
  pub messages : AreMessages (db.trees 3)
  pub empty : db.trees 14 ≡ []

-- the rows of the tables that all versions have stay
pub record SameRows (old new : Database) : Type 0 where
  pub version : new.trees 0 ≡ old.trees 0
  pub heads : new.trees 1 ≡ old.trees 1
  pub messages : new.trees 3 ≡ old.trees 3
  pub recipients : new.trees 6 ≡ old.trees 6
  pub lines : new.trees 8 ≡ old.trees 8
  pub notices : new.trees 10 ≡ old.trees 10
  pub marks : new.trees 12 ≡ old.trees 12

-- the tables that the first version lacks were made, without a row
pub record Widens (old new : State) : Type 0 where
  pub schema_is : new.now.schema ≡ desk_schema
  pub same : SameRows old.now new.now
  pub no_holds : new.now.trees 14 ≡ []
  pub no_ends : new.now.trees 16 ≡ []
  pub goes : GoesOn old new

-- the rows that holds is filled with: one with this reason for each message on hold, and no other
pub record AreReasons (reason : List ℕ) (messages holds : List Row) (count : ℕ) : Type 0 where
  pub are : AreHolds holds
  pub found : holds_of (map hold_read holds) ≡ holds_for reason
      (messages_of (map message_read messages))
  pub count_is : count ≡ count_on_hold (messages_of (map message_read messages))

-- it got a row with this reason for each message on hold, and no other, and the other tables stay
pub record Fills (reason : List ℕ) (count : ℕ) (old new : State) : Type 0 where
  pub schema_is : new.now.schema ≡ desk_schema
  pub holds : AreHolds (new.now.trees 14)
  pub others : (t : ℕ) → t ≢ 14 → IsNoIndex desk_schema t → new.now.trees t ≡ old.now.trees t
  pub found : holds_in new.now ≡ holds_for reason (messages_of (map message_read (old.now.trees 3)))
  pub count_is : count ≡ count_on_hold (messages_of (map message_read (old.now.trees 3)))
  pub goes : GoesOn old new

-- the version is 3, and the other tables stay
pub record Stamps (old new : State) : Type 0 where
  pub schema_is : new.now.schema ≡ desk_schema
  pub version : HasVersion new.now 3
  pub others : (t : ℕ) → t ≢ 0 → IsNoIndex desk_schema t → new.now.trees t ≡ old.now.trees t
  pub is_open : IsTrue new.is_open
  pub goes : GoesOn old new

-- inside a transaction the store became one of version 3, with these tables
pub record MakesThird (t : Tables) (old new : State) : Type 0 where
  pub holds : HoldsThird t new.now
  pub is_open : IsTrue new.is_open
  pub goes : GoesOn old new

-- of one of version 1, of which so many messages are on hold
abbrev pub Lifts : List ℕ → ℕ → State → State → Type 0
Lifts reason count old new = MakesThird (lifted_in reason old.now) old new
    × (count ≡ count_on_hold (first_tables_in old.now).messages)

-- of one of version 2
abbrev pub Raises : State → State → Type 0
Raises old new = MakesThird (second_tables_in old.now) old new

-- all of it is committed
pub record CommitsThird (t : Tables) (new : State) : Type 0 where
  pub settled : IsSettled new
  pub holds : HoldsThird t new.now

abbrev pub Migrates : List ℕ → ℕ → State → State → Type 0
Migrates reason count old new = CommitsThird (lifted_in reason old.now) new
    × (count ≡ count_on_hold (first_tables_in old.now).messages)

abbrev pub Upgrades : State → State → Type 0
Upgrades old new = CommitsThird (second_tables_in old.now) new

-- the trees are those of a whole version 3 store with these tables
pub record TreesOfThird (t : Tables) (trees : Trees) : Type 0 where
  pub sound : IsDatabase (desk_with trees)
  pub holds : HoldsThird t (desk_with trees)

-- an open after a crash may find what it might have found before, or a whole version 3 store with
-- these tables
abbrev pub LeavesThird : Tables → State → State → Type 0
LeavesThird t old new = HasCleanDisk new → (db : Trees) → new.may_leave db → old.may_leave db
    ⊎ TreesOfThird t db

-- What a migration keeps of a store of an earlier version.
pub record KeepsMigration {X : Type 0} (Is : Database → Type 0) (made : Database → Tables)
    (old new : State) (result : Result X Error) : Type 0 where
  -- what was committed, where it fails
  pub kept : HasCleanDisk new → OnErr result (KeepsCommit old new)
  pub quiet : IsQuiet old new
  pub stops : IsSettled old → Is old.now → LeavesThird (made old.now) old new

-- ---- which store it is

-- the one row of the version table is this
abbrev pub IsVersion : ℕ → Database → Type 0
IsVersion n db = versions_in db ≡ number n ∷ []

-- its schema is the first, and its version is 1
abbrev pub IsFirstStore : Database → Type 0
IsFirstStore db = (db.schema ≡ first_schema) × IsVersion 1 db

-- its schema is the second, and its version is 2
abbrev pub IsSecondStore : Database → Type 0
IsSecondStore db = (db.schema ≡ second_schema) × IsVersion 2 db

-- its schema is schema 3, and its version is 3
abbrev pub IsThirdStore : Database → Type 0
IsThirdStore db = (db.schema ≡ desk_schema) × IsVersion 3 db

-- none of them
abbrev pub IsNoStore : Database → Type 0
IsNoStore db = (¬ IsFirstStore db) × ((¬ IsSecondStore db) × (¬ IsThirdStore db))

-- one row, which shows this
abbrev pub ShowsVersion : ℕ → List Row → Type 0
ShowsVersion n rows = (row : Row) × (rows ≡ row ∷ []) × (column row 0 ≡ number n)

-- What reading the version table of a store of an earlier version keeps.
pub record KeepsVersion {X : Type 0} (old new : State) (result : Result X Error) : Type 0 where
  pub kept : HasCleanDisk new → IsEarlier old.now.schema → OnErr result (KeepsCommit old new)
  pub quiet : IsQuiet old new
  pub stops : IsEarlier old.now.schema → LeavesNoMore old new

-- What a migration does, by its answer: a store of version 1 or 2 becomes one of version 3, and how
-- many messages got a reason is told; one of version 3 stays, and 0 is told; any other stays, and
-- is told.
abbrev pub MigratesBy : List ℕ → Option ℕ → State → State → Type 0
MigratesBy reason (Some n) old new = (IsFirstStore old.now
    × (IsFirst old.now → Migrates reason n old new))
    ⊎ ((IsSecondStore old.now × (n ≡ 0) × (IsSecond old.now → Upgrades old new))
    ⊎ (IsThirdStore old.now × (n ≡ 0) × Rests old new))
MigratesBy reason None old new = IsNoStore old.now × Rests old new

-- What it keeps of any store.
pub record KeepsAny {X : Type 0} (reason : List ℕ) (old new : State) (result : Result X Error) :
    Type 0 where
  pub kept : HasCleanDisk new → IsSettled old → OnErr result (KeepsCommit old new)
  pub quiet : IsQuiet old new
  pub first_stops : IsSettled old → IsFirst old.now → LeavesThird (lifted_in reason old.now) old new
  pub second_stops : IsSettled old → IsSecond old.now →
      LeavesThird (second_tables_in old.now) old new
  pub no_stops : (¬ IsFirstStore old.now) → (¬ IsSecondStore old.now) → LeavesNoMore old new

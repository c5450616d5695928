-- What is done with a store that is opened. `old` and `new` are what is seen of a connection before
-- and after.
use Rattle.std.specs.Prelude.{◌≡◌, ◌⊎◌, Bool, true, false, pos, List, [], ◌∷◌, map, IsTrue}
use Rattle.std.specs.Prelude.{IsPermutation, Result, OnErr}
use Rattle.sqlite.specs.declared.error.Error.{Error}
use Rattle.sqlite.specs.declared.types.Value.{Value}
use Rattle.sqlite.specs.declared.types.Value.TheVariants.{Int}
use Rattle.sqlite.specs.Effect.{Database}
use Rattle.sqlite.specs.Order.{Row, column}
use Rattle.sqlite.specs.State.{State, HasCleanDisk, IsUnchanged, KeepsCommit}
use Rattle.sqlite.specs.Tree.{Trees}
use Rattle.hq_keyed.specs.Left.{IsQuiet, LeavesNoMore}
use Rattle.hq_schema.specs.Schema.{no_schema, version_alone, desk_schema}
use Rattle.hq_tables.specs.Tables.{no_tables}
use Rattle.hq_sql_open.specs.Found.{HoldDesk}
use Rattle.hq_sql_open.specs.Transactions.{IsSettled, Commits}

-- what the rows of the version table show
abbrev pub versions_in : Database → List Value
versions_in db = map (λ r. column r 1) (db.trees 0)

-- the one row of the version table is 3
abbrev pub IsVersioned : Database → Type 0
IsVersioned db = versions_in db ≡ Int (pos 3) ∷ []

-- nothing was made yet, or the version table alone, without a row
abbrev pub IsUnmade : Database → Type 0
IsUnmade db = (db.schema ≡ no_schema) ⊎ ((db.schema ≡ version_alone) × (db.trees 0 ≡ []))

-- a desk's store: its schema is exactly schema 3, and its version is 3
abbrev pub IsDeskStore : Database → Type 0
IsDeskStore db = (db.schema ≡ desk_schema) × IsVersioned db

-- neither
abbrev pub IsForeign : Database → Type 0
IsForeign db = (¬ IsUnmade db) × (¬ IsDeskStore db)

-- all that was committed stays, and the connection is settled
abbrev pub Rests : State → State → Type 0
Rests old new = IsSettled new × KeepsCommit old new

-- What opening does, by its answer: a store in which nothing was made gets the tables of a desk,
-- without a row; a desk's store stays as it is; and so does any other, which is told.
abbrev pub Opens : Bool → State → State → Type 0
Opens true old new = (IsUnmade old.now × Commits new no_tables)
    ⊎ (IsDeskStore old.now × Rests old new)
Opens false old new = IsForeign old.now × Rests old new

-- an open after a crash may find what it might have found before; or, of a store in which nothing
-- was made, a desk without a row
abbrev pub LeavesEmptyDesk : State → State → Type 0
LeavesEmptyDesk old new = HasCleanDisk new → (db : Trees) → new.may_leave db → old.may_leave db
    ⊎ (IsUnmade old.now × HoldDesk db no_tables)

-- What opening keeps.
pub record KeepsOpening {X : Type 0} (old new : State) (result : Result X Error) : Type 0 where
  -- what was committed, where it fails
  pub kept : HasCleanDisk new → IsSettled old → OnErr result (KeepsCommit old new)
  pub quiet : IsQuiet old new
  pub stops : IsSettled old → LeavesEmptyDesk old new

-- rows that show these versions, in some order
abbrev pub ShowVersions : Database → List Row → Type 0
ShowVersions db rows = IsPermutation (map (λ v. v ∷ []) (versions_in db)) rows

-- one row, which shows 3
abbrev pub ShowsOne : List Row → Type 0
ShowsOne rows = (row : Row) × (rows ≡ row ∷ []) × (column row 0 ≡ Int (pos 3))

-- the version table is there, and its name means it
abbrev pub HasVersions : Database → Type 0
HasVersions db = (db.schema ≡ desk_schema) ⊎ (db.schema ≡ version_alone)

-- the answer is yes where the claim holds, and there alone; nothing changed
pub record TellsWhether (yes : Bool) (claim : Type 0) (old new : State) : Type 0 where
  pub only : IsTrue yes → claim
  pub all : claim → IsTrue yes
  pub same : IsUnchanged old new

-- What reading the version table keeps.
pub record KeepsReading {X : Type 0} (old new : State) (result : Result X Error) : Type 0 where
  pub kept : HasCleanDisk new → HasVersions old.now → OnErr result (KeepsCommit old new)
  pub quiet : IsQuiet old new
  pub stops : HasVersions old.now → LeavesNoMore old new

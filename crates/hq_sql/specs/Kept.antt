-- What a statement finds, makes and keeps. `old` and `new` are what is seen of its connection
-- before and after.
-- Inner: it serves proofs alone, and no promise rests on it.
use Rattle.std.specs.Prelude.{◌≡◌, ◌≢◌, ℕ, List, Bool, true, false, Option, None, Result, Ok, Err}
use Rattle.std.specs.Prelude.{IfOk, OnOk, OnErr, IsTrue, is_some}
use Rattle.sqlite.specs.declared.error.Error.{Error}
use Rattle.sqlite.specs.declared.error.Error.TheVariants.{SqliteFailure}
use Rattle.sqlite.specs.declared.error.ErrorCode.TheVariants.{ConstraintViolation}
use Rattle.sqlite_schema.specs.declared.schema.Constraint.TheVariants.{Unique}
use Rattle.sqlite.specs.Order.{Row}
use Rattle.sqlite.specs.State.{State, HasCleanDisk, Executes, IsLive, IsUnchanged, KeepsCommit}
use Rattle.hq_keyed.specs.Left.{IsQuiet, LeavesNoMore}
use Rattle.hq_tables.specs.Tables.{Tables}
use Rattle.hq_sql.specs.Tables.{IsDesk, Leaves, tables_in}

-- A query's answer, as `seen`, is `f` of the tables before.
abbrev pub Shows : {X Y : Type 0} → State → State → Result X Error → (X → Y) → (Tables → Y) → Type 0
Shows old new result seen f = HasCleanDisk new → IsDesk old.now →
    IfOk result (λ answer. seen answer ≡ f (tables_in old.now))

-- What is found is `f` of the tables before.
abbrev pub Yields : {X : Type 0} → State → State → Result X Error → (Tables → X) → Type 0
Yields old new result f = HasCleanDisk new → IsDesk old.now →
    IfOk result (λ found. found ≡ f (tables_in old.now))

-- A write that succeeds leaves `f` of the tables before.
abbrev pub Writes : {X : Type 0} → State → State → Result X Error → (Tables → Tables) → Type 0
Writes old new result f = HasCleanDisk new → IsDesk old.now →
    OnOk result (Leaves old new (f (tables_in old.now)))

-- So does an INSERT, where nothing stands at the key before.
abbrev pub Inserts : {X V : Type 0} → State → State → Result X Error → (Tables → Option V) →
    (Tables → Tables) → Type 0
Inserts old new result at f = HasCleanDisk new → IsDesk old.now → at (tables_in old.now) ≡ None →
    OnOk result (Leaves old new (f (tables_in old.now)))

-- What an INSERT did, by whether it tells that a unique key was taken. That is no error of it.
abbrev pub HasTried : List ℕ → Row → State → State → Result Bool Error → Type 0
HasTried sql params old new (Ok true) =
    Executes sql params old new (Err (SqliteFailure (ConstraintViolation Unique))) × IsLive new
HasTried sql params old new (Ok false) = (count : ℕ) × Executes sql params old new (Ok count)
HasTried sql params old new (Err e) = Executes sql params old new (Err e)
    × (e ≢ SqliteFailure (ConstraintViolation Unique))

-- What a write by key leaves, by whether it tells of a row there: `before` is what stood at the
-- key, and `t` and `after` are what it leaves without a row and with one.
pub record Updated {V : Type 0} (there : Bool) (old new : State) (before : Option V)
    (t after : Tables) : Type 0 where
  pub made : there ≡ true → Leaves old new after
  pub untouched : there ≡ false → Leaves old new t
  pub free : there ≡ false → before ≡ None
  pub taken : there ≡ true → is_some before ≡ true

-- An UPDATE by key tells whether a row stands there, and leaves `f` of the tables before where one
-- does.
abbrev pub Updates : {V : Type 0} → State → State → Result Bool Error → (Tables → Option V) →
    (Tables → Tables) → Type 0
Updates old new result at f = HasCleanDisk new → IsDesk old.now →
    IfOk result (λ there. Updated there old new (at (tables_in old.now)) (tables_in old.now)
    (f (tables_in old.now)))

-- An INSERT by key tells whether a row stands there, and leaves `f` of the tables before where none
-- does.
abbrev pub Adds : {V : Type 0} → State → State → Result Bool Error → (Tables → Option V) →
    (Tables → Tables) → Type 0
Adds old new result at f = HasCleanDisk new → IsDesk old.now →
    IfOk result (λ there. Updated there old new (at (tables_in old.now)) (f (tables_in old.now))
    (tables_in old.now))

-- What a query keeps.
pub record Intact {X : Type 0} (old new : State) (result : Result X Error) : Type 0 where
  -- all, where it answers
  pub same : HasCleanDisk new → IsDesk old.now → OnOk result (IsUnchanged old new)
  -- what was committed, where it fails
  pub kept : HasCleanDisk new → IsDesk old.now → OnErr result (KeepsCommit old new)
  -- what is clean now was clean
  pub quiet : IsQuiet old new
  -- a crash finds no more than before
  pub stops : IsDesk old.now → LeavesNoMore old new

-- What a write inside a transaction keeps.
pub record KeepsCommitted (old new : State) : Type 0 where
  pub kept : HasCleanDisk new → IsDesk old.now → IsTrue old.in_transaction → KeepsCommit old new
  pub quiet : IsQuiet old new
  pub stops : IsDesk old.now → IsTrue old.in_transaction → LeavesNoMore old new

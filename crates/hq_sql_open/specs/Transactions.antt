-- Transactions: what begins one, ends one or undoes one leaves. `old` and `new` are what is seen of
-- a connection before and after.
use Rattle.std.specs.Prelude.{◌≡◌, ◌⊎◌, true, false, ⊤, Result, Err, OnOk, OnErr, IsTrue}
use Rattle.sqlite.specs.declared.error.Error.{Error}
use Rattle.sqlite.specs.declared.error.Error.TheVariants.{SqliteFailure}
use Rattle.sqlite.specs.declared.error.ErrorCode.TheVariants.{Closed}
use Rattle.sqlite.specs.State.{State, HasCleanDisk, Shows, IsUnchanged, KeepsCommit}
use Rattle.sqlite.specs.Tree.{Trees}
use Rattle.hq_keyed.specs.Left.{IsQuiet, LeavesNoMore}
use Rattle.hq_tables.specs.Tables.{Tables}
use Rattle.hq_sql.specs.Tables.{IsDesk, tables_in}

-- a transaction began
abbrev pub IsBegun : State → State → Type 0
IsBegun old new = Shows old new old.now old.committed true

-- what the transaction saw is committed
abbrev pub IsDone : State → State → Type 0
IsDone old new = Shows old new old.now old.now false

-- open, in no transaction, with what the last commit left
pub record IsSettled (s : State) : Type 0 where
  pub is_open : IsTrue s.is_open
  pub mode : s.in_transaction ≡ false
  pub now : s.now ≡ s.committed

-- in no transaction, and what is committed is a desk
pub record IsAtRest (s : State) : Type 0 where
  pub settled : IsSettled s
  pub desk : IsDesk s.committed

-- so it is, and these are its tables
pub record Commits (s : State) (t : Tables) : Type 0 where
  pub settled : IsSettled s
  pub desk : IsDesk s.now
  pub tables : tables_in s.now ≡ t

-- an open after a crash may find what it might have found before, or these trees
abbrev pub LeavesAlso : State → State → Trees → Type 0
LeavesAlso old new trees = HasCleanDisk new → (db : Trees) → new.may_leave db → old.may_leave db
    ⊎ (db ≡ trees)

-- What a call keeps that fails or answers no: what was committed; and what it keeps in any case.
pub record KeepsUnlessDone {X : Type 0} (old new : State) (result : Result X Error) : Type 0 where
  pub kept : HasCleanDisk new → OnErr result (KeepsCommit old new)
  -- what is clean now was clean
  pub quiet : IsQuiet old new
  -- a crash finds no more than before
  pub stops : LeavesNoMore old new

-- What a commit keeps: a crash may find what it was to commit.
pub record KeepsOrCommits {X : Type 0} (old new : State) (result : Result X Error) : Type 0 where
  pub kept : HasCleanDisk new → OnErr result (KeepsCommit old new)
  pub quiet : IsQuiet old new
  pub stops : LeavesAlso old new old.now.trees

-- What undoing keeps.
pub record KeepsAll (old new : State) : Type 0 where
  pub kept : HasCleanDisk new → KeepsCommit old new
  pub quiet : IsQuiet old new
  pub stops : LeavesNoMore old new

-- in no transaction; and while the connection is open, with what the last commit left, which is
-- what was committed
pub record IsUndone (old new : State) : Type 0 where
  pub kept : KeepsCommit old new
  pub mode : new.in_transaction ≡ false
  pub now : IsTrue new.is_open → new.now ≡ new.committed

-- What undoing does, whether there is a transaction or none.
pub record Undoes (old new : State) : Type 0 where
  pub undone : HasCleanDisk new → IsUndone old new
  pub quiet : IsQuiet old new
  pub stops : LeavesNoMore old new

-- the error that is told of a connection that is gone
abbrev pub gone : Error
gone = SqliteFailure Closed

-- What asking tells: a connection that answers is open, and one is gone where that is the error.
-- Nothing is done.
pub record Probes (old new : State) (result : Result ⊤ Error) : Type 0 where
  pub shown : HasCleanDisk new → OnOk result (IsUnchanged old new)
  pub shut : HasCleanDisk new → result ≡ Err gone → new.is_open ≡ false
  -- one in no transaction stays as it was
  pub left : HasCleanDisk new → old.in_transaction ≡ false →
      (IsTrue old.is_open → old.now ≡ old.committed) → IsUndone old new
  pub quiet : IsQuiet old new
  pub stops : LeavesNoMore old new

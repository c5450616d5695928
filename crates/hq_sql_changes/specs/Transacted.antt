-- Changes in one transaction: what it leaves, whether it is made or fails, and what a crash may
-- leave of it. `old` and `new` are what is seen of the connection before and after.
-- Inner: it serves proofs alone, and no promise rests on it.
use Rattle.std.specs.Prelude.{◌⊎◌, Result, OnErr}
use Rattle.sqlite.specs.declared.error.Error.{Error}
use Rattle.sqlite.specs.State.{State, HasCleanDisk, KeepsCommit}
use Rattle.sqlite.specs.Tree.{Trees}
use Rattle.hq_keyed.specs.Left.{IsQuiet}
use Rattle.hq_tables.specs.Sound.{AreCounted}
use Rattle.hq_tables.specs.Tables.{Tables}
use Rattle.hq_sql.specs.Tables.{tables_in}
use Rattle.hq_sql_open.specs.Found.{HoldDesk}
use Rattle.hq_sql_open.specs.Transactions.{IsAtRest}

-- an open after a crash may find what it might have found before, or a desk with these tables
abbrev pub LeavesTables : State → State → Tables → Type 0
LeavesTables old new t = HasCleanDisk new → (db : Trees) → new.may_leave db → old.may_leave db
    ⊎ HoldDesk db t

-- What a transaction keeps that is to leave the tables t.
pub record KeepsTransaction {X : Type 0} (old new : State) (result : Result X Error) (t : Tables) :
    Type 0 where
  -- what was committed, where it fails
  pub kept : HasCleanDisk new → IsAtRest old → OnErr result (KeepsCommit old new)
  pub quiet : IsQuiet old new
  -- wherever in it a crash comes
  pub stops : IsAtRest old → AreCounted (tables_in old.committed) → LeavesTables old new t

-- The shelf over a `sqlite` store: what is seen of it, and what its calls keep of the connection.
use Rattle.std.specs.Prelude.{◌≡◌, ⊤, ℕ, Bool, true, false, Err, IsTrue}
use Rattle.sqlite.specs.declared.error.Error.{Error}
use Rattle.sqlite.specs.Held.{Held}
use Rattle.sqlite.specs.State.{State, HasCleanDisk}
use Rattle.sqlite.specs.Effect.{Database, IsDatabase}
use Rattle.sqlite.specs.Tree.{Trees}
use Rattle.hq_values.specs.declared.failure.Fault.{Fault}
use Rattle.hq_values.specs.declared.failure.Fault.TheVariants.{Disk, Closed}
use Rattle.hq_tables.specs.Shelves.{Sight, IsTallied, one_more}
use Rattle.hq_tables.specs.Sound.{AreCounted}
use Rattle.hq_tables.specs.Tables.{no_tables}
use Rattle.hq_sql.specs.Tables.{IsDesk, tables_in}
use Rattle.hq_sql_open.specs.Faults.{IsCaused, fault_in}
use Rattle.hq_sql_open.specs.Found.{desk_with, tables_with}
use Rattle.hq_sql_open.specs.Opening.{IsUnmade, IsForeign}
use Rattle.hq_sql_open.specs.Transactions.{IsSettled}
use Rattle.hq_sql_open.specs.declared.transaction.Standing.{Standing}
use Rattle.hq_sql_open.specs.declared.transaction.Standing.TheVariants.{InDoubt, Unasked}
use Rattle.hq_sql_open.specs.declared.transaction.Standing.TheVariants.{Gone, Lost}
use Rattle.hq_sql_shelf.specs.declared.shelf.SqlShelf.{SqlShelf}

-- the fault that is told once a statement failed with this error and left the connection so
abbrev pub fault_left : Standing → Error → Fault
fault_left Gone error = Closed
fault_left Lost error = Closed
fault_left _ error = fault_in error

-- how many 91 and 93 were answered, once this fault is
abbrev pub fault_counted : Fault → ℕ → ℕ
fault_counted Disk n = one_more n
fault_counted Closed n = one_more n
fault_counted _ n = n

abbrev pub is_gone : Standing → Bool
is_gone Gone = true
is_gone Lost = true
is_gone _ = false

abbrev pub is_doubtful : Standing → Bool
is_doubtful InDoubt = true
is_doubtful Unasked = true
is_doubtful Lost = true
is_doubtful _ = false

-- a shelf that is in doubt, or was so when its connection was lost, has it open
abbrev pub Stands : Standing → State → Type 0
Stands InDoubt s = IsTrue s.is_open
Stands Unasked s = IsTrue s.is_open
Stands Lost s = IsTrue s.is_open
Stands _ s = ⊤

-- the rows are those of a desk's tables, and the counts in the head rows are those of the rows
pub record HoldsTables (db : Database) : Type 0 where
  pub desk : IsDesk db
  pub counted : AreCounted (tables_in db)

-- the trees are those of a desk, and its counts those of its rows
pub record IsWholeDesk (trees : Trees) : Type 0 where
  pub sound : IsDatabase (desk_with trees)
  pub holds : HoldsTables (desk_with trees)

-- the connection is in no transaction, and so it is of what is committed
pub record IsOurs (s : State) : Type 0 where
  pub settled : IsSettled s
  pub holds : HoldsTables s.committed

-- What is seen of a shelf, by what is seen of its connection: the tables are what was committed.
-- Where the connection was lost in doubt, nothing is said of them, nor of what a stop leaves. A
-- stop leaves trees, and the tables are those that they hold as a desk's. 90 is answered only where
-- memory was refused, and 91 and 93 only where the store failed.
abbrev pub sight_over : {S M : Type 0} → Type 0 → Type 0 → (Held S → State) → Sight (SqlShelf S M)
sight_over refused failed seen = record {
  tables = λ s. tables_in (seen s.conn).committed;
  is_closed = λ s. is_gone s.standing;
  fault_count = λ s. s.faults;
  is_clean = λ s. HasCleanDisk (seen s.conn) × Stands s.standing (seen s.conn);
  is_ours = λ s. IsOurs (seen s.conn);
  may_answer = IsCaused refused failed;
  may_leave = λ s t. (trees : Trees) × (seen s.conn).may_leave trees × (tables_with trees ≡ t);
  leaves_desk = λ s. (trees : Trees) → (seen s.conn).may_leave trees → IsWholeDesk trees;
  goes_back = λ s t. ⊤;
}

-- a statement failed while the shelf was open: what is counted and closed for that fault
abbrev pub GivesUp : Standing → ℕ → ℕ → Fault → Type 0
GivesUp standing m n fault = IsTallied {X = ⊤} false (is_gone standing) m n (Err fault)

-- What a store is once it was taken as a desk: settled, and known. One in which nothing was made
-- has empty tables now; any other is as it was, whatever its rows, and one that held a desk's
-- tables holds the same.
pub record Adopts (old new : State) : Type 0 where
  pub settled : IsSettled new
  pub known : ¬ IsForeign old.now
  pub empty : IsUnmade old.now → IsOurs new × (tables_in new.committed ≡ no_tables)
  pub stays : (¬ IsUnmade old.now) → new.committed ≡ old.now
  pub same : HoldsTables old.now → IsOurs new × (tables_in new.committed ≡ tables_in old.now)

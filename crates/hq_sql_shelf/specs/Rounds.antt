-- The shelf in a round: what is seen of it, and to what it goes back.
-- Inner: it serves proofs alone, and no promise rests on it.
use Rattle.std.specs.Prelude.{◌≡◌, ⊤, true, IsTrue}
use Rattle.sqlite.specs.Held.{Held}
use Rattle.sqlite.specs.State.{State, HasCleanDisk}
use Rattle.sqlite.specs.Tree.{Trees}
use Rattle.hq_values.specs.declared.failure.Fault.TheVariants.{Closed}
use Rattle.hq_tables.specs.Shelves.{Sight, one_more}
use Rattle.hq_tables.specs.Tables.{Tables}
use Rattle.hq_sql.specs.Tables.{tables_in}
use Rattle.hq_sql_open.specs.Found.{tables_with}
use Rattle.hq_sql_shelf.specs.Shelf.{HoldsTables, IsWholeDesk}
use Rattle.hq_sql_shelf.specs.declared.rounds.SqlRound.{SqlRound}

-- the transaction of a round: open, over a desk's tables
pub record IsInRound (s : State) : Type 0 where
  pub is_open : IsTrue s.is_open
  pub mode : IsTrue s.in_transaction
  pub holds : HoldsTables s.now

-- what was committed is a desk with these tables, and a stop leaves such a one
pub record GoesBackTo (s : State) (t : Tables) : Type 0 where
  pub stops : (trees : Trees) → s.may_leave trees → IsWholeDesk trees × (tables_with trees ≡ t)
  pub committed : IsTrue s.is_open → HoldsTables s.committed × (tables_in s.committed ≡ t)

-- What is seen of it in a round: the tables are what the transaction sees. Its calls say nothing of
-- stops; to what it goes back they keep.
abbrev pub sight_inside : {S M : Type 0} → (Held S → State) → Sight (SqlRound S M)
sight_inside seen = record {
  tables = λ s. tables_in (seen s.shelf.conn).now;
  is_closed = λ s. s.over;
  fault_count = λ s. s.shelf.faults;
  is_clean = λ s. HasCleanDisk (seen s.shelf.conn);
  is_ours = λ s. IsInRound (seen s.shelf.conn);
  may_answer = λ fault. fault ≡ Closed;
  may_leave = λ s t. ⊥;
  leaves_desk = λ s. ⊤;
  goes_back = λ s t. GoesBackTo (seen s.shelf.conn) t;
}

-- the round once it was ended by a call that failed
abbrev pub ended_round : {S M : Type 0} → SqlRound S M → SqlRound S M
ended_round s = record { shelf = record s.shelf { faults = one_more s.shelf.faults }; over = true }

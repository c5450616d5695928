-- What is known of a connection after a statement failed. `old` and `new` are what is seen of it
-- before and after.
-- Inner: it serves proofs alone, and no promise rests on it.
use Rattle.std.specs.Prelude.{◌≡◌, ◌≢◌, ⊤, false}
use Rattle.sqlite.specs.State.{State, HasCleanDisk}
use Rattle.hq_keyed.specs.Left.{IsQuiet, LeavesNoMore}
use Rattle.hq_sql_open.specs.Transactions.{IsSettled, IsUndone}
use Rattle.hq_sql_open.specs.declared.transaction.Standing.{Standing}
use Rattle.hq_sql_open.specs.declared.transaction.Standing.TheVariants.{Open, Gone, Lost}
use Rattle.hq_sql_open.specs.declared.transaction.Standing.TheVariants.{InDoubt, Unasked}
use Rattle.hq_values.specs.declared.failure.Fault.{Fault}
use Rattle.hq_values.specs.declared.failure.Fault.TheVariants.{WantOfMemory}

-- What settling does: what was begun is undone, a connection that is told as open is so, and one
-- that is told as gone is gone.
pub record Settles (old new : State) (standing : Standing) : Type 0 where
  pub undone : HasCleanDisk new → IsUndone old new
  pub settled : HasCleanDisk new → standing ≡ Open → IsSettled new
  pub gone : HasCleanDisk new → standing ≡ Gone → new.is_open ≡ false
  pub asked : standing ≢ Lost
  pub quiet : IsQuiet old new
  pub stops : LeavesNoMore old new

-- what is known of one that could not be asked, by the fault that tells why
abbrev pub unasked_for : Fault → Standing
unasked_for WantOfMemory = InDoubt
unasked_for _ = Unasked

-- why a connection is gone, or could not be asked: memory was refused, or the store failed
abbrev pub HasReason : Type 0 → Type 0 → Standing → Type 0
HasReason refused failed Open = ⊤
HasReason refused failed InDoubt = refused
HasReason refused failed _ = failed

-- What migrating a desk's store does. `old` and `new` are what is seen of a connection before and
-- after.
use Rattle.std.specs.Prelude.{◌≡◌, ◌⊎◌, ℕ, false, List, Result, Ok, Err}
use Rattle.sqlite.specs.State.{State, HasCleanDisk}
use Rattle.sqlite.specs.Tree.{Trees}
use Rattle.hq_values.specs.declared.failure.Fault.{Fault}
use Rattle.hq_values.specs.declared.failure.Fault.TheVariants.{BadSchema, Closed}
use Rattle.hq_sql_open.specs.Lifted.{lift, FirstSound}
use Rattle.hq_tables.specs.Sound.{Sound}
use Rattle.hq_tables.specs.Tables.{Tables, own}
use Rattle.hq_sql.specs.Tables.{IsDesk, tables_in}
use Rattle.hq_sql_open.specs.Opening.{Rests}
use Rattle.hq_sql_open.specs.Transactions.{IsSettled, IsUndone}
use Rattle.hq_sql_open.specs.Migration.{IsFirstStore, IsSecondStore, IsThirdStore, IsNoStore}
use Rattle.hq_sql_open.specs.Migration.{TreesOfThird}
use Rattle.hq_sql_open.specs.Stores.{first_tables_in, second_tables_in, count_on_hold}
use Rattle.hq_sql_shelf.specs.Shelf.{IsOurs}

-- The store is a desk's of version 3, with each customer's state lifted, and so many messages were
-- on hold. Where the tables were sound as they stood before reasons, it is ours, and they are
-- sound.
pub record IsMigrated (count : ℕ) (old new : State) : Type 0 where
  pub settled : IsSettled new
  pub desk : IsDesk new.committed
  pub lifted : (customer : List ℕ) →
      own customer (tables_in new.committed) ≡ lift (own customer (first_tables_in old.now))
  pub sound : FirstSound (first_tables_in old.now) → IsOurs new × Sound (tables_in new.committed)
  pub count_is : count ≡ count_on_hold (first_tables_in old.now).messages

-- The store is a desk's of version 3, with the tables that it had, and no history. Where they were
-- sound, it is ours.
pub record IsUpgraded (old new : State) : Type 0 where
  pub settled : IsSettled new
  pub desk : IsDesk new.committed
  pub tables : tables_in new.committed ≡ second_tables_in old.now
  pub sound : Sound (second_tables_in old.now) → IsOurs new

-- What the answer tells of the store: a number of one of version 1, or 0 of one of version 2, or of
-- version 3, which stays; 92 of any other, which stays. After 90 and 91 what was begun is undone,
-- and 93 tells that the connection is gone.
abbrev pub TellsVersion : Result ℕ Fault → State → State → Type 0
TellsVersion (Ok count) old new = IsFirstStore old.now ⊎ ((IsSecondStore old.now × (count ≡ 0))
    ⊎ (IsThirdStore old.now × (count ≡ 0) × Rests old new))
TellsVersion (Err BadSchema) old new = IsNoStore old.now × Rests old new
TellsVersion (Err Closed) old new = new.is_open ≡ false
TellsVersion (Err _) old new = IsUndone old new

-- Wherever in it a crash comes, it leaves the trees as they were, or a whole store of version 3
-- with these tables.
abbrev pub LeavesEither : Tables → State → State → Type 0
LeavesEither t old new = HasCleanDisk new → (db : Trees) → new.may_leave db →
    (db ≡ old.now.trees)
    ⊎ TreesOfThird t db

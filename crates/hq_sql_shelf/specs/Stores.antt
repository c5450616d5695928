-- What is done to the stores that words name, in order.
use Rattle.std.specs.Prelude.{ℕ, List, [], ◌∷◌, Result, Ok, Err, IfOk}
use Rattle.hq_values.specs.declared.failure.Fault.{Fault}
use Rattle.hq_tables.specs.Shelves.{Sight}
use Rattle.hq_sql_shelf.specs.Opened.{IsOpened}

-- one thing that is done to a store of this type
pub data StoreEvent (S : Type 0) : Type 0 where
  -- the store of this path was opened, or could not be
  opened : List ℕ → Result S Fault → StoreEvent S
  -- the store that was open was left as this one
  left : S → StoreEvent S
  -- the store of this path was migrated, and so many messages were on hold; or it was not
  migrated : List ℕ → Result ℕ Fault → StoreEvent S

-- from one state of all stores to another these things were done, in this order, and nothing else
abbrev pub Doing : Type 0 → Type 0 → Type 1
Doing K S = K → List (StoreEvent S) → K → Type 0

module _ {K S : Type 0} (sight : Sight S) (does : Doing K S) (path : List ℕ) (old new : K) where
  -- The store that was opened so was left as another, and `over` says what was done between; or it
  -- could not be opened, and `unopened` says what is told. Nothing else was done to a store.
  abbrev pub LeavesStore : (S → S → Type 0) → (Fault → Type 0) → Result S Fault → Type 0
  LeavesStore over unopened (Ok store) = (after : S) × over store after
      × does old (opened path (Ok store) ∷ left after ∷ []) new
  LeavesStore over unopened (Err fault) = unopened fault
      × does old (opened path (Err fault) ∷ []) new

  -- that is done over the store of this path, which had told no fault when it was opened
  abbrev pub OverStore : (S → S → Type 0) → (Fault → Type 0) → Type 0
  OverStore over unopened = (store : Result S Fault) × IfOk store (IsOpened sight)
      × LeavesStore over unopened store

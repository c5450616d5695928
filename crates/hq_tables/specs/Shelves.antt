-- What each call of a shelf says. `sight` is what is seen of the shelf, and `old` and `new` are the
-- shelf before the call and after it.
use Rattle.std.specs.Prelude.{◌≡◌, ◌⊎◌, ℕ, ◌+◌, ◌-◌, ◌^◌, min, Bool, true, false, List}
use Rattle.std.specs.Prelude.{Result, Ok, Err}
use Rattle.std.specs.Prelude.{IfOk, IfErr, OnErr}
use Rattle.hq_values.specs.declared.failure.Fault.{Fault}
use Rattle.hq_values.specs.declared.failure.Fault.TheVariants.{WantOfMemory, Disk, BadSchema}
use Rattle.hq_values.specs.declared.failure.Fault.TheVariants.{Closed}
use Rattle.hq_tables.specs.Tables.{Tables}
use Rattle.hq_tables.specs.Readings.{Readings, read_tables}
use Rattle.hq_tables.specs.Sound.{Sound}

-- What is seen of a shelf.
pub record Sight (S : Type 0) : Type 1 where
  -- the tables, whichever way they are kept
  pub tables : S → Tables
  -- whether every call answers 93 from now on
  pub is_closed : S → Bool
  -- how many 91 and 93 were answered
  pub fault_count : S → ℕ
  -- So far what was read is what was written. It may fall at any call, and never comes back.
  pub is_clean : S → Type 0
  -- the rows that are kept are those of the tables
  pub is_ours : S → Type 0
  -- the faults that a call may answer
  pub may_answer : Fault → Type 0
  -- where the process or its machine stops now, an opening may find these tables
  pub may_leave : S → Tables → Type 0
  -- and whatever it may find is a desk's
  pub leaves_desk : S → Type 0
  -- in a round: it goes back to these tables where the round does not stand, and a stop leaves them
  pub goes_back : S → Tables → Type 0

-- ---- when something is said of the tables

-- where the store is clean as the call ends, and its rows were those of the tables
abbrev pub OnClean : {S : Type 0} → Sight S → S → S → Type 0 → Type 0
OnClean sight old new P = sight.is_clean new → sight.is_ours old → P

-- where the tables before were sound too
abbrev pub OnSound : {S : Type 0} → Sight S → S → S → Type 0 → Type 0
OnSound sight old new P = sight.is_clean new → sight.is_ours old → Sound (sight.tables old) → P

-- where all of these hold
abbrev pub OnOpenSound : {S : Type 0} → Sight S → S → S → Type 0 → Type 0
OnOpenSound sight old new P = sight.is_clean new → sight.is_ours old → sight.is_closed new ≡ false →
    Sound (sight.tables old) → P

-- ---- what a stop leaves, of the process or of its machine

-- a desk, and of its tables this holds
abbrev pub StopLeaves : {S : Type 0} → Sight S → S → (Tables → Type 0) → Type 0
StopLeaves sight s P = sight.leaves_desk s × ((t : Tables) → sight.may_leave s t → P t)

-- the tables that there are
abbrev pub StopLeavesTables : {S : Type 0} → Sight S → S → Type 0
StopLeavesTables sight s = StopLeaves sight s (λ t. t ≡ sight.tables s)

-- no more than it might have left before
abbrev pub StopLeavesNoMore : {S : Type 0} → Sight S → S → S → Type 0
StopLeavesNoMore sight old new = (sight.leaves_desk old → sight.leaves_desk new)
    × ((t : Tables) → sight.may_leave new t → sight.may_leave old t)

-- it goes back to the same tables
abbrev pub StaysInRound : {S : Type 0} → Sight S → S → S → Type 0
StaysInRound sight old new = (t : Tables) → sight.goes_back old t → sight.goes_back new t

-- ---- what is found, and what is kept

-- the value of an answer is this of what can be read of the customer
abbrev pub Finds : {S X : Type 0} → Sight S → S → S → Result X Fault → List ℕ → (Readings → X) →
    Type 0
Finds sight old new result customer wanted = sight.is_clean new → sight.is_ours old →
    IfOk result (λ x. x ≡ wanted (read_tables customer (sight.tables old)))

-- the same, where the tables were sound
abbrev pub FindsSound : {S X : Type 0} → Sight S → S → S → Result X Fault → List ℕ → (Readings → X)
    → Type 0
FindsSound sight old new result customer wanted = sight.is_clean new → sight.is_ours old →
    Sound (sight.tables old) → IfOk result (λ x. x ≡ wanted
    (read_tables customer (sight.tables old)))

-- the count of faults after one more: at the greatest number of 64 bits it stays
abbrev pub one_more : ℕ → ℕ
one_more n = min (n + 1) (2 ^ 64 - 1)

-- Disk and Closed are counted, each once, and nothing else is; a shelf that was closed answers
-- Closed alone, and Closed closes; no call finds out about the schema. `was` and `is` say whether
-- the shelf is closed, and `m` and `n` are its counts of faults, before the call and after it.
abbrev pub IsTallied : {X : Type 0} → Bool → Bool → ℕ → ℕ → Result X Fault → Type 0
IsTallied was is m n (Ok x) = (was ≡ false) × (is ≡ false) × (n ≡ m)
IsTallied was is m n (Err WantOfMemory) = (was ≡ false) × (is ≡ false) × (n ≡ m)
IsTallied was is m n (Err Disk) = (was ≡ false) × (is ≡ false) × (n ≡ one_more m)
IsTallied was is m n (Err BadSchema) = ⊥
IsTallied was is m n (Err Closed) = (is ≡ true) × (n ≡ one_more m)

-- What a call that reads keeps.
pub record Keeps {S X : Type 0} (sight : Sight S) (old new : S) (result : Result X Fault) : Type 0
  where
    -- the tables
    pub same : sight.is_clean new → sight.is_ours old → sight.is_closed new ≡ false →
        sight.tables new ≡ sight.tables old
    -- the rows stay those of the tables; after Closed nothing is said of them
    pub ours : sight.is_clean new → sight.is_ours old → sight.is_closed new ≡ false →
        sight.is_ours new
    -- it stays in its round
    pub round : sight.is_clean new → sight.is_ours old ⊎ (sight.is_closed old ≡ true) →
        StaysInRound sight old new
    -- what is clean now was clean
    pub quiet : sight.is_clean new → sight.is_clean old
    pub tally : IsTallied (sight.is_closed old) (sight.is_closed new) (sight.fault_count old)
        (sight.fault_count new) result
    pub cause : IfErr result sight.may_answer
    -- wherever in it a stop comes
    pub stops : sight.is_clean new → sight.is_ours old ⊎ (sight.is_closed old ≡ true) →
        StopLeavesNoMore sight old new

-- A stop in a call that makes changes leaves the tables before or these, all or none of them.
abbrev pub StopLeavesWhole : {S : Type 0} → Sight S → S → S → Tables → Type 0
StopLeavesWhole sight old new after = StopLeavesTables sight old →
    StopLeaves sight new (λ t. (t ≡ sight.tables old) ⊎ (t ≡ after))

-- What a call that changes keeps: the tables where it ends in a fault; and the rest as above.
pub record KeepsOnErr {S X : Type 0} (sight : Sight S) (old new : S) (result : Result X Fault)
    : Type 0 where
  pub none : sight.is_clean new → sight.is_ours old → sight.is_closed new ≡ false →
      OnErr result (sight.tables new ≡ sight.tables old)
  pub ours : sight.is_clean new → sight.is_ours old → sight.is_closed new ≡ false →
      sight.is_ours new
  pub round : sight.is_clean new → sight.is_ours old ⊎ (sight.is_closed old ≡ true) →
      StaysInRound sight old new
  pub quiet : sight.is_clean new → sight.is_clean old
  pub tally : IsTallied (sight.is_closed old) (sight.is_closed new) (sight.fault_count old)
      (sight.fault_count new) result
  pub cause : IfErr result sight.may_answer
  -- while the shelf is open, a stop leaves its tables
  pub rests : sight.is_clean new → sight.is_ours old → sight.is_closed new ≡ false →
      StopLeavesTables sight old → StopLeavesTables sight new
  -- a shelf that was closed changes nothing
  pub shut : sight.is_clean new → sight.is_closed old ≡ true → StopLeavesNoMore sight old new

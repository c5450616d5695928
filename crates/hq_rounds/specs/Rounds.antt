-- What a shelf says of a round: as it begins, and as it ends. `sight` is what is seen of the shelf
-- outside of rounds, and `inside` what is seen of it in one.
-- Inner: it serves proofs alone, and no promise rests on it.
use Rattle.std.specs.Prelude.{◌≡◌, ◌⊎◌, ℕ, Bool, true, false, if◌then◌else◌}
use Rattle.hq_tables.specs.Shelves.{Sight, StopLeaves, StopLeavesTables, StopLeavesNoMore}
use Rattle.hq_tables.specs.Tables.{Tables}

-- No round began: the shelf is as it was, or closed.
pub record StaysOut {S : Type 0} (sight : Sight S) (old new : S) : Type 0 where
  pub same : sight.is_clean new → sight.is_ours old → sight.is_closed new ≡ false →
      sight.tables new ≡ sight.tables old
  pub ours : sight.is_clean new → sight.is_ours old → sight.is_closed new ≡ false →
      sight.is_ours new
  pub quiet : sight.is_clean new → sight.is_clean old
  pub stays_open : sight.is_closed new ≡ false → sight.is_closed old ≡ false
  pub counted : sight.fault_count new ≡ sight.fault_count old
  -- wherever in it a stop comes
  pub stops : sight.is_clean new → sight.is_ours old ⊎ (sight.is_closed old ≡ true) →
      StopLeavesNoMore sight old new

-- A round began: it has the tables that there are, and goes back to them. In it a stop leaves
-- these, whatever its calls made.
pub record BeginsRound {S R : Type 0} (sight : Sight S) (inside : Sight R) (old : S) (round : R)
    : Type 0 where
  pub was_open : sight.is_closed old ≡ false
  pub is_open : inside.is_closed round ≡ false
  pub tables : inside.is_clean round → sight.is_ours old →
      inside.tables round ≡ sight.tables old
  pub back : inside.is_clean round → sight.is_ours old →
      inside.goes_back round (sight.tables old)
  pub ours : inside.is_clean round → sight.is_ours old → inside.is_ours round
  pub quiet : inside.is_clean round → sight.is_clean old
  pub counted : inside.fault_count round ≡ sight.fault_count old

-- Outside of rounds these tables are there, and a stop leaves them.
pub record RestsWith {S : Type 0} (sight : Sight S) (s : S) (t : Tables) : Type 0 where
  pub tables : sight.tables s ≡ t
  pub ours : sight.is_ours s
  pub stops : StopLeavesTables sight s

-- A round ended, and stands or not. One that was closed does not stand. `faults` is the count to
-- which it goes back.
pub record EndsRound {S R : Type 0} (inside : Sight R) (sight : Sight S) (round : R) (faults : ℕ)
    (stands : Bool) (new : S) : Type 0 where
  pub stays_open : stands ≡ true →
      (inside.is_closed round ≡ false) × (sight.is_closed new ≡ false)
  -- its tables are those that there are
  pub made : sight.is_clean new → inside.is_ours round → stands ≡ true →
      RestsWith sight new (inside.tables round)
  -- it went back
  pub back : sight.is_clean new → (t : Tables) → inside.goes_back round t →
      sight.is_closed new ≡ false → stands ≡ false → RestsWith sight new t
  pub quiet : sight.is_clean new → inside.is_clean round
  pub counted : sight.fault_count new ≡ (if stands then inside.fault_count round else faults)
  -- wherever in it a stop comes: as the round began, or all that it made
  pub stops : sight.is_clean new → (t : Tables) → inside.goes_back round t →
      (inside.is_closed round ≡ false → inside.is_ours round) → StopLeaves sight new
      (λ t'. (t' ≡ t) ⊎ ((inside.is_closed round ≡ false) × (t' ≡ inside.tables round)))

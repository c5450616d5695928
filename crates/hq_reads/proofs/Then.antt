-- Calls that read, one after another.
use Rattle.std.proofs.Common.{◌≡◌, List, ℕ, Result, Ok, subst}
use Rattle.std.specs.Prelude.{IfOk}
use Rattle.hq_values.specs.declared.failure.Fault.{Fault}
use Rattle.hq_tables.specs.Readings.{Readings, read_tables}
use Rattle.hq_tables.specs.Shelves.{Sight, Finds, Keeps}

-- what a later call finds, it finds in the tables as they were at first
pub finds_on : {S X Y : Type 0} (sight : Sight S) (old mid new : S) (x : X)
    (result : Result Y Fault) (customer : List ℕ) (wanted : Readings → Y) →
    Keeps sight old mid (Ok x) → Keeps sight mid new result →
    Finds sight mid new result customer wanted → Finds sight old new result customer wanted
finds_on sight old mid new x result customer wanted first next found = λ clean ours.
    let before = next.quiet clean in
    subst (λ t. IfOk result (λ y. y ≡ wanted (read_tables customer t)))
    (first.same before ours first.tally.1) (found clean (first.ours before ours first.tally.1))

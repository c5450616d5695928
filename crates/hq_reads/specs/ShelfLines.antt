-- The words of the functions that look addresses up among one customer's lines on a shelf. No claim
-- rests on them.
-- Inner: it serves proofs alone, and no promise rests on it.
use Rattle.std.specs.Prelude.{ℕ, ◌≡◌, false, List, Option, Result}
use Rattle.hq_values.specs.declared.failure.Fault.{Fault}
use Rattle.hq_kept.specs.declared.action.Action.{Action}
use Rattle.hq_kept.specs.declared.pattern.Class.{Class}
use Rattle.hq_tables.specs.Readings.{Readings}
use Rattle.hq_tables.specs.Shelves.{Sight, Finds, Keeps}
use Rattle.hq_reads.specs.Memory.{with_memory}
use Rattle.hq_reads.specs.declared.customer_lines.CustomerLines.{CustomerLines}

-- asking for a key is that reading call of the very shelf, for the same customer
abbrev pub asks_shelf : {S : Type 0} → Sight S → CustomerLines S → Class → List ℕ →
    Result (Option Action) Fault → CustomerLines S → Type 0
asks_shelf sight old class key answer new =
    (new.shelf.ghost_name ≡ old.shelf.ghost_name) × (new.customer ≡ old.customer)
    × Keeps sight old.shelf.now new.shelf.now answer
    × Finds sight old.shelf.now new.shelf.now answer old.customer.now (λ rows. rows.line class key)

-- What such functions find and keep where the shelf is open before them: they may want memory
-- before they ask it, and a closed shelf answers 93 alone.
abbrev pub FindsOpen : {S X : Type 0} → Sight S → S → S → Result X Fault → List ℕ → (Readings → X) →
    Type 0
FindsOpen sight old new result customer wanted = sight.is_closed old ≡ false →
    Finds sight old new result customer wanted

abbrev pub KeepsOpen : {S X : Type 0} → Type 0 → Sight S → S → S → Result X Fault → Type 0
KeepsOpen refused sight old new result = sight.is_closed old ≡ false →
    Keeps (with_memory refused sight) old new result

-- A desk as it was opened.
use Rattle.std.specs.Prelude.{◌≡◌, ◌⊎◌, false}
use Rattle.hq_values.specs.declared.failure.Fault.{Fault}
use Rattle.hq_tables.specs.Shelves.{Sight}

-- a shelf that is open, and told no fault so far
pub record IsOpened {S : Type 0} (sight : Sight S) (shelf : S) : Type 0 where
  pub stands : sight.is_closed shelf ≡ false
  pub untold : sight.fault_count shelf ≡ 0

-- what is done over an empty shelf in memory, or with such a fault
abbrev pub OverMemory : Type 0 → (Fault → Type 0) → Type 0
OverMemory over unopened = over ⊎ ((fault : Fault) × unopened fault)

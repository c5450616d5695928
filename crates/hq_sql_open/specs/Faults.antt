-- Which fault an error of the store is told as, and why a fault is told.
use Rattle.sqlite.specs.declared.error.Error.{Error}
use Rattle.sqlite.specs.declared.error.Error.TheVariants.{SqliteFailure}
use Rattle.sqlite.specs.declared.error.ErrorCode.TheVariants.{OutOfMemory}
use Rattle.hq_values.specs.declared.failure.Fault.{Fault}
use Rattle.hq_values.specs.declared.failure.Fault.TheVariants.{WantOfMemory, Disk, BadSchema}
use Rattle.hq_values.specs.declared.failure.Fault.TheVariants.{Closed}

-- want of memory, or any other failure of a statement
abbrev pub fault_in : Error → Fault
fault_in (SqliteFailure OutOfMemory) = WantOfMemory
fault_in _ = Disk

-- memory was refused, or the store failed
abbrev pub IsCaused : Type 0 → Type 0 → Fault → Type 0
IsCaused refused failed WantOfMemory = refused
IsCaused refused failed BadSchema = ⊥
IsCaused refused failed Disk = failed
IsCaused refused failed Closed = failed

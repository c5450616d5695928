-- Why a fault is told, and why a connection could not be asked.
use Rattle.sqlite.specs.declared.error.Error.{Error}
use Rattle.hq_values.specs.declared.failure.Fault.{Fault}
use Rattle.hq_values.specs.declared.failure.Fault.TheVariants.{WantOfMemory, Disk, BadSchema}
use Rattle.hq_values.specs.declared.failure.Fault.TheVariants.{Closed}
use Rattle.sqlite.specs.declared.error.Error.TheVariants.{SqliteFailure}
use Rattle.sqlite.specs.declared.error.ErrorCode.TheVariants.{OutOfMemory}
use Rattle.hq_sql.specs.Causes.{HasCause}
use Rattle.hq_sql_open.specs.Faults.{IsCaused, fault_in}
use Rattle.hq_sql_open.specs.Standings.{HasReason, unasked_for}

pub caused : (refused failed : Type 0) (error : Error) → HasCause refused failed error →
    IsCaused refused failed (fault_in error)
caused refused failed (SqliteFailure OutOfMemory) cause = cause
caused refused failed _ cause = cause

of_fault : (refused failed : Type 0) (fault : Fault) → IsCaused refused failed fault →
    HasReason refused failed (unasked_for fault)
of_fault refused failed WantOfMemory cause = cause
of_fault refused failed Disk cause = cause
of_fault refused failed BadSchema cause = absurd cause
of_fault refused failed Closed cause = cause

pub has_reason : (refused failed : Type 0) (error : Error) → HasCause refused failed error →
    HasReason refused failed (unasked_for (fault_in error))
has_reason refused failed error cause =
    of_fault refused failed (fault_in error) (caused refused failed error cause)

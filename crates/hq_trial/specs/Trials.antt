-- What a shelf that fails as told does with its calls: it counts them, fails those that it is told
-- to, and remembers the faults that it answered.
-- Inner: it serves proofs alone, and no promise rests on it.
use Rattle.std.specs.Prelude.{ℕ, ◌==◌, nat_le, true, false, if◌then◌else◌, Option, Some, None}
use Rattle.std.specs.Prelude.{Result, Ok, Err}
use Rattle.hq_values.specs.declared.failure.Fault.{Fault}
use Rattle.hq_values.specs.declared.failure.Fault.TheVariants.{WantOfMemory, Disk, BadSchema}
use Rattle.hq_values.specs.declared.failure.Fault.TheVariants.{Closed}
use Rattle.hq_tables.specs.Shelves.{one_more}
use Rattle.hq_trial.specs.declared.failure.Failure.{Failure}
use Rattle.hq_trial.specs.declared.failure.Failure.TheVariants.{DiskOnce, ClosedFrom}
use Rattle.hq_trial.specs.declared.failure.Trial.{Trial}

-- nothing was called yet
abbrev pub uncalled : Failure → Trial
uncalled failure = record { failure = failure; calls = 0; faults = 0; closed = false }

-- the fault of the call of this number, by the plan alone
abbrev pub planned_at : Failure → ℕ → Option Fault
planned_at (DiskOnce at) call = if at == call then Some Disk else None
planned_at (ClosedFrom at) call = if nat_le at call then Some Closed else None

-- the fault of the call that was counted last; after one 93 every call answers 93
abbrev pub fault_planned : Trial → Option Fault
fault_planned trial = if trial.closed then Some Closed else planned_at trial.failure trial.calls

-- one call more
abbrev pub call_counted : Trial → Trial
call_counted trial = record trial { calls = one_more trial.calls }

-- 91 and 93 are counted, and 93 closes
abbrev pub after_fault : Fault → Trial → Trial
after_fault WantOfMemory trial = trial
after_fault Disk trial = record trial { faults = one_more trial.faults }
after_fault BadSchema trial = trial
after_fault Closed trial = record trial { faults = one_more trial.faults; closed = true }

abbrev pub after_answer : {X : Type 0} → Result X Fault → Trial → Trial
after_answer (Ok x) trial = trial
after_answer (Err fault) trial = after_fault fault trial

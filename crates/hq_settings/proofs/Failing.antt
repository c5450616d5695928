-- Readings that failed.
use Rattle.std.proofs.Common.{Result, Err}
use Rattle.hq_values.specs.declared.failure.Fail.{Fail}
use Rattle.hq_values.specs.declared.failure.Fail.TheVariants as fail
use Rattle.hq_values.specs.declared.failure.Refusal.{Refusal}
use Rattle.hq_values.specs.Readers.{Fails, ReadsIn}

-- a reading that names the cause of a want of memory failed like one that names none
pub failed : {A : Type 0} (refused : Type 0) (e : Fail) (reading : Result A Refusal) →
    ReadsIn refused (Err e) reading → Fails e reading
failed refused (fail.Refused refusal) reading is = is
failed refused (fail.Fault fault) reading is = is.0

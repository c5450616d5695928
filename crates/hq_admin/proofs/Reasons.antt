-- Want of memory, of a memory of which nothing is said.
use Rattle.std.proofs.Common.{◌≡◌, Result, Ok, Err, inl, inr}
use Rattle.std.specs.Prelude.{⊤, IfErr}
use Rattle.hq_values.specs.declared.failure.Fault.{Fault}
use Rattle.hq_tables.specs.Shelves.{KeepsOnErr}
use Rattle.hq_rules.specs.Desks.{DeskSight, or_memory}

-- a call keeps no less where want of memory may have any reason
pub any_reason : {D X : Type 0} (sight : DeskSight D) (reason : Type 0) (old new : D)
    (result : Result X Fault) → KeepsOnErr (or_memory reason sight.store) old new result →
    KeepsOnErr (or_memory ⊤ sight.store) old new result
any_reason sight reason old new result kept = record {
  none = kept.none;
  ours = kept.ours;
  round = kept.round;
  quiet = kept.quiet;
  tally = kept.tally;
  cause = cause result kept.cause;
  rests = kept.rests;
  shut = kept.shut;
} where
  cause : {X : Type 0} (result : Result X Fault) →
      IfErr result (or_memory reason sight.store).may_answer →
      IfErr result (or_memory ⊤ sight.store).may_answer
  cause (Ok x) may = tt
  cause (Err fault) (inl want) = inl (want.0, tt)
  cause (Err fault) (inr may) = inr may

-- Moves of all messages: what they keep, where memory that is handed may refuse too.
use Rattle.std.proofs.Common.{inr, Result, Ok, Err}
use Rattle.std.specs.Prelude.{IfErr}
use Rattle.hq_values.specs.declared.failure.Fault.{Fault}
use Rattle.hq_tables.specs.Shelves.{Sight, Keeps, KeepsOnErr}
use Rattle.hq_rules.specs.Desks.{or_memory}

more_faults : {S X : Type 0} (refused : Type 0) (sight : Sight S) (result : Result X Fault) →
    IfErr result sight.may_answer → IfErr result (or_memory refused sight).may_answer
more_faults refused sight (Ok x) cause = tt
more_faults refused sight (Err fault) cause = inr cause

pub keeps_more : {S X : Type 0} (refused : Type 0) (sight : Sight S) (old new : S)
    (result : Result X Fault) → Keeps sight old new result →
    Keeps (or_memory refused sight) old new result
keeps_more refused sight old new result kept = record {
  same = kept.same;
  ours = kept.ours;
  round = kept.round;
  quiet = kept.quiet;
  tally = kept.tally;
  cause = more_faults refused sight result kept.cause;
  stops = kept.stops;
}

pub changes_more : {S X : Type 0} (refused : Type 0) (sight : Sight S) (old new : S)
    (result : Result X Fault) → KeepsOnErr sight old new result →
    KeepsOnErr (or_memory refused sight) old new result
changes_more refused sight old new result kept = record {
  none = kept.none;
  ours = kept.ours;
  round = kept.round;
  quiet = kept.quiet;
  tally = kept.tally;
  cause = more_faults refused sight result kept.cause;
  rests = kept.rests;
  shut = kept.shut;
}

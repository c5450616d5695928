-- What is said of requests and replies may be said in other words; and what comes of rounds however
-- they end.
use Rattle.std.proofs.Common.{◌≡◌, ℕ, List, Option, Some, None, Result, Ok, Err, refl, ap, subst}
use Rattle.std.specs.Bool.{⊤}
use Rattle.hq_lines.specs.Fields.{LineRequest}
use Rattle.hq_lines.specs.Lines.{Streams}
use Rattle.hq_lines.proofs.Told.{ends_as, rounds_end_as}
use Rattle.hq_lines.specs.Ends.{RoundsEnd}
use Rattle.hq_values.specs.declared.engine.EngineFault.{EngineFault}
use Rattle.hq_values.specs.declared.engine.EngineFault.TheVariants.{Read, Write, TooManyReads}
use Rattle.hq_values.specs.declared.engine.EngineFault.TheVariants.{WantOfMemory}
use Rattle.hq_batch.specs.Runs.{RunEnds, RoundsRunEnd}
use Rattle.hq_settings.specs.Troubles.{trouble_of}
use Rattle.hq_settings.specs.declared.trouble.Trouble.{Trouble}

module _ (done other : List (Option LineRequest) → List (List ℕ) → Type 0)
    (so : (asked : List (Option LineRequest)) (replies : List (List ℕ)) → done asked replies →
    other asked replies) (untouched less : Type 0) (as_well : untouched → less)
    (old new : Streams) where
  pub run_ends_as : (result : Result ⊤ Trouble) → RunEnds done untouched old new result →
      RunEnds other less old new result
  run_ends_as (Ok x) p = ends_as done other so (λ (x : ⊥). x) old new (Ok tt) p
  run_ends_as (Err trouble) p = (
    p.0,
    p.1,
    ends_as done other so as_well old new
        (Err p.0) p.2,
  )

-- the same of rounds
module _ (done other : List (List (Option LineRequest)) → List (List (List ℕ)) → Type 0)
    (so : (asked : List (List (Option LineRequest))) (replies : List (List (List ℕ))) →
    done asked replies → other asked replies) (untouched less : Type 0)
    (as_well : untouched → less) (old new : Streams) where
  pub rounds_run_end_as : (result : Result ⊤ Trouble) →
      RoundsRunEnd done untouched old new result → RoundsRunEnd other less old new result
  rounds_run_end_as (Ok x) p = rounds_end_as done other so (λ (x : ⊥). x) old new (Ok tt) p
  rounds_run_end_as (Err trouble) p = (
    p.0,
    p.1,
    rounds_end_as done other so as_well old new
        (Err p.0) p.2,
  )

-- however rounds end, they were done, or nothing was touched
pub of_rounds : (done : List (List (Option LineRequest)) → List (List (List ℕ)) → Type 0)
    (untouched X : Type 0) → ((asked : List (List (Option LineRequest)))
    (replies : List (List (List ℕ))) → done asked replies → X) → (untouched → X) →
    (old new : Streams) (result : Result ⊤ EngineFault) →
    RoundsEnd done untouched old new result → X
of_rounds done untouched X so none old new (Ok x) p = so _ _ p.0.done_all
of_rounds done untouched X so none old new (Err Read) p = so _ _ p.done_all
of_rounds done untouched X so none old new (Err TooManyReads) p = so _ _ p.done_all
of_rounds done untouched X so none old new (Err Write) p = so _ _ p.done_first
of_rounds done untouched X so none old new (Err WantOfMemory) p = none p

-- how rounds ended, as it is told
abbrev pub told_of : Result ⊤ EngineFault → Result ⊤ Trouble
told_of (Ok x) = Ok x
told_of (Err fault) = Err (trouble_of fault)

-- and how their run ends
pub told_so : (done other : List (List (Option LineRequest)) → List (List (List ℕ)) → Type 0)
    (so : (asked : List (List (Option LineRequest))) (replies : List (List (List ℕ))) →
    done asked replies → other asked replies) (untouched less : Type 0)
    (as_well : untouched → less) (old new : Streams) (ended : Result ⊤ EngineFault) →
    RoundsEnd done untouched old new ended → RoundsRunEnd other less old new (told_of ended)
told_so done other so untouched less as_well old new (Ok x) p =
    rounds_end_as done other so (λ (x : ⊥). x) old new (Ok x) p
told_so done other so untouched less as_well old new (Err fault) p = (
  fault,
  refl,
  rounds_end_as done other so as_well old new (Err fault) p,
)

-- a value that is there
abbrev value_or : {A : Type 0} → A → Option A → A
value_or other None = other
value_or other (Some value) = value

pub same_value : {A : Type 0} (x y : A) → ◌≡◌ {A = Option A} (Some x) (Some y) → x ≡ y
same_value x y e = ap (value_or x) e

abbrev is_there : {A : Type 0} → Option A → Type 0
is_there None = ⊥
is_there (Some value) = ⊤

pub none_there : {A : Type 0} (x : A) → ◌≡◌ {A = Option A} (Some x) None → ⊥
none_there x e = subst is_there e tt

use Rattle.std.proofs.Common.{◌≡◌, ◌⊎◌, inl, inr, subst, sym}
use Rattle.hq_values.specs.Refusals.{no_memory}
use Rattle.hq_values.specs.declared.failure.Fault.{Fault}
use Rattle.hq_values.specs.declared.failure.Fault.TheVariants.{WantOfMemory, Disk, BadSchema}
use Rattle.hq_values.specs.declared.failure.Fault.TheVariants.{Closed}
use Rattle.hq_sql_open.specs.Faults.{IsCaused}
use Rattle.hq_sql_across.proofs.laws.faults_have_causes.Goals as goal

of_shelf : (asked refused failed : Type 0) (fault : Fault) → IsCaused refused failed fault →
    IsCaused (asked ⊎ refused) failed fault
of_shelf asked refused failed WantOfMemory cause = inr cause
of_shelf asked refused failed Disk cause = cause
of_shelf asked refused failed BadSchema cause = cause
of_shelf asked refused failed Closed cause = cause

of_call : (asked refused failed : Type 0) (fault : Fault) → fault ≡ no_memory → asked →
    IsCaused (asked ⊎ refused) failed fault
of_call asked refused failed fault is cause =
    subst (λ (f : Fault). IsCaused (asked ⊎ refused) failed f) (sym is) (inl cause)

uncaused : (refused failed : Type 0) → (refused → ⊥) → (failed → ⊥) → (fault : Fault) →
    IsCaused refused failed fault → ⊥
uncaused refused failed none well WantOfMemory cause = none cause
uncaused refused failed none well Disk cause = well cause
uncaused refused failed none well BadSchema cause = cause
uncaused refused failed none well Closed cause = well cause

pub returns-clause-causes : goal.returns-clause-causes
returns-clause-causes g c = λ fault may.
    let asked = g.N.Memory.refused in
    let refused = g.M.Memory.refused in
    let failed = g.M.SqliteMemory.failed in
    elim may as (λ _. IsCaused (asked ⊎ refused) failed fault) [
      | inl of_memory ↦ of_call asked refused failed fault of_memory.0 of_memory.1
      | inr caused ↦ of_shelf asked refused failed fault caused
    ]

pub returns-clause-none : goal.returns-clause-none
returns-clause-none g c = λ other none well fault may. elim may as (λ _. ⊥) [
  | inl asked ↦ other asked.1
  | inr caused ↦ uncaused g.M.Memory.refused g.M.SqliteMemory.failed none well fault caused
]

use Rattle.std.proofs.Common.{◌≡◌, ◌++◌, drop, Ok}
use Rattle.hq_values.specs.Readers.{◌>>=◌}
use Rattle.hq_bodies.specs.Outcomes.{outcomes_in}
use Rattle.hq_bodies.proofs.outcomes.outcomes_from.Given as goal

-- the outcomes so far, and those of the texts that are left
abbrev pub invariant-loop-entry : goal.invariant-loop-entry
invariant-loop-entry g l =
    (outcomes_in (drop l.entry-index l.entries) >>= (λ rest. Ok (l.outcomes.items ++ rest))) ≡
    outcomes_in l.entries

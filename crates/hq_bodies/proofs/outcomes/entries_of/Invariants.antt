use Rattle.std.proofs.Common.{◌≡◌, ◌++◌, drop, Ok}
use Rattle.serde_json.specs.View.{items_view}
use Rattle.hq_values.specs.Readers.{◌>>=◌}
use Rattle.hq_bodies.specs.Outcomes.{entries_of}
use Rattle.hq_bodies.proofs.outcomes.entries_of.Given as goal

-- the outcomes so far, and those of the values that are left
abbrev pub invariant-loop-value : goal.invariant-loop-value
invariant-loop-value g l =
    (entries_of (items_view (drop l.value-index l.values)) >>=
    (λ rest. Ok (l.entries.items ++ rest))) ≡ entries_of (items_view l.values)

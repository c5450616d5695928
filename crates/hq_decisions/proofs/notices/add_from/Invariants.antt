use Rattle.std.proofs.Common.{◌≡◌, ◌+◌, ◌++◌, length}
use Rattle.hq_rules.specs.Notices.{added_from}
use Rattle.hq_decisions.proofs.notices.add_from.Given as goal

-- the notices so far have the numbers from the first on
abbrev pub invariant-loop-draft : goal.invariant-loop-draft
invariant-loop-draft g l = (l.number ≡ l.first + length l.yielded)
    × (l.changes.items ≡ l.initial.changes.items ++ added_from l.host l.at l.first l.yielded)

use Rattle.std.proofs.Common.{◌≡◌, ◌≤◌, take}
use Rattle.hq_rules.specs.Sweeps.{messages_that}
use Rattle.hq_decisions.proofs.sweeps.how_many.Given as goal

-- those of the rows so far
abbrev pub invariant-loop-row : goal.invariant-loop-row
invariant-loop-row l = (l.count ≡ messages_that l.made (take l.row-index l.rows))
    × (l.count ≤ l.row-index)

use Rattle.std.proofs.Common.{◌≡◌, take}
use Rattle.std.specs.List.{flat_map}
use Rattle.hq_rules.specs.Sweeps.{ended_in}
use Rattle.hq_decisions.proofs.sweeps.ended_of.Given as goal

-- the recipients of the messages so far
abbrev pub invariant-loop-row : goal.invariant-loop-row
invariant-loop-row g l = l.ended.items ≡ flat_map ended_in (take l.row-index l.rows)

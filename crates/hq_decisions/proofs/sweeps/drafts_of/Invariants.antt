use Rattle.std.proofs.Common.{◌≡◌, take}
use Rattle.std.specs.List.{flat_map}
use Rattle.hq_rules.specs.Sweeps.{drafts_of}
use Rattle.hq_decisions.proofs.sweeps.drafts_of.Given as goal

-- the notices of the messages so far
abbrev pub invariant-loop-row : goal.invariant-loop-row
invariant-loop-row g l = l.drafts.items ≡ flat_map drafts_of (take l.row-index l.rows)

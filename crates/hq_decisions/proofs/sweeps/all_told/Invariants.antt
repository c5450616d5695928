use Rattle.std.proofs.Common.{◌≡◌, map, take}
use Rattle.hq_rules.specs.Sweeps.{last_told}
use Rattle.hq_decisions.proofs.sweeps.all_told.Given as goal

abbrev pub invariant-loop-recipient : goal.invariant-loop-recipient
invariant-loop-recipient g l = l.told.items ≡ map (last_told l.kind)
    (take l.recipient-index l.pending)

use Rattle.std.proofs.Common.{◌≡◌, ◌++◌, map, take}
use Rattle.hq_rules.specs.Leaving.{ended_as}
use Rattle.hq_queue.proofs.ending.end_all.Given as goal

abbrev pub invariant-loop-pending : goal.invariant-loop-pending
invariant-loop-pending g l = l.ended.items ≡ l.initial.ended.items
    ++ map (ended_as l.fate l.message) (take l.pending-index l.message.pending)

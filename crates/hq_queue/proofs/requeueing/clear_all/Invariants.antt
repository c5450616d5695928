use Rattle.std.proofs.Common.{◌≡◌, ◌++◌, map, take, drop}
use Rattle.hq_rules.specs.Moves.{cleared}
use Rattle.hq_queue.proofs.requeueing.clear_all.Given as goal

abbrev pub invariant-loop-recipient : goal.invariant-loop-recipient
invariant-loop-recipient l = l.recipients ≡ map cleared
    (take l.recipient-index l.initial.recipients) ++ drop l.recipient-index l.initial.recipients

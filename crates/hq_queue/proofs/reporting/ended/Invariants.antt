use Rattle.std.proofs.Common.{◌≡◌, take}
use Rattle.hq_rules.specs.Attempts as rules
use Rattle.hq_queue.proofs.reporting.ended.Given as goal

abbrev pub invariant-loop-recipient : goal.invariant-loop-recipient
invariant-loop-recipient g l = l.ended.items ≡ rules.ended l.message l.outcomes
    (take l.recipient-index l.message.pending)

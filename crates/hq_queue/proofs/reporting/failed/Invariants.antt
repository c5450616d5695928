use Rattle.std.proofs.Common.{◌≡◌, take}
use Rattle.hq_rules.specs.Attempts as rules
use Rattle.hq_queue.proofs.reporting.failed.Given as goal

abbrev pub invariant-loop-recipient : goal.invariant-loop-recipient
invariant-loop-recipient g l = l.failed.items ≡ rules.failed l.outcomes
    (take l.recipient-index l.recipients)

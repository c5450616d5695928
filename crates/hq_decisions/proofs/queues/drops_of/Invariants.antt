use Rattle.std.proofs.Common.{◌≡◌, map, take}
use Rattle.hq_rules.specs.Queues.{drop}
use Rattle.hq_decisions.proofs.queues.drops_of.Given as goal

-- the messages so far are dropped
abbrev pub invariant-loop-message : goal.invariant-loop-message
invariant-loop-message g l = l.changes.items ≡ map drop (take l.message-index l.messages)

use Rattle.std.proofs.Common.{◌≡◌}
use Rattle.hq_rules.specs.Queues.{moves_of}
use Rattle.hq_decisions.proofs.queues.moves_of.Given as goal

-- the changes of the messages so far
abbrev pub invariant-loop-message : goal.invariant-loop-message
invariant-loop-message g l = l.changes.items ≡ moves_of l.by l.yielded

use Rattle.std.proofs.Common.{◌≡◌}
use Rattle.hq_rules.specs.Submissions.{distinct}
use Rattle.hq_queue.proofs.addresses.distinct.Given as goal

abbrev pub invariant-loop-address : goal.invariant-loop-address
invariant-loop-address g l = l.kept.items ≡ distinct l.yielded

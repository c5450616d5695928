use Rattle.std.proofs.Common.{◌≡◌, map}
use Rattle.hq_rules.specs.Submissions.{not_tried}
use Rattle.hq_decisions.proofs.submissions.not_tried.Given as goal

abbrev pub invariant-loop-address : goal.invariant-loop-address
invariant-loop-address g l = l.pending.items ≡ map not_tried l.yielded

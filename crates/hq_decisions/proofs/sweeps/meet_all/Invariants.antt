use Rattle.std.proofs.Common.{◌≡◌, map}
use Rattle.hq_rules.specs.Sweeps.{message_met}
use Rattle.hq_decisions.proofs.sweeps.meet_all.Given as goal

abbrev pub invariant-loop-message : goal.invariant-loop-message
invariant-loop-message g l = l.rows.items ≡ map (message_met l.at l.delay) l.yielded

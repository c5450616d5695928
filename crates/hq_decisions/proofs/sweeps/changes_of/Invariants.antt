use Rattle.std.proofs.Common.{◌≡◌}
use Rattle.std.specs.List.{flat_map}
use Rattle.hq_rules.specs.Sweeps.{changed_by}
use Rattle.hq_decisions.proofs.sweeps.changes_of.Given as goal

-- the changes of the messages so far
abbrev pub invariant-loop-message : goal.invariant-loop-message
invariant-loop-message g l = l.changes.items ≡ flat_map changed_by l.yielded

use Rattle.std.proofs.Common.{◌≡◌, filter}
use Rattle.hq_rules.specs.Histories.{is_meant}
use Rattle.hq_decisions.proofs.histories.meant.Given as goal

-- those of the ends so far that are meant
abbrev pub invariant-loop-end : goal.invariant-loop-end
invariant-loop-end g l = l.found.items ≡ filter (is_meant l.pattern) l.yielded

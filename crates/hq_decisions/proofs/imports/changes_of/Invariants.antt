use Rattle.std.proofs.Common.{◌≡◌}
use Rattle.std.specs.List.{flat_map}
use Rattle.hq_rules.specs.Imports.{set_by}
use Rattle.hq_decisions.proofs.imports.changes_of.Given as goal

-- the changes of the rows so far
abbrev pub invariant-loop-line : goal.invariant-loop-line
invariant-loop-line g l = l.changes.items ≡ flat_map set_by l.yielded

use Rattle.std.proofs.Common.{◌≡◌, take}
use Rattle.std.specs.List.{sum_by}
use Rattle.hq_tables.specs.Readings.{saturated}
use Rattle.hq_rules.specs.Sweeps.{given_up}
use Rattle.hq_decisions.proofs.sweeps.all_given_up.Given as goal

abbrev pub invariant-loop-row : goal.invariant-loop-row
invariant-loop-row l = l.count ≡ saturated (sum_by given_up (take l.row-index l.rows))

use Rattle.std.proofs.Common.{◌≡◌, filter, map, take}
use Rattle.hq_rows.specs.Lookups.{is_end_before}
use Rattle.hq_lists.proofs.ends.ends_before.Given as goal

abbrev pub invariant-loop-row : goal.invariant-loop-row
invariant-loop-row g l = l.ends.items ≡ map (λ row. row.end)
    (filter (is_end_before l.customer l.before) (take l.row-index l.rows))

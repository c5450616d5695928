use Rattle.std.proofs.Common.{◌≡◌, filter, take, None}
use Rattle.std.specs.List.{sum_by}
use Rattle.hq_tables.specs.Readings.{saturated}
use Rattle.hq_rows.specs.Lookups.{is_past}
use Rattle.hq_lists.proofs.messages.bytes_in.Given as goal

-- those of the rows so far
abbrev pub invariant-loop-row : goal.invariant-loop-row
invariant-loop-row l = l.bytes ≡ saturated (sum_by (λ row. row.size)
    (filter (is_past l.customer None) (take l.row-index l.rows)))

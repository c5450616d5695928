use Rattle.std.proofs.Common.{◌≡◌, filter, map, take}
use Rattle.hq_rows.specs.Lookups.{is_notice_past}
use Rattle.hq_lists.proofs.notices.notices_past.Given as goal

abbrev pub invariant-loop-row : goal.invariant-loop-row
invariant-loop-row g l = l.notices.items ≡ map (λ row. row.notice)
    (filter (is_notice_past l.customer l.after) (take l.row-index l.rows))

use Rattle.std.proofs.Common.{◌≡◌, false, take}
use Rattle.std.specs.List.{list_any}
use Rattle.hq_sql.specs.Rows.{recipient_shown}
use Rattle.hq_sql_recipients.specs.Places.{is_far}
use Rattle.hq_sql_recipients.proofs.places.are_beside.Given as goal

abbrev pub invariant-loop-row : goal.invariant-loop-row
invariant-loop-row g l = list_any (λ r. is_far l.count (recipient_shown r).place)
    (take l.row-index l.rows) ≡ false

use Rattle.std.proofs.Common.{◌≡◌, map, take}
use Rattle.hq_rows.specs.Listed.{recipient_value}
use Rattle.hq_sql.specs.Rows.{recipient_shown}
use Rattle.hq_sql_recipients.proofs.places.all.Given as goal

abbrev pub invariant-loop-row : goal.invariant-loop-row
invariant-loop-row g l = l.all.items ≡ map (λ r. recipient_value (recipient_shown r))
    (take l.row-index l.rows)

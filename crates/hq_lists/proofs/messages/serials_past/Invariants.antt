use Rattle.std.proofs.Common.{◌≡◌, take}
use Rattle.hq_rows.specs.Lookups.{serials_where, is_past}
use Rattle.hq_lists.proofs.messages.serials_past.Given as goal

abbrev pub invariant-loop-row : goal.invariant-loop-row
invariant-loop-row g l = l.serials.items ≡ serials_where (is_past l.customer l.after)
    (take l.row-index l.rows)

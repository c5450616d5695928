use Rattle.std.proofs.Common.{◌≡◌, take}
use Rattle.hq_rows.specs.Lookups.{serials_where, has_spool}
use Rattle.hq_lists.proofs.messages.serials_having.Given as goal

abbrev pub invariant-loop-row : goal.invariant-loop-row
invariant-loop-row g l = l.serials.items ≡ serials_where (has_spool l.customer l.spool)
    (take l.row-index l.rows)

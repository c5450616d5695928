use Rattle.std.proofs.Common.{◌≡◌, take}
use Rattle.hq_rows.specs.Lookups.{pending_in}
use Rattle.hq_lists.proofs.recipients.pending_in.Given as goal

abbrev pub invariant-loop-row : goal.invariant-loop-row
invariant-loop-row g l = l.pending.items ≡ pending_in l.customer l.serial (take l.row-index l.rows)

use Rattle.std.proofs.Common.{◌≡◌, ◌+◌, ◌++◌, drop}
use Rattle.hq_rows.specs.Lookups.{recipient_rows}
use Rattle.hq_lists.proofs.recipients.add_rows.Given as goal

-- what is left to add leads to the end
abbrev pub invariant-loop-recipient : goal.invariant-loop-recipient
invariant-loop-recipient g l = record {
  place : l.place ≡ l.recipient-index + 1;
  left : l.rows.items ++ recipient_rows l.customer l.serial l.place
      (drop l.recipient-index l.pending) ≡ l.fn.rows.items
      ++ recipient_rows l.customer l.serial 1 l.pending;
}

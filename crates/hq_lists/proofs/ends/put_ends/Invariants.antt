use Rattle.std.proofs.Common.{◌≡◌, drop, length}
use Rattle.std.specs.Prelude.{nat_le}
use Rattle.std.specs.FinMap.{retain_keys}
use Rattle.hq_tables.specs.Tables.{add_rows, left_of, last_before}
use Rattle.hq_rows.specs.Listed.{ends_of}
use Rattle.hq_rows.specs.Lookups.{AreUniqueEnds}
use Rattle.hq_lists.proofs.ends.put_ends.Given as goal

-- what is left to add leads to the end
abbrev pub invariant-loop-ended : goal.invariant-loop-ended
invariant-loop-ended g l = record {
  left : l.left ≡ length (drop l.ended-index l.ends.ended);
  table : add_rows l.customer l.ends.at l.ends.last (drop l.ended-index l.ends.ended)
      (ends_of l.rows.items) ≡ add_rows l.customer l.ends.at l.ends.last l.ends.ended
      (retain_keys (ends_of l.fn.rows.items) (left_of l.customer
      (λ n. nat_le n (last_before l.ends))));
  unique : AreUniqueEnds l.fn.rows.items → AreUniqueEnds l.rows.items;
}

use Rattle.std.proofs.Common.{◌≡◌, ◌≤◌, [], drop, length, map}
use Rattle.csv.specs.Records.{fields_of}
use Rattle.hq_import.specs.Keys.{keys_under}
use Rattle.hq_import.proofs.keys.keys_under.Given as goal

-- the rows that are left go on from the keys so far
abbrev pub invariant-loop-row : goal.invariant-loop-row
invariant-loop-row g l = record {
  left : keys_under l.customers l.named.items (map fields_of (drop l.row-index l.rows)) ≡
      keys_under l.customers [] (map fields_of l.rows);
  few : length l.named.items ≤ 1000;
}

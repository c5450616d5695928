use Rattle.std.proofs.Common.{◌≡◌, ◌≤◌, [], drop, length, map}
use Rattle.csv.specs.Records.{fields_of}
use Rattle.hq_import.specs.Seen.{KnowsNames, KnowsKeys}
use Rattle.hq_import.specs.Directories.{customers_under}
use Rattle.hq_import.proofs.directory.customers_under.Given as goal

-- the rows that are left go on from the customers so far, whose names and keys are noted
abbrev pub invariant-loop-row : goal.invariant-loop-row
invariant-loop-row g l = record {
  left : customers_under l.columns l.customers.items (map fields_of (drop l.row-index l.rows)) ≡
      customers_under l.columns [] (map fields_of l.rows);
  names : KnowsNames l.names l.customers.items;
  keys : KnowsKeys l.keys l.customers.items;
  few : length l.customers.items ≤ 1000;
}

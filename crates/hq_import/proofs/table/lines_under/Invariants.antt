use Rattle.std.proofs.Common.{◌≡◌, ◌≤◌, [], drop, length, map}
use Rattle.csv.specs.Records.{fields_of}
use Rattle.hq_import.specs.Seen.{KnowsPatterns}
use Rattle.hq_rules.specs.TableFiles.{lines_under}
use Rattle.hq_import.proofs.table.lines_under.Given as goal

-- the rows that are left go on from the lines so far, whose patterns are noted
abbrev pub invariant-loop-row : goal.invariant-loop-row
invariant-loop-row g l = record {
  left : lines_under l.lines.items (map fields_of (drop l.row-index l.rows)) ≡ lines_under []
      (map fields_of l.rows);
  noted : KnowsPatterns l.seen l.lines.items;
  few : length l.lines.items ≤ 1000;
}

use Rattle.std.proofs.Common.{◌≡◌, drop, length, bytes_eq, map}
use Rattle.std.specs.Cmp.Lexicographic.{pointwise}
use Rattle.csv.specs.Records.{fields_of}
use Rattle.hq_import.proofs.records.is_header.Given as goal

-- the names that are left decide
abbrev pub invariant-loop-place : goal.invariant-loop-place
invariant-loop-place l = record {
  left : pointwise bytes_eq (map (λ n. n.now) (drop l.place l.names))
      (drop l.place (fields_of l.header)) ≡ pointwise bytes_eq (map (λ n. n.now) l.names)
      (fields_of l.header);
  same : length (fields_of l.header) ≡ length l.names;
}

use Rattle.std.proofs.Common.{◌≡◌, ◌<◌, ◌++◌, ℕ, List, [], Some, length, map}
use Rattle.csv.specs.Reading.{Ready, default_config, source_of}
use Rattle.csv.specs.Records.{fields_of}
use Rattle.csv.specs.declared.reader.Trim.TheVariants.{None as NoTrim}
use Rattle.hq_rules.specs.Records.{records_from, records_in}
use Rattle.hq_rules.proofs.csv_memory.first_records.Given as goal

-- the reader goes on, and what it has left gives the records behind those so far
abbrev pub invariant-loop-row : goal.invariant-loop-row
invariant-loop-row l =
    (rest : List ℕ)
    × (source_of (λ s. Some s.now) l.row-iterator.rdr ≡ Some rest)
    × (map fields_of l.records.items ++ records_from l.row-iterator.rdr.state [] [] rest ≡
    records_in l.fn.file)
    × (l.row-iterator.rdr.trim ≡ NoTrim)
    × Ready l.row-iterator.rdr
    × (0 < l.row-iterator.left)
    × (l.row-iterator.rdr.config ≡ default_config)
    × (length l.records.items < 1002)

use Rattle.std.proofs.Common.{map}
use Rattle.csv.specs.Records.{fields_of}
use Rattle.hq_import.proofs.Patterns.{read_apart}
use Rattle.hq_import.proofs.table.first_lines.Goals as goal

pub returns-clause-apart : goal.returns-clause-apart
returns-clause-apart g c = read_apart g.M.Memory.refused c.lines_under.result (map fields_of
    c.in_ok-rows.rows.now)
    c.lines_under.ensures

use Rattle.std.proofs.Common.{subst}
use Rattle.hq_values.specs.Readers.{ReadsIn, seen_by}
use Rattle.hq_import.proofs.Enough.{lines_enough}
use Rattle.hq_import.proofs.table.lines_of.Goals as goal

pub returns-clause-lines : goal.returns-clause-lines
returns-clause-lines g c =
    subst (λ read. ReadsIn g.M.Memory.refused (seen_by (λ v. v.items) c.first_lines.result) read)
    (lines_enough c.args.file.now) c.first_lines.ensures.lines

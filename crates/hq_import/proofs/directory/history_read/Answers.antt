use Rattle.std.proofs.Common.{subst, sym, true, rules}
use Rattle.csv.specs.Records.{fields_of}
use Rattle.hq_import.specs.Directories.{IsLimited}
use Rattle.hq_import.specs.declared.columns.Number.TheVariants.{History}
use Rattle.hq_import.proofs.Limits.{no_history, history_is}
use Rattle.hq_import.proofs.directory.history_read.Goals as goal

pub returns-then-len-eq8 : goal.returns-then-len-eq8
returns-then-len-eq8 c =
    subst (IsLimited History c.number_read.result)
    (sym (history_is c.args.row (fields_of c.args.record.now) (search rules)))
    c.number_read.ensures

pub returns-else-len-eq8 : goal.returns-else-len-eq8
returns-else-len-eq8 c = (
  (λ _. true),
  no_history c.args.row (fields_of c.args.record.now) (search rules),
)

use Rattle.std.proofs.Common.{subst}
use Rattle.hq_values.specs.Readers.{seen_by}
use Rattle.hq_import.specs.Refused.{ReadsDirectory}
use Rattle.hq_import.proofs.Enough.{keys_enough}
use Rattle.hq_import.proofs.keys.read_keys.Goals as goal

pub returns-clause-named : goal.returns-clause-named
returns-clause-named g c =
    subst (λ read. ReadsDirectory g.M.Memory.refused (seen_by (λ v. v.items)
    c.first_keys.result) read)
    (keys_enough c.args.customers.now c.args.file.now) c.first_keys.ensures.named

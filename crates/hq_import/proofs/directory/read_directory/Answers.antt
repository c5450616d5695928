use Rattle.std.proofs.Common.{subst}
use Rattle.hq_values.specs.Readers.{seen_by}
use Rattle.hq_import.specs.Refused.{ReadsDirectory}
use Rattle.hq_import.proofs.Enough.{customers_enough}
use Rattle.hq_import.proofs.directory.read_directory.Goals as goal

pub returns-clause-customers : goal.returns-clause-customers
returns-clause-customers g c =
    subst (λ read. ReadsDirectory g.M.Memory.refused (seen_by (λ v. v.items)
    c.first_customers.result) read)
    (customers_enough c.args.file.now) c.first_customers.ensures.customers

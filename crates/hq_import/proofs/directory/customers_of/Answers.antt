use Rattle.hq_import.proofs.Apart.{read_apart}
use Rattle.hq_import.proofs.directory.customers_of.Goals as goal

pub returns-clause-apart : goal.returns-clause-apart
returns-clause-apart g c = read_apart g.M.Memory.refused _ c.customers_under.result _
    c.customers_under.ensures

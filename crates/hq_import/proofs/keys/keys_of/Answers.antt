use Rattle.hq_import.proofs.Joined.{read_joined}
use Rattle.hq_import.proofs.keys.keys_of.Goals as goal

pub returns-clause-joined : goal.returns-clause-joined
returns-clause-joined g c = read_joined g.M.Memory.refused c.args.customers.now c.keys_under.result
    _ c.keys_under.ensures

use Rattle.hq_isolation.proofs.Own.{other_write_all}
use Rattle.hq_isolation.proofs.laws.other_states_stay.Goals as goal

pub returns : goal.returns
returns c = other_write_all

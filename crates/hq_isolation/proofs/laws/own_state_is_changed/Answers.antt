use Rattle.hq_isolation.proofs.Own.{own_write_all}
use Rattle.hq_isolation.proofs.laws.own_state_is_changed.Goals as goal

pub returns : goal.returns
returns c = own_write_all

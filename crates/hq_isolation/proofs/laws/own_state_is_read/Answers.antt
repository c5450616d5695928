use Rattle.hq_isolation.proofs.Read.{same_readings}
use Rattle.hq_isolation.proofs.laws.own_state_is_read.Goals as goal

pub returns : goal.returns
returns c = same_readings

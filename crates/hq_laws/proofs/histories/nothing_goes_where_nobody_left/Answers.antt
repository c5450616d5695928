use Rattle.hq_laws.proofs.Steps.{nobody_left}
use Rattle.hq_laws.proofs.histories.nothing_goes_where_nobody_left.Goals as goal

pub returns : goal.returns
returns c = nobody_left

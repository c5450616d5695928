use Rattle.hq_laws.proofs.Steps.{never_fewer}
use Rattle.hq_laws.proofs.histories.no_number_is_given_twice.Goals as goal

pub returns : goal.returns
returns c = never_fewer

use Rattle.hq_laws.proofs.Steps.{newest_told}
use Rattle.hq_laws.proofs.histories.the_newest_are_told.Goals as goal

pub returns : goal.returns
returns c = newest_told

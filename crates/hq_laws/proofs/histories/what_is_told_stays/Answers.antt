use Rattle.hq_laws.proofs.Steps.{told_stays}
use Rattle.hq_laws.proofs.histories.what_is_told_stays.Goals as goal

pub returns : goal.returns
returns c = told_stays

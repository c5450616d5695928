use Rattle.hq_isolation.proofs.Counted.{counts_stay, counts_kept}
use Rattle.hq_isolation.proofs.laws.counts_are_kept.Goals as goal

pub returns-clause-stay : goal.returns-clause-stay
returns-clause-stay c = counts_stay

pub returns-clause-read : goal.returns-clause-read
returns-clause-read c = counts_kept

use Rattle.hq_across.proofs.Across.{across, across_sound}
use Rattle.hq_across.proofs.laws.alone_across_stops.Goals as goal

pub returns-clause-alone : goal.returns-clause-alone
returns-clause-alone c = across

pub returns-clause-sound : goal.returns-clause-sound
returns-clause-sound c = across_sound

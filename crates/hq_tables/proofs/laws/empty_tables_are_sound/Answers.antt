use Rattle.hq_tables.proofs.Empty.{own_opening, empty_sound}
use Rattle.hq_tables.proofs.laws.empty_tables_are_sound.Goals as goal

pub returns-clause-sound : goal.returns-clause-sound
returns-clause-sound c = empty_sound

pub returns-clause-opening : goal.returns-clause-opening
returns-clause-opening c = own_opening

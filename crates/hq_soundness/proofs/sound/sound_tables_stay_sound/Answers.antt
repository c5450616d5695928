use Rattle.hq_soundness.proofs.Shapes.{stays_sound}
use Rattle.hq_soundness.proofs.sound.sound_tables_stay_sound.Goals as goal

pub returns : goal.returns
returns c = stays_sound

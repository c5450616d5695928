use Rattle.hq_soundness.proofs.Shapes.{stays_shaped}
use Rattle.hq_soundness.proofs.sound.shaped_tables_stay_shaped.Goals as goal

pub returns : goal.returns
returns c = stays_shaped

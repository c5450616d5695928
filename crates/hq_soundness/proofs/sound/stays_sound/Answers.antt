use Rattle.hq_soundness.proofs.Soundness.{shared_sound}
use Rattle.hq_soundness.proofs.sound.stays_sound.Goals as goal

pub returns : goal.returns
returns c = shared_sound

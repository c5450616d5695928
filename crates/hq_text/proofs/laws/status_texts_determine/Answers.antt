use Rattle.hq_text.proofs.Groups.{determined}
use Rattle.hq_text.proofs.laws.status_texts_determine.Goals as goal

pub returns : goal.returns
returns c = determined

use Rattle.hq_values.proofs.Parts.{parts_from_rsplit}
use Rattle.hq_values.proofs.address.parts.Goals as goal

pub returns : goal.returns
returns c = parts_from_rsplit c.args.text.now c.rsplit_once.result c.rsplit_once.ensures.cases

use Rattle.hq_laws.proofs.Repeats.{repeats}
use Rattle.hq_laws.proofs.imports.imports_are_kept.Goals as goal

pub returns : goal.returns
returns c = repeats

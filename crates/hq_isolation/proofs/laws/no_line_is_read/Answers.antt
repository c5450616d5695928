use Rattle.hq_isolation.proofs.Read.{no_line}
use Rattle.hq_isolation.proofs.laws.no_line_is_read.Goals as goal

pub returns : goal.returns
returns c = no_line

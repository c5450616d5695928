use Rattle.std.proofs.Common.{length}
use Rattle.hq_import.proofs.customers.+names_apart.Given as goal

abbrev pub decreases-names_apart : goal.decreases-names_apart
decreases-names_apart l = length l.customers.now

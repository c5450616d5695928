use Rattle.std.proofs.Common.{length}
use Rattle.hq_import.proofs.customers.+keys_apart.Given as goal

abbrev pub decreases-keys_apart : goal.decreases-keys_apart
decreases-keys_apart l = length l.customers.now

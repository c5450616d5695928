use Rattle.std.proofs.Common.{length}
use Rattle.hq_requests.proofs.spans.+from_name.Given as goal

abbrev pub decreases-from_name : goal.decreases-from_name
decreases-from_name l = length l.customers.now

use Rattle.std.proofs.Common.{length}
use Rattle.hq_queue.proofs.reporting.+is_doubled.Given as goal

abbrev pub decreases-is_doubled : goal.decreases-is_doubled
decreases-is_doubled l = length l.outcomes.now

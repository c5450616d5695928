use Rattle.std.proofs.Common.{length}
use Rattle.hq_sql_across.proofs.histories.+serve_all.Given as goal

abbrev pub decreases-serve_all : goal.decreases-serve_all
decreases-serve_all g l = length l.visits.now

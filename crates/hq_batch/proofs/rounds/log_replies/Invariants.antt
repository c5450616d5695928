use Rattle.std.proofs.Common.{length, map, take}
use Rattle.std.specs.List.{zip}
use Rattle.hq_batch.proofs.Lined.{pair_entry}
use Rattle.hq_batch.proofs.rounds.log_replies.Given as goal

-- the log is told of the first
abbrev pub invariant-loop-asked : goal.invariant-loop-asked
invariant-loop-asked g l = g.L.Log.tells l.fn.log
    (map pair_entry (take (length l.yielded) (zip l.asked l.replies))) l.log

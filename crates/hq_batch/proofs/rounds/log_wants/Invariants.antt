use Rattle.std.proofs.Common.{map, take}
use Rattle.hq_batch.specs.Steps.{wanted_entry}
use Rattle.hq_batch.proofs.rounds.log_wants.Given as goal

-- the log is told of the first
abbrev pub invariant-loop-asked : goal.invariant-loop-asked
invariant-loop-asked g l = g.L.Log.tells l.fn.log
    (map (wanted_entry l.directory) (take l.asked-index l.asked)) l.log

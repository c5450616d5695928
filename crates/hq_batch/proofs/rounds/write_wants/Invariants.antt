use Rattle.std.proofs.Common.{map, take}
use Rattle.std.specs.List.{concat}
use Rattle.std.specs.Io.KnownBytes.{Appends}
use Rattle.hq_requests.specs.declared.exchanges.Exchange.{Exchange}
use Rattle.hq_wire.specs.Replies.{seen}
use Rattle.hq_batch.specs.Batches.{reply_line}
use Rattle.hq_batch.proofs.rounds.write_wants.Given as goal

-- the first are written
abbrev pub invariant-loop-asked : goal.invariant-loop-asked
invariant-loop-asked g l = Appends (g.W.Write.contents l.fn.writer)
    (g.W.Write.contents l.writer)
    (concat (map (λ (x : Exchange). reply_line (seen l.fn.want)) (take l._asked-index l.asked)))

use Rattle.std.proofs.Common.{map, take}
use Rattle.std.specs.List.{concat}
use Rattle.std.specs.Io.KnownBytes.{Appends}
use Rattle.hq_requests.specs.declared.reply.Reply.{Reply}
use Rattle.hq_wire.specs.Replies.{seen}
use Rattle.hq_batch.specs.Batches.{reply_line}
use Rattle.hq_batch.proofs.rounds.write_replies.Given as goal

-- the first are written
abbrev pub invariant-loop-reply : goal.invariant-loop-reply
invariant-loop-reply g l = Appends (g.W.Write.contents l.fn.writer) (g.W.Write.contents l.writer)
    (concat (map (λ (r : Reply). reply_line (seen r)) (take l.reply-index l.replies)))

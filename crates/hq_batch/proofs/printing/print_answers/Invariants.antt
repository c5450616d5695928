use Rattle.std.proofs.Common.{take}
use Rattle.hq_batch.proofs.Printed.{SoFar}
use Rattle.hq_batch.proofs.printing.print_answers.Given as goal

abbrev pub invariant-loop-rendered : goal.invariant-loop-rendered
invariant-loop-rendered g l = SoFar (take l.rendered-index l.told) (g.W.Write.contents l.fn.output)
    (g.W.Write.contents l.output) l.status

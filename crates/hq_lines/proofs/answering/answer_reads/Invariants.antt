use Rattle.std.proofs.Common.{◌≡◌, length}
use Rattle.hq_lines.specs.Progress.{Going}
use Rattle.hq_lines.proofs.answering.answer_reads.Given as goal

abbrev pub invariant-loop : goal.invariant-loop
invariant-loop g l = record {
  going : Going g.A.Answers.does g.A.Answers.waiting (g.R.Read.remaining l.fn.reader)
      (g.R.Read.remaining l.reader) (g.W.Write.contents l.fn.writer)
      (g.W.Write.contents l.writer) l.fn.answers l.answers l.line.bytes.items;
  room : length l.chunk ≡ 65536;
}

use Rattle.std.proofs.Common.{List, ℕ, ◌++◌, Option, take}
use Rattle.hq_lines.specs.Progress.{Progress}
use Rattle.hq_lines.proofs.answering.answer_chunk.Given as goal

-- the bytes of the chunk so far are taken
abbrev pub invariant-loop-byte : goal.invariant-loop-byte
invariant-loop-byte g l = (before : List ℕ) (write_old : Option (List ℕ)) (old : g.row.A.Denot) →
    Progress g.A.Answers.does g.A.Answers.waiting before write_old
    (g.W.Write.contents l.fn.writer) old l.fn.answers l.fn.line.bytes.items →
    Progress g.A.Answers.does g.A.Answers.waiting (before ++ take l.byte-index l.chunk)
    write_old (g.W.Write.contents l.writer) old l.answers l.line.bytes.items

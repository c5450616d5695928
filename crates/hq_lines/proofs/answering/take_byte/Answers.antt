use Rattle.hq_lines.proofs.Steps.{of_byte}
use Rattle.hq_lines.proofs.answering.take_byte.Goals as goal

pub returns-then-byte-ne10-clause-taken : goal.returns-then-byte-ne10-clause-taken
returns-then-byte-ne10-clause-taken g c = of_byte g.A.Answers.does g.A.Answers.none_does
    g.A.Answers.does_on g.A.Answers.waiting _ _
    c.args.byte _ c.if-byte-ne10.true

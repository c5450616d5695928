use Rattle.hq_lines.proofs.First.{err_as, filled_told, of_line, ok_as}
use Rattle.hq_lines.proofs.Steps.{of_empty}
use Rattle.hq_lines.proofs.answering.take_line.Goals as goal

pub returns-in-Ok-clause-taken : goal.returns-in-Ok-clause-taken
returns-in-Ok-clause-taken g c = of_line g.A.Answers.does g.A.Answers.waiting _ _ _ _
    c.args.line.now _
    (filled_told c.args.line.now c.is_empty.result c.is_empty.ensures c.if-is_empty.false)
    (ok_as g.A.Answers.does g.A.Answers.waiting _ _ _ _ _ c.in-Ok.ensures)

pub returns-in-Err-clause-taken : goal.returns-in-Err-clause-taken
returns-in-Err-clause-taken g c = of_line g.A.Answers.does g.A.Answers.waiting _ _ _ _
    c.args.line.now _
    (filled_told c.args.line.now c.is_empty.result c.is_empty.ensures c.if-is_empty.false)
    (err_as g.A.Answers.does g.A.Answers.waiting _ _ _ _ _ _ _ c.in-Err.ensures)

pub returns-then-is_empty-clause-taken : goal.returns-then-is_empty-clause-taken
returns-then-is_empty-clause-taken g c = of_empty g.A.Answers.does g.A.Answers.none_does
    g.A.Answers.does_on g.A.Answers.waiting _ _
    c.args.line.now c.is_empty.result c.is_empty.ensures c.if-is_empty.true

use Rattle.hq_lines.proofs.First.{ok_as, err_as}
use Rattle.hq_lines.proofs.answering.answer_waiting.Goals as goal

pub returns-in-Ok-clause-answered : goal.returns-in-Ok-clause-answered
returns-in-Ok-clause-answered g c = ok_as g.A.Answers.does g.A.Answers.waiting _ _ _ _ _
    c.in-Ok.ensures.answered

pub returns-in-Err-clause-answered : goal.returns-in-Err-clause-answered
returns-in-Err-clause-answered g c = err_as g.A.Answers.does g.A.Answers.waiting _ _ _ _ _ _ _
    c.in-Err.ensures.answered

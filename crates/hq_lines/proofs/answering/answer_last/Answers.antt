use Rattle.hq_lines.proofs.Steps.{does_still}
use Rattle.hq_lines.proofs.answering.answer_last.Goals as goal

pub returns-clause-answered : goal.returns-clause-answered
returns-clause-answered g c = does_still g.A.Answers.does g.A.Answers.none_does g.A.Answers.does_on
    g.A.Answers.waiting _ _ _ _ _ _ _
    c.answer_waiting.result c.in_ok-take_line.ensures.taken c.answer_waiting.ensures.answered

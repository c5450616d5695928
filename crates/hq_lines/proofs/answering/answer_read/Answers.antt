use Rattle.std.proofs.lemmas.Result.{err_from_is_err_and}
use Rattle.hq_lines.proofs.Steps.{going_more, cut_ends}
use Rattle.hq_lines.proofs.answering.answer_read.Goals as goal

pub returns-in_err-answer_chunk-in-Ok-clause-fault :
    goal.returns-in_err-answer_chunk-in-Ok-clause-fault
returns-in_err-answer_chunk-in-Ok-clause-fault g c =
    let q = err_from_is_err_and c.from_residual.result c.from_residual.ensures.1 in
    rw (q.1, q.2) (λ ro wo old none p.
    cut_ends g.A.Answers.does g.A.Answers.none_does g.A.Answers.does_on g.A.Answers.waiting ro wo
    old none _ _ _ _ _ _ _ _ _ p
    c.in-Ok.ensures.bytes.0
    (c.in_err-answer_chunk-in-Ok.ensures.cut p.bytes wo old p.progress))

pub returns-in_ok-answer_chunk-in-Ok-clause-going :
    goal.returns-in_ok-answer_chunk-in-Ok-clause-going
returns-in_ok-answer_chunk-in-Ok-clause-going g c = λ ro wo old p.
    going_more g.A.Answers.does g.A.Answers.none_does g.A.Answers.does_on g.A.Answers.waiting ro wo
    old _ _ _ _ _ _ _ _ _ p
    c.in-Ok.ensures.bytes.0
    (c.in_ok-answer_chunk-in-Ok.ensures.progress p.bytes wo old p.progress)
    c.in_ok-answer_chunk-in-Ok.ensures.none_wait

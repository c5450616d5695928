use Rattle.std.proofs.Common.{refl}
use Rattle.std.proofs.lemmas.Result.{err_from_is_err_and}
use Rattle.hq_lines.proofs.Steps.{going_none, ends}
use Rattle.hq_lines.proofs.answering.answer_reads.Goals as goal

pub loop-init : goal.loop-init
loop-init g c = record {
  going = going_none g.A.Answers.does g.A.Answers.none_does g.A.Answers.does_on g.A.Answers.waiting
      _ _ _ c.args.line.now.bytes.items
      c.requires.none_read c.requires.none_wait;
  room = refl;
}

pub returns-in_err-answer_read : goal.returns-in_err-answer_read
returns-in_err-answer_read g c =
    let q = err_from_is_err_and c.from_residual.result c.from_residual.ensures.1 in
    rw (q.1, q.2) (c.in_err-answer_read.ensures.fault _ _ _ c.requires.none_wait
    c.loop.invariant.going)

pub returns-then-not-branch : goal.returns-then-not-branch
returns-then-not-branch g c =
    ends g.A.Answers.does g.A.Answers.none_does g.A.Answers.does_on g.A.Answers.waiting _ _ _
    c.requires.none_wait c.answer_last.result
    _ _ _ _ _ _ c.as_slice.result.now c.as_slice.ensures.value
    (c.in_ok-answer_read.ensures.end c.if-not-branch.true)
    (c.in_ok-answer_read.ensures.going _ _ _ c.loop.invariant.going)
    c.answer_last.ensures.answered c.answer_last.ensures.none_wait c.answer_last.ensures.fault

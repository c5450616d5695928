use Rattle.std.proofs.Common.{◌≡◌, ◌+◌, ℕ, List, Option, [], ◌∷◌, ◌++◌, take, drop, get_or, sym, ap}
use Rattle.std.proofs.Common.{◌∙◌, subst}
use Rattle.std.proofs.Common.{arith, append_assoc, take-append-drop}
use Rattle.std.proofs.lemmas.List.{take_more, take_all}
use Rattle.std.proofs.lemmas.Result.{err_from_is_err_and}
use Rattle.hq_lines.specs.Progress.{Progress, Cut}
use Rattle.hq_lines.proofs.Steps.{chunk_cut, chunk_goes, cut_here, progress_more}
use Rattle.hq_lines.proofs.answering.answer_chunk.Given.{Over}
use Rattle.hq_lines.proofs.answering.answer_chunk.Goals as goal

pub loop-byte-preserved : goal.loop-byte-preserved
loop-byte-preserved g c = λ before wo old p.
    let xs = take c.loop-byte.byte-index c.args.chunk.now in
    let b = get_or c.args.chunk.now c.loop-byte.byte-index 0 in
    let all : (before ++ xs) ++ b ∷ [] ≡ before
    ++ take (c.loop-byte.byte-index + 1) c.args.chunk.now =
    append_assoc before xs (b ∷ []) ∙ ap (λ t. before ++ t)
    (sym (take_more c.args.chunk.now c.loop-byte.byte-index 0 (omega arith))) in
    subst (λ t. Progress g.A.Answers.does g.A.Answers.waiting t wo
    (g.W.Write.contents c.take_byte.new.writer) old c.take_byte.new.answers
    c.take_byte.new.line.bytes.items) all
    (progress_more g.A.Answers.does g.A.Answers.none_does g.A.Answers.does_on g.A.Answers.waiting
    (before ++ xs) b wo _ _ old _ _
    c.loop-byte.line.bytes.items _ (c.loop-byte.invariant before wo old p)
    c.in_ok-take_byte.ensures.line c.in_ok-take_byte.ensures.taken)

pub returns-in_err-take_byte-clause-cut : goal.returns-in_err-take_byte-clause-cut
returns-in_err-take_byte-clause-cut g c =
    let q = err_from_is_err_and c.from_residual.result c.from_residual.ensures.1 in
    let chunk = c.args.chunk.now in
    let i = c.loop-byte.byte-index in
    let b = get_or chunk i 0 in
    rw (q.1, q.2) (λ before wo old p.
    let all : ((before ++ take i chunk) ++ b ∷ []) ++ drop (i + 1) chunk ≡ before ++ chunk =
    ap (λ t. t ++ drop (i + 1) chunk) (append_assoc before (take i chunk) (b ∷ []))
    ∙ append_assoc before (take i chunk ++ b ∷ []) (drop (i + 1) chunk) ∙
    ap (λ t. before ++ (t ++ drop (i + 1) chunk)) (sym (take_more chunk i 0 (omega arith)))
    ∙ ap (λ t. before ++ t) (take-append-drop (i + 1) chunk) in (
      c.in_err-take_byte.ensures.fault,
      subst (λ t. Cut g.A.Answers.does g.A.Answers.waiting t wo
          (g.W.Write.contents c.take_byte.new.writer) old c.take_byte.new.answers) all
          (cut_here g.A.Answers.does g.A.Answers.none_does g.A.Answers.does_on g.A.Answers.waiting
          (before ++ take i chunk)
          (drop (i + 1) chunk) b wo _ _ old _ _ c.loop-byte.line.bytes.items _
          (c.loop-byte.invariant before wo old p) c.in_err-take_byte.ensures.taken),
    ))

-- the whole chunk is taken
taken : (g : Over) (c : goal.After-answer_waiting g) (before : List ℕ)
    (write_old : Option (List ℕ)) (old : g.row.A.Denot) →
    Progress g.A.Answers.does g.A.Answers.waiting before write_old
    (g.W.Write.contents c.args.writer.now) old c.args.answers.now c.args.line.now.bytes.items →
    Progress g.A.Answers.does g.A.Answers.waiting (before ++ c.args.chunk.now) write_old
    (g.W.Write.contents c.loop-byte.writer) old c.loop-byte.answers c.loop-byte.line.bytes.items
taken g c before wo old p = subst (λ t. Progress g.A.Answers.does g.A.Answers.waiting
    (before ++ t) wo (g.W.Write.contents c.loop-byte.writer) old c.loop-byte.answers
    c.loop-byte.line.bytes.items)
    (take_all c.loop-byte.byte-index c.args.chunk.now c.loop-byte-test.false)
    (c.loop-byte.invariant before wo old p)

pub returns-clause-progress : goal.returns-clause-progress
returns-clause-progress g c = λ before wo old p.
    chunk_goes g.A.Answers.does g.A.Answers.none_does g.A.Answers.does_on g.A.Answers.waiting
    (before ++ c.args.chunk.now) wo _ _ old _ _
    c.loop-byte.line.bytes.items (taken g c before wo old p) c.answer_waiting.result
    c.answer_waiting.ensures.answered

pub returns-clause-cut : goal.returns-clause-cut
returns-clause-cut g c = λ before wo old p.
    chunk_cut g.A.Answers.does g.A.Answers.none_does g.A.Answers.does_on g.A.Answers.waiting (before
    ++ c.args.chunk.now) wo _ _ old _ _
    c.loop-byte.line.bytes.items (taken g c before wo old p) c.answer_waiting.result
    c.answer_waiting.ensures.answered c.answer_waiting.ensures.fault

use Rattle.std.proofs.Common.{◌≡◌, ◌+◌, ◌∙◌, ◌∷◌, ◌++◌, [], take, drop, sym, ap, arith, subst}
use Rattle.std.proofs.Common.{take-append-drop}
use Rattle.std.proofs.lemmas.Result.{err_from_is_err_and}
use Rattle.std.proofs.lemmas.List.{take_all, take_more}
use Rattle.hq_lines.specs.Written.{AppendsPart}
use Rattle.hq_batch.specs.Printing.{answers_of}
use Rattle.hq_batch.proofs.Printed.{broken_off, none_yet, one_more}
use Rattle.hq_batch.proofs.printing.print_answers.Goals as goal

pub loop-rendered-init : goal.loop-rendered-init
loop-rendered-init g c = none_yet _

pub loop-rendered-preserved : goal.loop-rendered-preserved
loop-rendered-preserved g c =
    let i = c.loop-rendered.rendered-index in
    let told = c.args.told.now in
    let item = c.rendered-item.result in
    let contents = g.W.Write.contents in
    let more : take (i + 1) told ≡ take i told ++ item ∷ [] =
    take_more told i item c.loop-rendered-test.true ∙ ap (λ x. take i told ++ x ∷ [])
    (sym c.rendered-item.is) in
    let printed = one_more contents (take i told) item (contents c.args.output.now)
    c.loop-rendered.output c.print_answer.new.output c.loop-rendered.status
    c.in_ok-print_answer.field-0 c.loop-rendered.invariant c.in_ok-print_answer.ensures in
    rw more (rw c.max-status.ensures printed)

pub returns-in_err-print_answer : goal.returns-in_err-print_answer
returns-in_err-print_answer g c =
    let i = c.loop-rendered.rendered-index in
    let told = c.args.told.now in
    let item = c.rendered-item.result in
    let contents = g.W.Write.contents in
    let error = err_from_is_err_and c.from_residual.result c.from_residual.ensures.1 in
    let more : take (i + 1) told ≡ take i told ++ item ∷ [] =
    take_more told i item c.loop-rendered-test.true ∙ ap (λ x. take i told ++ x ∷ [])
    (sym c.rendered-item.is) in
    let whole : (take i told ++ item ∷ []) ++ drop (i + 1) told ≡ told =
    ap (λ l. l ++ drop (i + 1) told) (sym more) ∙ take-append-drop (i + 1) told in
    rw (error.1, error.2) (
      c.in_err-print_answer.ensures.1,
      subst (λ l. AppendsPart (contents c.args.output.now) (contents c.print_answer.new.output)
          (answers_of l)) whole
          (broken_off (take i told) (drop (i + 1) told) item
          (c.print_answer.new.output ≡ c.loop-rendered.output) _ (contents c.loop-rendered.output)
          _ c.loop-rendered.status c.in_err-print_answer.field-0.0 c.loop-rendered.invariant
          c.in_err-print_answer.ensures),
    )

pub returns : goal.returns
returns g c =
    let all : take c.loop-rendered.rendered-index c.args.told.now ≡ c.args.told.now =
    take_all c.loop-rendered.rendered-index c.args.told.now (omega arith) in
    let so_far = rw all at c.loop-rendered.invariant in
    (so_far.status_is, so_far.written)

use Rattle.std.proofs.Common.{ℕ, List, [], ◌∷◌, refl, sym, subst, append-nil}
use Rattle.hq_values.specs.Turns.{InTurn}
use Rattle.hq_wire.specs.Exchanges.{with_refusals}
use Rattle.hq_lines.specs.Fields.{request_in}
use Rattle.hq_lines.specs.Rounds.{OneEach}
use Rattle.hq_lines.specs.Written.{GoesOut}
use Rattle.hq_lines.proofs.First.{does_round}
use Rattle.hq_batch.specs.Steps.{LineStep}
use Rattle.hq_batch.proofs.front.FrontAnswers.take.Goals as goal

pub returns : goal.returns
returns g c =
    let one = OneEach (LineStep (with_refusals g.M.Memory.refused g.D.Acts.sight)
    g.L.Log.tells) in
    let q = request_in c.args.line.now in
    let line = c.answer_alone.ensures.0 in
    does_round (InTurn one) (λ state. []) (q ∷ []) (q ∷ [])
    (line ∷ []) _ _ _ _ c.answer_alone.result refl refl (
      _,
      record {
        directory = refl;
        same_desk = refl;
        same_log = refl;
        answered = c.answer_alone.ensures.1;
      },
      refl,
    )
    (subst (λ (b : List ℕ). GoesOut (g.W.Write.contents c.args.writer.now)
    (g.W.Write.contents c.answer_alone.new.writer) b c.answer_alone.result)
    (sym (append-nil line)) c.answer_alone.ensures.2)

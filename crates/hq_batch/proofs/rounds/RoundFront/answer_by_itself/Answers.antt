use Rattle.std.proofs.Common.{[], ◌∷◌, ◌++◌, ℕ, List, refl, sym, ap, ◌∙◌, subst, append-nil}
use Rattle.hq_desk.specs.Desks.{on}
use Rattle.hq_wire.specs.Exchanges.{with_refusals}
use Rattle.hq_lines.specs.Fields.{request_in}
use Rattle.hq_lines.specs.Written.{GoesOut}
use Rattle.hq_lines.proofs.First.{does_round}
use Rattle.hq_batch.specs.Waiting.{lines_waiting}
use Rattle.hq_batch.specs.Steps.{AnswersInRounds}
use Rattle.hq_batch.proofs.InRounds.{alone_in_round, away, one_round}
use Rattle.hq_batch.proofs.rounds.RoundFront.answer_by_itself.Goals as goal

pub returns-in_default : goal.returns-in_default
returns-in_default g c = away (with_refusals g.M.Memory.refused (on g.S.Shelf.sight))
    g.L.Log.tells (λ f. lines_waiting f.waiting.now.exchanges.items) _ _ _ _ c.from.result
    (sym c.take.ensures.value ∙ c.in_default.is) refl refl refl

pub returns : goal.returns
returns g c =
    let sight = with_refusals g.M.Memory.refused (on g.S.Shelf.sight) in
    let q = request_in c.args.line.now in
    let told = c.answer_alone-told.ensures in
    does_round (AnswersInRounds sight g.L.Log.tells)
    (λ f. lines_waiting f.waiting.now.exchanges.items) (q ∷ []) (q ∷ []) (told.0 ∷ [])
    c.args.self.now _ _ _ c.answer_alone-told.result
    (ap (λ l. lines_waiting l ++ q ∷ []) c.requires) (ap lines_waiting c.requires)
    (one_round sight g.L.Log.tells _ _ c.in-Some.desk c.answer_alone-told.new.desk _ _
    (sym c.take.ensures.value ∙ c.in-Some.is) refl refl refl refl
    (alone_in_round sight _ g.L.Log.tells _ _ _ _ q told.0 told.1))
    (subst (λ (b : List ℕ). GoesOut (g.W.Write.contents c.args.writer.now)
    (g.W.Write.contents c.answer_alone-told.new.writer) b c.answer_alone-told.result)
    (sym (append-nil told.0)) told.2)

use Rattle.std.proofs.Common.{[], refl, sym, ap, ◌∙◌, append-nil}
use Rattle.hq_desk.specs.Desks.{on}
use Rattle.hq_wire.specs.Exchanges.{with_refusals}
use Rattle.hq_lines.proofs.First.{does_round, only_waits}
use Rattle.hq_batch.specs.Waiting.{lines_waiting}
use Rattle.hq_batch.specs.Steps.{AnswersInRounds}
use Rattle.hq_batch.proofs.InRounds.{as_it_was, away, one_round}
use Rattle.hq_batch.proofs.rounds.RoundFront.answer_round.Goals as goal

pub returns-then-is_empty-clause-answered : goal.returns-then-is_empty-clause-answered
returns-then-is_empty-clause-answered g c = only_waits
    (AnswersInRounds (with_refusals g.M.Memory.refused (on g.S.Shelf.sight)) g.L.Log.tells)
    (λ f. lines_waiting f.waiting.now.exchanges.items) [] _ _ _
    (as_it_was (with_refusals g.M.Memory.refused (on g.S.Shelf.sight)) g.L.Log.tells _ _ refl refl
    refl)
    (sym (append-nil _))

pub returns-in_default-clause-answered : goal.returns-in_default-clause-answered
returns-in_default-clause-answered g c = away
    (with_refusals g.M.Memory.refused (on g.S.Shelf.sight)) g.L.Log.tells
    (λ f. lines_waiting f.waiting.now.exchanges.items) _ _ _ _ c.from.result
    (sym c.take.ensures.value ∙ c.in_default.is) refl refl refl

pub returns-clause-answered : goal.returns-clause-answered
returns-clause-answered g c =
    let sight = with_refusals g.M.Memory.refused (on g.S.Shelf.sight) in
    let asks = lines_waiting c.args.self.now.waiting.now.exchanges.items in
    let told = c.do_round-told.ensures in
    does_round (AnswersInRounds sight g.L.Log.tells)
    (λ f. lines_waiting f.waiting.now.exchanges.items) [] asks told.0
    c.args.self.now _ _ _ c.do_round-told.result.0 (append-nil asks)
    (ap lines_waiting c.clear-2.ensures)
    (one_round sight g.L.Log.tells _ _ c.in-Some.desk c.do_round-told.result.1 _ _
    (sym c.take.ensures.value ∙ c.in-Some.is) refl refl refl refl
    told.1) told.2

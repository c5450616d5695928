use Rattle.std.proofs.Common.{Ok, Err, refl}
use Rattle.std.proofs.lemmas.Result.{err_from_is_err_and}
use Rattle.hq_desk.specs.Desks.{on}
use Rattle.hq_wire.specs.Exchanges.{with_refusals}
use Rattle.hq_batch.proofs.InRounds.{as_it_was, left_first, one_alone, one_passed}
use Rattle.hq_batch.proofs.InRounds.{one_waits, then_one}
use Rattle.hq_batch.proofs.rounds.RoundFrontAnswers.take.Goals as goal

pub returns-then-add : goal.returns-then-add
returns-then-add g c =
    let sight = with_refusals g.M.Memory.refused (on g.S.Shelf.sight) in
    let added = c.add.ensures.added c.if-add.true in
    one_waits sight g.L.Log.tells _ added.0 c.args.self.now _ _
    (as_it_was sight g.L.Log.tells _ _ refl refl refl) added.1 added.2

pub returns-in_err-answer_round : goal.returns-in_err-answer_round
returns-in_err-answer_round g c =
    let told = err_from_is_err_and c.from_residual.result c.from_residual.ensures.1 in
    let sight = with_refusals g.M.Memory.refused (on g.S.Shelf.sight) in
    rw (told.1, told.2) (one_passed sight g.L.Log.tells _ c.args.self.now c.answer_round.new.self
    _ _ c.in_err-answer_round.field-0.0 (left_first sight g.L.Log.tells c.args.self.now _
    c.answer_round.new.self _ _ (Err c.in_err-answer_round.field-0.0)
    (as_it_was sight g.L.Log.tells _ _ refl refl refl) (c.add.ensures.left c.if-add.false)
    c.in_err-answer_round.ensures.answered))

pub returns-then-add-2 : goal.returns-then-add-2
returns-then-add-2 g c =
    let sight = with_refusals g.M.Memory.refused (on g.S.Shelf.sight) in
    let added = c.add-2.ensures.added c.if-add-2.true in
    then_one sight g.L.Log.tells _ c.args.self.now c.answer_round.new.self _ _ _ _ (Ok tt)
    (left_first sight g.L.Log.tells c.args.self.now _ c.answer_round.new.self _ _ (Ok tt)
    (as_it_was sight g.L.Log.tells _ _ refl refl refl) (c.add.ensures.left c.if-add.false)
    c.in_ok-answer_round.ensures.answered)
    (one_waits sight g.L.Log.tells _ added.0 c.answer_round.new.self _ _
    (as_it_was sight g.L.Log.tells _ _ refl refl refl) added.1 added.2)

pub returns : goal.returns
returns g c =
    let sight = with_refusals g.M.Memory.refused (on g.S.Shelf.sight) in
    then_one sight g.L.Log.tells _ c.args.self.now c.answer_round.new.self
    c.answer_by_itself.new.self _ _ _ c.answer_by_itself.result
    (left_first sight g.L.Log.tells c.args.self.now _ c.answer_round.new.self _ _ (Ok tt)
    (as_it_was sight g.L.Log.tells _ _ refl refl refl) (c.add.ensures.left c.if-add.false)
    c.in_ok-answer_round.ensures.answered)
    (one_alone sight g.L.Log.tells _ c.answer_round.new.self _ c.answer_by_itself.new.self _ _
    c.answer_by_itself.result (as_it_was sight g.L.Log.tells _ _ refl refl refl)
    (c.add-2.ensures.left c.if-add-2.false) c.answer_by_itself.ensures)

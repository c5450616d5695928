use Rattle.std.proofs.Common.{rules, ◌≡◌, true, Some, Err, ap, sym, subst, ◌∙◌}
use Rattle.std.proofs.lemmas.Result.{err_from_is_err_and}
use Rattle.hq_tables.specs.Readings.{read_tables}
use Rattle.hq_tables.specs.Sound.{Sound}
use Rattle.hq_rules.specs.declared.answer.Answer.{Answer}
use Rattle.hq_reads.proofs.Reading.{changes_on, keeps_more}
use Rattle.hq_reads.specs.Memory.{with_memory}
use Rattle.hq_moves.specs.Moved.{would_move}
use Rattle.hq_desk.proofs.Moves.{keeps_wider, one_reason, one_sound}
use Rattle.hq_desk.proofs.moving.move_one.Goals as goal

pub returns-clause-sound : goal.returns-clause-sound
returns-clause-sound g c = λ clean ours opened sound.
    let kept = c.in_ok-moves.ensures.kept in
    let before = c.in_ok-move_one.ensures.kept.quiet clean in
    let same = kept.same before ours kept.tally.1 in
    let sound_still = subst Sound (sym same) sound in
    let told : c.in_ok-moves.moves ≡ Some true = search rules in
    let applies = ap (λ t. would_move c.args.asked.now.by c.args.asked.now.serial
    (read_tables c.args.entry.now.name t)) same
    ∙ sym (c.in_ok-moves.ensures.found before ours sound) ∙ told in
    let made = c.in_ok-move_one.ensures.made clean (kept.ours before ours kept.tally.1) sound_still
    applies in
    subst Sound (sym made) (one_sound c.args.entry.now c.args.asked.now.serial c.args.asked.now.by
    (g.S.Shelf.sight.tables c.would_move.new.self) sound_still)

pub returns-in_err-move_one-clause-kept : goal.returns-in_err-move_one-clause-kept
returns-in_err-move_one-clause-kept g c =
    let refused = g.M.Memory.refused in
    let wide = ((answer : Answer) → g.R.Render.takes c.args.render.now answer) → refused in
    let sight = g.S.Shelf.sight in
    let store = with_memory refused sight in
    let fault =
    err_from_is_err_and c.from_residual-in_err-move_one.result
    c.from_residual-in_err-move_one.ensures.1 in
    keeps_wider (with_memory wide store) (with_memory wide sight).may_answer _ _ _
    (one_reason refused wide sight.may_answer (λ why all. why))
    (changes_on refused wide store _ _ _ _ c.in_err-move_one.field-0.0
    c.from_residual-in_err-move_one.result (fault.1 ∙ ap Err fault.2)
    (keeps_more refused store _ _ _ (keeps_more refused sight _ _ _ c.in_ok-moves.ensures.kept))
    c.in_err-move_one.ensures.kept)

use Rattle.std.proofs.Common.{Err, ap, sym, subst, ◌∙◌}
use Rattle.std.proofs.lemmas.Result.{err_from_is_err_and}
use Rattle.hq_tables.specs.Sound.{Sound}
use Rattle.hq_rules.specs.declared.answer.Answer.{Answer}
use Rattle.hq_reads.proofs.Reading.{changes_on, keeps_more}
use Rattle.hq_reads.specs.Memory.{with_memory}
use Rattle.hq_desk.proofs.Moves.{keeps_wider, moved_sound, one_reason}
use Rattle.hq_desk.proofs.moving.move_all.Goals as goal

pub returns-clause-sound : goal.returns-clause-sound
returns-clause-sound g c = λ clean ours opened sound.
    let kept = c.in_ok-count.ensures.kept in
    let before = c.in_ok-move_all.ensures.kept.quiet clean in
    let same = kept.same before ours kept.tally.1 in
    let sound_still = subst Sound (sym same) sound in
    let made =
    c.in_ok-move_all.ensures.made clean (kept.ours before ours kept.tally.1) sound_still in
    subst Sound (sym made) (moved_sound c.args.entry.now c.args.by.now
    (g.S.Shelf.sight.tables c.moving.new.self) sound_still)

pub returns-in_err-move_all-clause-kept : goal.returns-in_err-move_all-clause-kept
returns-in_err-move_all-clause-kept g c =
    let refused = g.M.Memory.refused in
    let wide = ((answer : Answer) → g.R.Render.takes c.args.render.now answer) → refused in
    let sight = g.S.Shelf.sight in
    let store = with_memory refused sight in
    let fault =
    err_from_is_err_and c.from_residual-in_err-move_all.result
    c.from_residual-in_err-move_all.ensures.1 in
    keeps_wider (with_memory wide store) (with_memory wide sight).may_answer _ _ _
    (one_reason refused wide sight.may_answer (λ why all. why))
    (changes_on refused wide store _ _ _ _ c.in_err-move_all.field-0.0
    c.from_residual-in_err-move_all.result (fault.1 ∙ ap Err fault.2)
    (keeps_more refused store _ _ _ c.in_ok-count.ensures.kept) c.in_err-move_all.ensures.kept)

use Rattle.std.proofs.Common.{◌≡◌, subst, ◌∙◌}
use Rattle.std.specs.Prelude.{OnOk}
use Rattle.hq_tables.specs.Tables.{write_all}
use Rattle.hq_moves.proofs.Moving.{kept_on, left_on}
use Rattle.hq_moves.proofs.moves_messages.MovesMessages.move_all.Goals as goal

pub returns-clause-made : goal.returns-clause-made
returns-clause-made g c = λ clean ours sound.
    let sight = g.Self.Shelf.sight in
    let name = c.args.customer.now in
    let kept = c.in_ok-changes.ensures.kept in
    let before = c.apply.ensures.kept.quiet clean in
    let same = kept.same before ours kept.tally.1 in
    let found = c.as_slice.ensures ∙ c.in_ok-changes.ensures.found before ours sound in
    subst (λ t. OnOk c.apply.result (sight.tables c.apply.new.self ≡ t))
    (λ i. write_all name (found i) (same i))
    (c.apply.ensures.made clean (kept.ours before ours kept.tally.1))

pub returns-clause-stops : goal.returns-clause-stops
returns-clause-stops g c = λ clean ours sound.
    let sight = g.Self.Shelf.sight in
    let name = c.args.customer.now in
    let kept = c.in_ok-changes.ensures.kept in
    let before = c.apply.ensures.kept.quiet clean in
    let same = kept.same before ours kept.tally.1 in
    let found = c.as_slice.ensures ∙ c.in_ok-changes.ensures.found before ours sound in
    left_on g.M.Memory.refused sight _ _ _ _ _ _ kept before ours
    (λ i. write_all name (found i) (same i))
    (c.apply.ensures.stops clean (kept.ours before ours kept.tally.1))

pub returns-clause-kept : goal.returns-clause-kept
returns-clause-kept g c = kept_on g.M.Memory.refused g.Self.Shelf.sight _ _ _ _ c.apply.result
    c.in_ok-changes.ensures.kept c.apply.ensures.kept

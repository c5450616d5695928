use Rattle.std.proofs.Common.{◌≡◌, ap, subst, ◌∙◌}
use Rattle.std.specs.Prelude.{OnOk}
use Rattle.hq_tables.specs.Tables.{write_all}
use Rattle.hq_rules.specs.declared.decision.Decision.{Decision}
use Rattle.hq_moves.specs.Moved.{move_found}
use Rattle.hq_reads.proofs.Reading.{keeps_more}
use Rattle.hq_moves.proofs.Moving.{changes_so, kept_on, left_on}
use Rattle.hq_moves.proofs.moves_messages.MovesMessages.move_one.Goals as goal

pub returns-clause-made : goal.returns-clause-made
returns-clause-made g c = λ clean ours sound applies.
    let sight = g.Self.Shelf.sight in
    let name = c.args.customer.now in
    let kept = c.in_ok-found.ensures.kept in
    let before = c.apply.ensures.kept.quiet clean in
    let same = kept.same before ours kept.tally.1 in
    let changes = c.as_slice.ensures ∙ ap (λ (d : Decision). d.changes) c.in_ok-decision.ensures
    ∙ ap (λ o. (move_found c.args.by o).changes) (c.in_ok-found.ensures.found before ours)
    ∙ changes_so c.args.by _ in
    subst (λ t. OnOk c.apply.result (sight.tables c.apply.new.self ≡ t))
    (λ i. write_all name (changes i) (same i))
    (c.apply.ensures.made clean (kept.ours before ours kept.tally.1))

pub returns-clause-stops : goal.returns-clause-stops
returns-clause-stops g c = λ clean ours sound applies.
    let sight = g.Self.Shelf.sight in
    let name = c.args.customer.now in
    let kept = c.in_ok-found.ensures.kept in
    let before = c.apply.ensures.kept.quiet clean in
    let same = kept.same before ours kept.tally.1 in
    let changes = c.as_slice.ensures ∙ ap (λ (d : Decision). d.changes) c.in_ok-decision.ensures
    ∙ ap (λ o. (move_found c.args.by o).changes) (c.in_ok-found.ensures.found before ours)
    ∙ changes_so c.args.by _ in
    left_on g.M.Memory.refused sight _ _ _ _ _ _ (keeps_more g.M.Memory.refused sight _ _ _ kept)
    before ours (λ i. write_all name (changes i) (same i))
    (c.apply.ensures.stops clean (kept.ours before ours kept.tally.1))

pub returns-clause-kept : goal.returns-clause-kept
returns-clause-kept g c = kept_on g.M.Memory.refused g.Self.Shelf.sight _ _ _ _ c.apply.result
    (keeps_more g.M.Memory.refused g.Self.Shelf.sight _ _ _ c.in_ok-found.ensures.kept)
    c.apply.ensures.kept

use Rattle.std.proofs.Common.{None, ap, ◌∙◌, filter, option_map}
use Rattle.hq_rules.specs.Selections.{is_selected}
use Rattle.hq_rules.specs.Queues.{move_all}
use Rattle.hq_reads.proofs.Whole.{whole}
use Rattle.hq_reads.proofs.queues.decide_move_all.Goals as goal

pub returns-clause-found : goal.returns-clause-found
returns-clause-found g c = λ clean ours sound.
    let name = c.args.entry.now.name in
    let t = g.S.Shelf.sight.tables c.args.shelf.now in
    let p = is_selected (option_map (λ p. p.now) c.args.which) in
    c.in_ok-decision.ensures ∙ ap (move_all c.args.by) (c.in_ok-selected.ensures
    ∙ ap (filter p) (c.in_ok-messages.ensures.found clean ours ∙ whole name t None sound))

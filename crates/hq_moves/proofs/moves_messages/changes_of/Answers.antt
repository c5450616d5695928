use Rattle.std.proofs.Common.{None, ap, ◌∙◌}
use Rattle.hq_rules.specs.Queues.{moves_of}
use Rattle.hq_rules.specs.declared.decision.Decision.{Decision}
use Rattle.hq_reads.proofs.Whole.{whole}
use Rattle.hq_moves.proofs.moves_messages.changes_of.Goals as goal

pub returns-clause-found : goal.returns-clause-found
returns-clause-found g c = λ clean ours sound.
    ap (λ (d : Decision). d.changes) c.in_ok-decision.ensures
    ∙ ap (moves_of c.args.by) (c.in_ok-messages.ensures.found clean ours
    ∙ whole c.args.customer.now (g.S.Shelf.sight.tables c.args.shelf.now) None sound)

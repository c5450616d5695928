use Rattle.std.proofs.Common.{ap, ◌∙◌, arith, option_map}
use Rattle.hq_rules.specs.Verdicts.{holding}
use Rattle.hq_access.proofs.Weighing.{held_next}
use Rattle.hq_access.proofs.verdicts.held_by.Goals as goal

pub loop-recipient-preserved : goal.loop-recipient-preserved
loop-recipient-preserved c = held_next (option_map (λ a. a.now) c.args.found) c.args.recipients.now
    c.loop-recipient.recipient-index c.recipient-item.result (omega arith) c.recipient-item.is
    c.loop-recipient.first c.holding.result c.or-first.result c.or-first.ensures (c.holding.ensures
    ∙ ap holding c.as_ref.ensures.value) c.loop-recipient.invariant

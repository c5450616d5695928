use Rattle.std.proofs.Common.{ap, ◌∙◌, arith, option_map}
use Rattle.hq_rules.specs.Verdicts.{redirection}
use Rattle.hq_access.proofs.Weighing.{redirect_next}
use Rattle.hq_access.proofs.verdicts.redirect_of.Goals as goal

pub loop-recipient-preserved : goal.loop-recipient-preserved
loop-recipient-preserved c = redirect_next (option_map (λ a. a.now) c.args.found)
    c.args.recipients.now c.loop-recipient.recipient-index c.recipient-item.result (omega arith)
    c.recipient-item.is c.redirection.result c.loop-recipient.last c.or-last.result
    c.or-last.ensures (c.redirection.ensures ∙ ap redirection c.as_ref.ensures.value)
    c.loop-recipient.invariant

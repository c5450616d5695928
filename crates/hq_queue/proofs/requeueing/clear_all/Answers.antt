use Rattle.std.proofs.Common.{slice_set, sym, ap, ◌∙◌, arith}
use Rattle.std.proofs.lemmas.List.Edits.{map_over_more}
use Rattle.hq_rules.specs.Moves.{cleared}
use Rattle.hq_queue.proofs.requeueing.clear_all.Goals as goal

pub loop-recipient-preserved : goal.loop-recipient-preserved
loop-recipient-preserved c =
    ap (slice_set c.loop-recipient.recipients c.loop-recipient.recipient-index) (c.clear.ensures
    ∙ ap cleared (sym c.recipient-item.is))
    ∙ map_over_more cleared c.args.recipients.now c.loop-recipient.recipients
    c.loop-recipient.recipient-index c.recipient-item.result (omega arith)
    c.loop-recipient.invariant c.recipient-item.is

use Rattle.std.proofs.Common.{length, sym, ap, ◌∙◌, append-nil, arith}
use Rattle.hq_text.proofs.Joined.{one_more}
use Rattle.hq_rules.specs.TextLines.{lf, text_of}
use Rattle.hq_rules.specs.QueueReports.{top_lines, recipient_lines}
use Rattle.hq_text.proofs.queue_report.message_text.Goals as goal

pub loop-pending-init : goal.loop-pending-init
loop-pending-init g c = c.in_ok-text.ensures ∙ ap (text_of lf)
    (sym (append-nil (top_lines c.args.message.now)))

pub loop-pending-preserved : goal.loop-pending-preserved
loop-pending-preserved g c =
    let all = c.as_slice-pending-items.ensures in
    let is = rw all at c.pending-item.is in
    one_more lf _ _ (top_lines c.args.message.now) recipient_lines c.args.message.now.pending
    c.loop-pending.pending-index c.pending-item.result (omega (arith, ap length all)) is
    c.loop-pending.invariant c.in_ok-put_recipient.ensures

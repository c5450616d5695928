use Rattle.std.proofs.Common.{◌≡◌, ◌==◌, ◌++◌, true, eq-eqb, sym, ap, ◌∙◌}
use Rattle.hq_text.proofs.Joined.{text_of-cons}
use Rattle.hq_text.proofs.Writing.{made_weaker}
use Rattle.hq_rules.specs.TextLines.{lf}
use Rattle.hq_rules.specs.QueueReports.{header, message_lines}
use Rattle.hq_text.proofs.queue_report.added_text.Goals as goal

pub returns-then-queued-eq0 : goal.returns-then-queued-eq0
returns-then-queued-eq0 g c =
    let none : (c.args.queued == 0) ≡ true = eq-eqb c.args.queued 0 c.if-queued-eq0.true in
    let lines = ap (λ lines. header ++ lf ++ lines) (c.as_str.ensures.value ∙ c.in_ok-lines.ensures)
    ∙ sym (text_of-cons lf header (message_lines c.args.message.now)) in
    rw none (made_weaker _ c.below_header.result _ _ (λ text is. is ∙ lines) c.below_header.ensures)

use Rattle.std.proofs.Common.{Some, None, sym, ap, ◌∙◌, arith, append-nil, Vec, Global}
use Rattle.hq_rules.specs.declared.verdict.Refused.{Refused}
use Rattle.hq_access.proofs.Weighing.{refused_next}
use Rattle.hq_access.proofs.verdicts.refused_in.Goals as goal
use Rattle.hq_access.proofs.verdicts.refused_in.Goals.{in-Some+in_ok-push, in_default}

pub loop-recipient-preserved : goal.loop-recipient-preserved
loop-recipient-preserved g c =
    let next =
    refused_next c.args.recipients.now c.loop-recipient.recipient-index c.recipient-item.result
    (omega arith) c.recipient-item.is in
    elim c.match-branch-2.branch [
      | in-Some+in_ok-push w ↦ next (Some w.in-Some.one) c.loop-recipient.refused.items _
          (sym w.in-Some.is ∙ c.in_ok-one.ensures) c.loop-recipient.invariant
          (ap (λ (v : Vec Refused Global). v.items) w.refused-is ∙ w.in_ok-push.ensures.items)
      | in_default w ↦ next None c.loop-recipient.refused.items _ (sym w.in_default.is
          ∙ c.in_ok-one.ensures) c.loop-recipient.invariant (ap (λ (v : Vec Refused Global).
          v.items) w.refused-is ∙ sym (append-nil c.loop-recipient.refused.items))
    ]

use Rattle.std.proofs.Common.{◌≡◌, Ok, sym, subst, ap, ◌∙◌}
use Rattle.hq_memory.specs.Making.{MadeIn}
use Rattle.hq_rules.specs.Attempts.{reported}
use Rattle.hq_rules.specs.Notices.{carried_out}
use Rattle.hq_rules.specs.Outcomes.{outcome_with}
use Rattle.hq_decisions.proofs.outcomes.take_report.Goals as goal

pub returns : goal.returns
returns g c =
    let told = ap (reported c.args.message c.args.at c.args.asked.now.attempt)
    (sym c.as_slice-outcomes.ensures) ∙ c.in-Ok-Done.ensures ∙ ap
    (λ x. Ok (x, c.report.new.message)) c.in-Ok-Done.field-0-is in
    subst (λ r. MadeIn g.M.Memory.refused c.carry_out.result
    (λ decision. decision ≡ outcome_with c.args.host.now c.args.entry.now c.args.at c.args.head
    c.args.message r)) (sym told)
    (subst (λ plan. MadeIn g.M.Memory.refused c.carry_out.result
    (λ decision. decision ≡ carried_out c.args.host.now c.args.entry.now c.args.at plan))
    c.in_ok-plan-in-Ok-Done.ensures c.carry_out.ensures)

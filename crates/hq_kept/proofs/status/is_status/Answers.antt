use Rattle.std.proofs.Common.{arith}
use Rattle.std.proofs.lemmas.Grind.{common_steps}
use Rattle.hq_kept.proofs.Forms.{status_by_parts}
use Rattle.hq_kept.proofs.status.is_status.Goals as goal

pub returns-then-is_number : goal.returns-then-is_number
returns-then-is_number c =
    let form =
    status_by_parts c.args.text.now c.in-Some.class.now c.in-Some.rest.now
    c.in-Some-cut.subject.now c.in-Some-cut.detail.now c.in-Some.ensures c.in-Some-cut.ensures
    in
    grind (arith, common_steps, form)

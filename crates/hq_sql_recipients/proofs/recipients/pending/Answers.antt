use Rattle.std.proofs.Common.{map, ap, ◌∙◌}
use Rattle.hq_rows.specs.Listed.{recipient_value}
use Rattle.hq_sql.specs.Rows.{recipient_shown}
use Rattle.hq_sql_recipients.proofs.OnRecipients.{pending_shown}
use Rattle.hq_sql_recipients.proofs.recipients.pending.Goals as goal

pub returns-clause-found : goal.returns-clause-found
returns-clause-found g c clean desk =
    c.in_ok-all.ensures
    ∙ ap (map (λ r. recipient_value (recipient_shown r))) c.as_slice.ensures.value
    ∙ pending_shown c.args.customer.now c.args.serial _ c.in_ok-rows.rows.items
    (c.in_ok-rows.ensures.found clean desk)

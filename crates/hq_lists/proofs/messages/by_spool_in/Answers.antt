use Rattle.std.proofs.Common.{None, ap, ◌∙◌}
use Rattle.std.specs.Prelude.{slice_get}
use Rattle.hq_owned.specs.Owned.{given}
use Rattle.hq_rows.specs.Lookups.{message_at}
use Rattle.hq_lists.proofs.Serials.{spool_is}
use Rattle.hq_lists.proofs.messages.by_spool_in.Goals as goal

pub returns-in-None : goal.returns-in-None
returns-in-None g c u all =
    let at =
    message_at c.args.customer.now c.args.rows.messages.now c.args.rows.recipients.now
    c.args.rows.holds.now in
    ap (given None at) (c.in-None.ensures.value
    ∙ ap (λ serials. slice_get serials 0) (c.as_slice.ensures.value
    ∙ c.in_ok-serials.ensures u))
    ∙ spool_is c.args.customer.now c.args.spool.now c.args.rows.messages.now
    c.args.rows.recipients.now c.args.rows.holds.now

pub returns : goal.returns
returns g c u all =
    let at =
    message_at c.args.customer.now c.args.rows.messages.now c.args.rows.recipients.now
    c.args.rows.holds.now in
    c.in_ok-message_in-in-Some.ensures all ∙ ap (given None at) (c.in-Some.ensures.value
    ∙ ap (λ serials. slice_get serials 0) (c.as_slice.ensures.value
    ∙ c.in_ok-serials.ensures u))
    ∙ spool_is c.args.customer.now c.args.spool.now c.args.rows.messages.now
    c.args.rows.recipients.now c.args.rows.holds.now

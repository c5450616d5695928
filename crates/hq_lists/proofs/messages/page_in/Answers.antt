use Rattle.std.proofs.Common.{ap, ◌∙◌, take}
use Rattle.std.specs.List.{filter_map}
use Rattle.hq_rows.specs.Lookups.{message_at, serials_after, rows_with}
use Rattle.hq_lists.proofs.Serials.{page_is}
use Rattle.hq_lists.proofs.messages.page_in.Goals as goal

pub returns : goal.returns
returns g c u all =
    let at =
    message_at c.args.customer.now c.args.rows.messages.now c.args.rows.recipients.now
    c.args.rows.holds.now in
    c.from_vec.ensures ∙ c.in_ok-page.ensures all ∙ ap (filter_map at) (c.as_slice.ensures.value
    ∙ c.truncate.ensures.items ∙ ap (take c.args.limit) (c.in_ok-serials.ensures u
    ∙ ap (λ after. serials_after after (rows_with c.args.customer.now c.args.rows.messages.now))
    c.number_of.ensures))
    ∙ page_is c.args.customer.now c.args.after c.args.limit c.args.rows.messages.now
    c.args.rows.recipients.now c.args.rows.holds.now

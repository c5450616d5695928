use Rattle.std.proofs.Common.{ap, ◌∙◌, take, filter, rules}
use Rattle.std.proofs.lemmas.Fn.{filter_same}
use Rattle.std.specs.List.{filter_map}
use Rattle.hq_kept.specs.Messages.{is_due}
use Rattle.hq_rows.specs.Lookups.{message_at, serials_after, rows_with}
use Rattle.hq_lists.proofs.Serials.{all_is}
use Rattle.hq_lists.proofs.messages.due_in.Goals as goal

pub returns : goal.returns
returns g c u all =
    let at =
    message_at c.args.customer.now c.args.rows.messages.now c.args.rows.recipients.now
    c.args.rows.holds.now in
    c.from_vec.ensures ∙ c.truncate.ensures.items ∙ ap (take c.args.limit)
    (filter_same _ (is_due c.args.at) _ (λ x b f' k. search rules) _ _ c.retain.ensures.filtered
    ∙ ap (filter (is_due c.args.at)) (c.in_ok-page.ensures all
    ∙ ap (filter_map at) (c.as_slice.ensures.value ∙ c.in_ok-serials.ensures u
    ∙ ap (λ after. serials_after after (rows_with c.args.customer.now c.args.rows.messages.now))
    c.number_of.ensures)
    ∙ all_is c.args.customer.now c.args.after c.args.rows.messages.now
    c.args.rows.recipients.now c.args.rows.holds.now))

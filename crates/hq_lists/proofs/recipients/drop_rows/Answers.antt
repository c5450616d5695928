use Rattle.std.proofs.Common.{not, rules}
use Rattle.std.proofs.lemmas.Fn.{filter_same}
use Rattle.hq_rows.specs.Lookups.{is_recipient}
use Rattle.hq_lists.proofs.recipients.drop_rows.Goals as goal

pub returns : goal.returns
returns c = filter_same _ (λ row. not (is_recipient c.args.customer.now c.args.serial row)) _
    (λ x b f' k. search rules) _ _ c.retain.ensures.filtered

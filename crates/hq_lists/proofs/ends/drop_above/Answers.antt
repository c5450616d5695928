use Rattle.std.proofs.Common.{rules}
use Rattle.std.proofs.lemmas.Fn.{filter_same}
use Rattle.hq_rows.specs.Lookups.{is_earlier_end}
use Rattle.hq_lists.proofs.ends.drop_above.Goals as goal

pub returns : goal.returns
returns c = filter_same _ (is_earlier_end c.args.customer.now c.args.number) _
    (λ x b f' k. search rules) _ _ c.retain.ensures.filtered

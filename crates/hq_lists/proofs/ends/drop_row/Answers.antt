use Rattle.std.proofs.Common.{not, rules}
use Rattle.std.proofs.lemmas.Fn.{filter_same}
use Rattle.hq_rows.specs.Lookups.{is_end}
use Rattle.hq_lists.proofs.ends.drop_row.Goals as goal

pub returns : goal.returns
returns c = filter_same _ (λ row. not (is_end c.args.customer.now c.args.number row)) _
    (λ x b f' k. search rules) _ _ c.retain.ensures.filtered

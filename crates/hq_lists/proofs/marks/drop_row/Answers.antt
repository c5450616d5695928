use Rattle.std.proofs.Common.{not, rules}
use Rattle.std.proofs.lemmas.Fn.{filter_same}
use Rattle.hq_rows.specs.Lookups.{is_mark}
use Rattle.hq_lists.proofs.marks.drop_row.Goals as goal

pub returns : goal.returns
returns c = filter_same _ (λ row. not (is_mark c.args.customer.now c.args.label.now row)) _
    (λ x b f' k. search rules) _ _ c.retain.ensures.filtered

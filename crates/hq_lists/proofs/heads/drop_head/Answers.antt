use Rattle.std.proofs.Common.{not, rules}
use Rattle.std.proofs.lemmas.Fn.{filter_same}
use Rattle.hq_lists.specs.Heads.{is_head}
use Rattle.hq_lists.proofs.heads.drop_head.Goals as goal

pub returns : goal.returns
returns c = filter_same _ (λ row. not (is_head c.args.customer.now row)) _
    (λ x b f' k. search rules) _ _ c.retain.ensures.filtered

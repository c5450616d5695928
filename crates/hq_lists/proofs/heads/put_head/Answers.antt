use Rattle.std.proofs.Common.{ℕ, List, ap, ◌∙◌, ◌++◌, ◌∷◌, []}
use Rattle.hq_lists.specs.declared.heads.ListedHead.{ListedHead}
use Rattle.hq_lists.specs.Heads.{heads_listed}
use Rattle.hq_lists.proofs.Listed.{head_put}
use Rattle.hq_lists.proofs.heads.put_head.Goals as goal

pub returns : goal.returns
returns g c =
    let row : List ℕ → ListedHead = λ name. record { customer = name; head = c.args.head } in
    ap heads_listed (c.in_ok-push.ensures.items ∙ (λ i. c.drop_head.ensures i
    ++ row (c.in_ok-copy.ensures i) ∷ []))
    ∙ head_put c.args.rows.now.items (row c.args.customer.now)

use Rattle.std.proofs.Common.{◌++◌, ◌∷◌, [], List, ℕ, ap, ◌∙◌}
use Rattle.hq_rows.specs.declared.rows.HoldRow.{HoldRow}
use Rattle.hq_rows.specs.Listed.{holds_of}
use Rattle.hq_lists.proofs.Keys.{hold_put}
use Rattle.hq_lists.proofs.holds.set_hold.Goals as goal

pub returns : goal.returns
returns g c =
    let row : List ℕ → List ℕ → HoldRow =
    λ customer reason. record { customer = customer; serial = c.args.serial; reason = reason }
    in
    ap holds_of (c.in_ok-push.ensures.items ∙ (λ i. c.drop_row.ensures i
    ++ row (c.in_ok-copy.ensures i) (c.in_ok-copy-2.ensures i) ∷ []))
    ∙ hold_put c.args.rows.now.items (row c.args.customer.now c.args.reason.now)

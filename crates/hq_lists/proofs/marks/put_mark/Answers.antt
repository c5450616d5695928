use Rattle.std.proofs.Common.{◌++◌, ◌∷◌, [], List, ℕ, ap, ◌∙◌}
use Rattle.hq_kept.specs.declared.mark.Mark.{Mark}
use Rattle.hq_rows.specs.declared.rows.MarkRow.{MarkRow}
use Rattle.hq_rows.specs.Listed.{marks_of}
use Rattle.hq_lists.proofs.Keys.{mark_put}
use Rattle.hq_lists.proofs.marks.put_mark.Goals as goal

pub returns : goal.returns
returns g c =
    let row : List ℕ → Mark → MarkRow = λ customer mark. record { customer = customer; mark = mark }
    in
    ap marks_of (c.in_ok-push.ensures.items ∙ (λ i. c.drop_row.ensures i
    ++ row (c.in_ok-copy.ensures i) (c.in_ok-copy-2.ensures i) ∷ []))
    ∙ mark_put c.args.rows.now.items (row c.args.customer.now c.args.mark.now)

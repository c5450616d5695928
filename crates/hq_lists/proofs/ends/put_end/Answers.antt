use Rattle.std.proofs.Common.{◌++◌, ◌∷◌, [], List, ℕ, ap, ◌∙◌, subst, sym}
use Rattle.hq_kept.specs.declared.end.End.{End}
use Rattle.hq_rows.specs.declared.rows.EndRow.{EndRow}
use Rattle.hq_rows.specs.Listed.{ends_of}
use Rattle.hq_rows.specs.Lookups.{AreUniqueEnds}
use Rattle.hq_lists.proofs.Keys.{end_put, unique_end_put}
use Rattle.hq_lists.proofs.ends.put_end.Goals as goal

abbrev row : List ℕ → End → EndRow
row customer end = record { customer = customer; end = end }

pub returns-clause-table : goal.returns-clause-table
returns-clause-table g c =
    ap ends_of (c.in_ok-push.ensures.items ∙ (λ i. c.drop_row.ensures i
    ++ row (c.in_ok-copy.ensures i) c.args.end ∷ []))
    ∙ end_put c.args.rows.now.items (row c.args.customer.now c.args.end)

pub returns-clause-unique : goal.returns-clause-unique
returns-clause-unique g c u =
    subst AreUniqueEnds (sym (c.in_ok-push.ensures.items ∙ (λ i. c.drop_row.ensures i
    ++ row (c.in_ok-copy.ensures i) c.args.end ∷ [])))
    (unique_end_put c.args.rows.now.items (row c.args.customer.now c.args.end) u)

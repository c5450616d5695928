use Rattle.std.proofs.Common.{◌++◌, ◌∷◌, [], List, ℕ, ap, ◌∙◌, subst, sym}
use Rattle.hq_kept.specs.declared.pattern.Line.{Line}
use Rattle.hq_rows.specs.declared.rows.LineRow.{LineRow}
use Rattle.hq_rows.specs.Listed.{lines_of}
use Rattle.hq_rows.specs.Lookups.{AreUniqueLines}
use Rattle.hq_lists.proofs.Keys.{line_put, unique_line_put}
use Rattle.hq_lists.proofs.lines.put_line.Goals as goal

abbrev row : List ℕ → Line → LineRow
row customer line = record { customer = customer; line = line }

pub returns-clause-table : goal.returns-clause-table
returns-clause-table g c =
    ap lines_of (c.in_ok-push.ensures.items ∙ (λ i. c.drop_row.ensures i
    ++ row (c.in_ok-copy.ensures i) (c.in_ok-copy-2.ensures i) ∷ []))
    ∙ line_put c.args.rows.now.items (row c.args.customer.now c.args.line.now)

pub returns-clause-unique : goal.returns-clause-unique
returns-clause-unique g c u =
    subst AreUniqueLines (sym (c.in_ok-push.ensures.items ∙ (λ i. c.drop_row.ensures i
    ++ row (c.in_ok-copy.ensures i) (c.in_ok-copy-2.ensures i) ∷ [])))
    (unique_line_put c.args.rows.now.items (row c.args.customer.now c.args.line.now) u)

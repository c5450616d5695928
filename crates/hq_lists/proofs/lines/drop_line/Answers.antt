use Rattle.std.proofs.Common.{ap, ◌∙◌, subst, sym}
use Rattle.hq_rows.specs.Listed.{lines_of}
use Rattle.hq_rows.specs.Lookups.{AreUniqueLines}
use Rattle.hq_lists.proofs.Keys.{line_drop, unique_line_drop}
use Rattle.hq_lists.proofs.lines.drop_line.Goals as goal

pub returns-clause-table : goal.returns-clause-table
returns-clause-table c = ap lines_of c.drop_row.ensures
    ∙ line_drop c.args.rows.now.items c.args.customer.now c.args.pattern.now

pub returns-clause-unique : goal.returns-clause-unique
returns-clause-unique c u =
    subst AreUniqueLines (sym c.drop_row.ensures)
    (unique_line_drop c.args.rows.now.items c.args.customer.now c.args.pattern.now u)

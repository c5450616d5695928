use Rattle.std.proofs.Common.{ap, ◌∙◌, subst, sym}
use Rattle.hq_rows.specs.Listed.{ends_of}
use Rattle.hq_rows.specs.Lookups.{AreUniqueEnds}
use Rattle.hq_lists.proofs.Keys.{ends_kept, unique_ends_kept}
use Rattle.hq_lists.proofs.ends.drop_to.Goals as goal

pub returns-clause-table : goal.returns-clause-table
returns-clause-table c = ap ends_of c.retain_above.ensures
    ∙ ends_kept c.args.rows.now.items c.args.customer.now c.args.number

pub returns-clause-unique : goal.returns-clause-unique
returns-clause-unique c u =
    subst AreUniqueEnds (sym c.retain_above.ensures)
    (unique_ends_kept c.args.rows.now.items c.args.customer.now c.args.number u)

use Rattle.std.proofs.Common.{ap, ◌∙◌, subst, sym}
use Rattle.hq_rows.specs.Listed.{notices_of}
use Rattle.hq_rows.specs.Lookups.{AreUniqueNotices}
use Rattle.hq_lists.proofs.Keys.{notices_kept, unique_notices_kept}
use Rattle.hq_lists.proofs.notices.drop_below.Goals as goal

pub returns-clause-table : goal.returns-clause-table
returns-clause-table c = ap notices_of c.retain_from.ensures
    ∙ notices_kept c.args.rows.now.items c.args.customer.now c.args.number

pub returns-clause-unique : goal.returns-clause-unique
returns-clause-unique c u =
    subst AreUniqueNotices (sym c.retain_from.ensures)
    (unique_notices_kept c.args.rows.now.items c.args.customer.now c.args.number u)

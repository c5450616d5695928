use Rattle.std.proofs.Common.{ap, sym, subst, ◌∙◌}
use Rattle.hq_tables.specs.Tables.{write_all}
use Rattle.hq_lists.specs.Lists.{tables_of}
use Rattle.hq_tables.specs.Sound.{AreCounted}
use Rattle.hq_isolation.proofs.Counted.{counts_stay}
use Rattle.hq_lists.proofs.list_shelf.ListShelfShelf.apply.Goals as goal

pub invariant_of-self : goal.invariant_of-self
invariant_of-self g c = (
  c.in_ok-change_all.ensures.order (c.in_ok-next.ensures.order c.self.invariant.0),
  subst AreCounted (sym (c.in_ok-change_all.ensures.made
      (subst AreCounted (sym c.in_ok-next.ensures.tables) c.self.invariant.1)
      ∙ ap (write_all c.args.customer.now c.args.changes.now) c.in_ok-next.ensures.tables))
      (counts_stay c.args.customer.now c.args.changes.now (tables_of c.self.inside.rows)
      c.self.invariant.1),
)

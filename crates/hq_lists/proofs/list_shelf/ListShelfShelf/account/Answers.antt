use Rattle.std.proofs.Common.{ap, sym, subst, ◌∙◌}
use Rattle.hq_tables.specs.Readings.{account_read, read_tables, counts_told}
use Rattle.hq_rows.specs.Lookups.{AreUnique, AreUniqueLines}
use Rattle.hq_lists.specs.Heads.{heads_listed, head_of}
use Rattle.hq_lists.specs.Lists.{counts_in, tables_of}
use Rattle.hq_lists.proofs.Listed.{read_account}
use Rattle.hq_lists.proofs.list_shelf.ListShelfShelf.account.Goals as goal

pub returns-clause-found : goal.returns-clause-found
returns-clause-found g c clean ours =
    let who = c.args.customer.now in
    c.account_in.ensures
    (subst AreUnique (sym c.as_slice-2.ensures.value) c.self.invariant.0.0)
    (subst AreUniqueLines (sym c.as_slice-3.ensures.value) c.self.invariant.0.2)
    ∙ (λ i. record {
      head = head_of (heads_listed (c.as_slice.ensures.value i)) who;
      counts = counts_told (counts_in (c.as_slice-2.ensures.value i) (c.as_slice-3.ensures.value i)
          who);
    })
    ∙ read_account who c.self.inside.rows
    ∙ ap (λ s. account_read (read_tables who (tables_of s))) c.self.view_is

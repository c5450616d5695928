use Rattle.std.proofs.Common.{IsPermutation, subst}
use Rattle.hq_lists.proofs.Serials.{spools_are}
use Rattle.hq_lists.proofs.messages.sorted_having.Goals as goal

pub returns : goal.returns
returns g c u =
    spools_are c.args.customer.now c.args.spool.now c.args.rows.now c.sort_unstable.new.self.items u
    (subst (λ xs. IsPermutation xs c.sort_unstable.new.self.items) c.in_ok-serials.ensures
    c.sort_unstable.ensures.permutation)
    c.sort_unstable.ensures.sorted

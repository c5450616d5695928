use Rattle.std.proofs.Common.{◌≡◌, IsPermutation, subst, ap, ◌∙◌, take, rules}
use Rattle.std.specs.Ordering.{is_lt}
use Rattle.hq_tables.proofs.Orders.{newest_total}
use Rattle.std.proofs.lemmas.Fn.{always_returns_same}
use Rattle.std.proofs.lemmas.List.MinMax.{ranks_by}
use Rattle.hq_kept.specs.declared.end.End.{End}
use Rattle.hq_rows.proofs.EndPages.{ends_are, by_newest}
use Rattle.hq_lists.proofs.ends.page_in.Goals as goal

pub returns : goal.returns
returns g c u =
    c.from_vec.ensures ∙ c.truncate.ensures.items
    ∙ ap (take c.args.limit)
    (ends_are c.args.customer.now c.args.before c.args.rows.now
    c.sort_unstable_by.new.self.items u
    (subst (λ xs. IsPermutation xs c.sort_unstable_by.new.self.items) c.in_ok-ends.ensures
    c.sort_unstable_by.ensures.permutation)
    (c.sort_unstable_by.ensures.sorted (λ a b. is_lt (by_newest a b))
    (ranks_by newest_total (λ (n : End). n.number))
    (always_returns_same _ (λ a r. is_lt r ≡ is_lt (by_newest a.0.now a.1.0.now)) _
    (λ a r f' k. search rules))))

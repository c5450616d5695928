use Rattle.std.proofs.Common.{◌≡◌, IsPermutation, subst, ap, ◌∙◌, take, option_map, rules}
use Rattle.std.specs.Ordering.{is_lt}
use Rattle.std.proofs.lemmas.Fn.{always_returns_same}
use Rattle.std.proofs.lemmas.List.MinMax.{ranks_by}
use Rattle.hq_kept.specs.declared.pattern.Line.{Line}
use Rattle.hq_tables.proofs.Orders.{line_total}
use Rattle.hq_rows.proofs.LinePages.{lines_are, by_pattern}
use Rattle.hq_lists.proofs.lines.page_in.Goals as goal

pub returns : goal.returns
returns g c u =
    c.from_vec.ensures ∙ c.truncate.ensures.items
    ∙ ap (take c.args.limit) (lines_are c.args.customer.now (option_map (λ p. p.now) c.args.after)
    c.args.rows.now c.sort_unstable_by.new.self.items u
    (subst (λ xs. IsPermutation xs c.sort_unstable_by.new.self.items) c.in_ok-lines.ensures
    c.sort_unstable_by.ensures.permutation)
    (c.sort_unstable_by.ensures.sorted (λ a b. is_lt (by_pattern a b))
    (ranks_by line_total (λ (l : Line). l.pattern))
    (always_returns_same _ (λ a r. is_lt r ≡ is_lt (by_pattern a.0.now a.1.0.now)) _
    (λ a r f' k. search rules))))

use Rattle.std.proofs.Common.{◌≡◌, ◌-◌, length, ap, ◌∙◌, sym, subst, rules}
use Rattle.std.specs.Prelude.{nat_le}
use Rattle.std.specs.FinMap.{retain_keys}
use Rattle.hq_tables.specs.Tables.{add_rows, left_of}
use Rattle.hq_rows.specs.Listed.{ends_of}
use Rattle.hq_rows.specs.Lookups.{AreUniqueEnds}
use Rattle.hq_lists.proofs.Keys.{ends_earlier, unique_ends_earlier}
use Rattle.hq_lists.proofs.ends.put_ends.Goals as goal

pub loop-ended-init : goal.loop-ended-init
loop-ended-init g c =
    let who = c.args.customer.now in
    let rows = c.args.rows.now.items in
    let ends = c.args.ends.now in
    let before = c.saturating_sub.result in
    let many : c.len-left.result ≡ length ends.ended = search rules in
    let last : before ≡ ends.last - length ends.ended = search rules in
    record {
      left = many;
      table = ap (add_rows who ends.at ends.last ends.ended) (ap ends_of c.drop_above.ensures
          ∙ ends_earlier rows who before
          ∙ ap (λ n. retain_keys (ends_of rows) (left_of who (λ x. nat_le x n))) last);
      unique = λ u. subst AreUniqueEnds (sym c.drop_above.ensures)
          (unique_ends_earlier rows who before u);
    }

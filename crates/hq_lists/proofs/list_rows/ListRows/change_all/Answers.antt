use Rattle.std.proofs.Common.{◌≡◌, ◌+◌, ◌∷◌, [], drop, ap, ◌∙◌, sym, subst}
use Rattle.std.proofs.lemmas.List.{drop_more}
use Rattle.hq_tables.specs.Tables.{write_all}
use Rattle.hq_tables.specs.Sound.{AreCounted}
use Rattle.hq_isolation.proofs.Counted.{counts_stay}
use Rattle.hq_lists.specs.Lists.{tables_of}
use Rattle.hq_lists.proofs.Listed.{written}
use Rattle.hq_lists.proofs.list_rows.ListRows.change_all.Goals as goal

pub loop-change-preserved : goal.loop-change-preserved
loop-change-preserved g c =
    let who = c.args.customer.now in
    let all = c.args.changes.now in
    let k = c.loop-change.change-index in
    let ch = c.change-item.result in
    let old = c.loop-change.self in
    let next : drop k all ≡ ch ∷ drop (k + 1) all = drop_more all k ch c.loop-change-test.true
    ∙ ap (λ x. x ∷ drop (k + 1) all) (sym c.change-item.is) in
    record {
      made = λ counts. ap (write_all who (drop (k + 1) all)) (written who ch old c.change.new.self
          (c.loop-change.invariant.counted counts) c.in_ok-change.ensures.made)
          ∙ ap (λ xs. write_all who xs (tables_of old)) (sym next)
          ∙ c.loop-change.invariant.made counts;
      counted = λ counts. subst AreCounted (sym (written who ch old c.change.new.self
          (c.loop-change.invariant.counted counts) c.in_ok-change.ensures.made))
          (counts_stay who (ch ∷ []) (tables_of old) (c.loop-change.invariant.counted counts));
      order = λ ordered. c.in_ok-change.ensures.order (c.loop-change.invariant.order ordered);
    }

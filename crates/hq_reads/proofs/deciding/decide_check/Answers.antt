use Rattle.std.proofs.Common.{◌≡◌, sym, subst, ap, ◌∙◌}
use Rattle.hq_tables.specs.Readings.{read_tables}
use Rattle.hq_tables.specs.declared.account.Account.{Account}
use Rattle.hq_reads.proofs.Then.{finds_on}
use Rattle.hq_rules.specs.AccessLines.{found_for}
use Rattle.hq_rules.specs.Answering.{tell}
use Rattle.hq_reads.specs.Memory.{with_memory}
use Rattle.hq_rules.specs.declared.answer.Answer.TheVariants as answer
use Rattle.hq_reads.proofs.NoLines.{nobody_found}
use Rattle.hq_reads.proofs.Reading.{keeps_more}
use Rattle.hq_reads.proofs.deciding.decide_check.Goals as goal
use Rattle.hq_reads.proofs.deciding.decide_check.Goals.{then-account-eq0}
use Rattle.hq_reads.proofs.deciding.decide_check.Goals.{else-account-eq0+in_ok-found}

pub returns-clause-found : goal.returns-clause-found
returns-clause-found g c = λ clean ours.
    let name = c.args.entry.now.name in
    let sight = g.S.Shelf.sight in
    let t = sight.tables c.args.shelf.now in
    let first = c.in_ok-account.ensures in
    let found : c.if-account-eq0.found
    ≡ found_for (read_tables name t) c.args.class c.args.who.now =
    elim c.if-account-eq0.branch [
      | then-account-eq0 w ↦
          let none : (read_tables name t).counts.lines ≡ 0 =
          sym (ap (λ (a : Account). a.counts.lines)
          (first.found (subst sight.is_clean w.shelf-is clean) ours))
          ∙ w.if-account-eq0.true in
          w.found-is ∙ sym (nobody_found name t c.args.class c.args.who.now none)
      | else-account-eq0+in_ok-found w ↦
          let kept = w.in_ok-found.ensures.kept first.kept.tally.1 in
          let looked = w.in_ok-found.ensures.found first.kept.tally.1 in
          w.found-is ∙ finds_on (with_memory g.M.Memory.refused sight) _ _ _ _ _ name
          (λ rows. found_for rows c.args.class c.args.who.now)
          (keeps_more g.M.Memory.refused sight _ _ _ first.kept) kept looked
          (subst sight.is_clean w.shelf-is clean) ours
    ] in
    let keys = c.from_vec-keys.ensures ∙ c.in_ok-keys_of.ensures in
    c.tell.ensures ∙ (λ i. tell (answer.Checked (keys i) (found i)))

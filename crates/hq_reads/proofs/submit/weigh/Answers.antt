use Rattle.std.proofs.Common.{◌≡◌, ℕ, List, Ok, sym, subst, ap, ◌∙◌}
use Rattle.std.specs.Prelude.{option_map}
use Rattle.hq_rules.specs.Verdicts.{verdict}
use Rattle.hq_kept.specs.declared.pattern.Class.TheVariants.{SenderSide}
use Rattle.hq_tables.specs.Readings.{account_read, read_tables}
use Rattle.hq_tables.specs.Shelves.{Keeps}
use Rattle.hq_tables.specs.declared.account.Account.{Account}
use Rattle.hq_reads.proofs.Then.{finds_on}
use Rattle.hq_reads.specs.Memory.{with_memory}
use Rattle.hq_rules.specs.Submissions as rules
use Rattle.hq_reads.proofs.NoLines.{nobody_found, no_actions}
use Rattle.hq_reads.proofs.Reading.{keeps_more, keeps_ok, keeps_on}
use Rattle.hq_reads.proofs.submit.weigh.Goals as goal
use Rattle.hq_reads.proofs.submit.weigh.Goals.{then-account-eq0+in_ok-verdict}
use Rattle.hq_reads.proofs.submit.weigh.Goals.{else-account-eq0+in_ok-verdict-2}

pub returns-clause-found : goal.returns-clause-found
returns-clause-found g c = λ clean ours.
    let name = c.args.customer.now in
    let sender = c.args.sender.now in
    let recipients : List (List ℕ) = c.in_ok-recipients.recipients.items in
    let sight = g.S.Shelf.sight in
    let t = sight.tables c.args.shelf.now in
    let first = c.in_ok-account.ensures in
    let kept = keeps_more g.M.Memory.refused sight _ _ _ first.kept in
    let judged : (sight.is_clean c.account.new.self)
    × (c.if-account-eq0.verdict ≡ rules.judged (read_tables name t) sender recipients) =
    elim c.if-account-eq0.branch [
      | then-account-eq0+in_ok-verdict w ↦
          let quiet = subst sight.is_clean w.shelf-is clean in
          let none : (read_tables name t).counts.lines ≡ 0 =
          sym (ap (λ (a : Account). a.counts.lines) (first.found quiet ours))
          ∙ w.if-account-eq0.true in (
            quiet,
            w.verdict-is ∙ w.in_ok-verdict.ensures ∙ sym
                (λ i. verdict (option_map (λ found. found.1)
                (nobody_found name t SenderSide sender none i)) sender
                (no_actions name t recipients none i)),
          )
      | else-account-eq0+in_ok-verdict-2 w ↦
          let loud = subst sight.is_clean w.shelf-is clean in
          let later = w.in_ok-verdict-2.ensures.kept first.kept.tally.1 in
          let found = w.in_ok-verdict-2.ensures.found first.kept.tally.1 in (
            later.quiet loud,
            w.verdict-is ∙ finds_on (with_memory g.M.Memory.refused sight) _ _ _ _ _ name
                (λ rows. rules.judged rows sender recipients) kept later found loud ours,
          )
    ] in
    let account : c.in_ok-account.account ≡ account_read (read_tables name t) =
    first.found judged.0 ours in
    let distinct : recipients ≡ rules.distinct c.args.recipients = c.in_ok-recipients.ensures
    ∙ ap rules.distinct c.into_vec.ensures in
    let whole = judged.1 ∙ ap (rules.judged (read_tables name t) sender) distinct in
    (λ i. (account i, whole i))

pub returns-clause-kept : goal.returns-clause-kept
returns-clause-kept g c =
    let sight = with_memory g.M.Memory.refused g.S.Shelf.sight in
    let old = c.args.shelf.now in
    let first = c.in_ok-account.ensures in
    let kept = keeps_more g.M.Memory.refused g.S.Shelf.sight _ _ _ first.kept in
    let told = Ok (c.in_ok-account.account, c.if-account-eq0.verdict) in
    elim c.if-account-eq0.branch [
      | then-account-eq0+in_ok-verdict w ↦
          subst (λ new. Keeps sight old new told) (sym w.shelf-is) (keeps_ok sight _ _ _ _ kept)
      | else-account-eq0+in_ok-verdict-2 w ↦
          subst (λ new. Keeps sight old new told) (sym w.shelf-is)
          (keeps_ok sight _ _ _ _ (keeps_on sight _ _ _ _ _ kept
          (w.in_ok-verdict-2.ensures.kept first.kept.tally.1)))
    ]

use Rattle.std.proofs.Common.{◌≡◌, sym, ap, subst, ◌∙◌}
use Rattle.hq_kept.specs.declared.account.Head.{Head}
use Rattle.hq_tables.specs.Readings.{Readings, account_read, read_tables}
use Rattle.hq_tables.specs.declared.account.Account.{Account}
use Rattle.hq_isolation.proofs.Read.{same_readings}
use Rattle.hq_rules.specs.Queues.{AreTold, usage}
use Rattle.hq_reads.proofs.queues.decide_usage.Goals as goal

pub returns-clause-found : goal.returns-clause-found
returns-clause-found g c = λ clean ours sound.
    let name = c.args.entry.now.name in
    let sight = g.S.Shelf.sight in
    let t = sight.tables c.args.shelf.now in
    let rows = read_tables name t in
    let account : c.in_ok-account.account ≡ account_read rows =
    c.in_ok-account.ensures.found clean ours in
    let head : c.in_ok-account.account.head ≡ rows.head = ap (λ (a : Account). a.head) account in
    let told : AreTold rows.head rows.messages =
    subst (λ (r : Readings). AreTold r.head r.messages) (sym (same_readings name t))
    (sound.states name).conserved in
    c.usage.ensures.usage rows.messages (subst (λ (h : Head). AreTold h rows.messages) (sym head)
    told)
    ∙ (λ i. usage (account i).head (account i).counts rows.messages)

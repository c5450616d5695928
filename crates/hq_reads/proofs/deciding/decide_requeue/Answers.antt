use Rattle.std.proofs.Common.{◌≡◌, ◌<◌, ◌≤◌, ◌^◌, Some, sym, ap, subst, ◌∙◌}
use Rattle.hq_kept.specs.declared.account.Head.{Head}
use Rattle.hq_tables.specs.Readings.{account_read, read_tables}
use Rattle.hq_tables.specs.declared.account.Account.{Account}
use Rattle.hq_reads.proofs.Then.{finds_on}
use Rattle.hq_rules.specs.Messages as rules
use Rattle.hq_reads.proofs.deciding.decide_requeue.Goals as goal

pub returns-clause-found : goal.returns-clause-found
returns-clause-found g c = λ clean ours sound.
    let name = c.args.entry.now.name in
    let sight = g.S.Shelf.sight in
    let rows = read_tables name (sight.tables c.args.shelf.now) in
    let first = c.in_ok-message.ensures in
    let then = c.in_ok-account.ensures in
    let head : c.in_ok-account.account.head ≡ rows.head = ap (λ (a : Account). a.head)
    (finds_on sight _ _ _ _ _ name account_read first.kept then.kept then.found clean ours) in
    let found : rows.message c.args.serial ≡ Some c.in-Some.message =
    sym (first.found (then.kept.quiet clean) ours) ∙ c.in-Some.is in
    let next = (sound.states name).shaped.next_serial in
    c.in_ok-decision.ensures.decision (subst (λ (h : Head). 0 < h.next_serial) (sym head) next.0)
    (subst (λ (h : Head). h.next_serial ≤ 2 ^ 40) (sym head) next.1)
    ∙ ap (λ (h : Head). rules.requeue_with h c.args.at c.in-Some.message) head
    ∙ ap (rules.requeue rows.head c.args.at) (sym found)

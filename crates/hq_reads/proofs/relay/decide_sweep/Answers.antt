use Rattle.std.proofs.Common.{◌≡◌, None, sym, ap, subst, ◌∙◌}
use Rattle.hq_tables.specs.Readings.{account_read, read_tables}
use Rattle.hq_tables.specs.declared.account.Account.{Account}
use Rattle.hq_reads.proofs.Then.{finds_on}
use Rattle.hq_rules.specs.Sweeps.{sweep}
use Rattle.hq_rules.specs.Desks.{IsAnswerTo}
use Rattle.hq_rules.specs.declared.call.Call.TheVariants.{Sweep}
use Rattle.hq_rules.specs.declared.decision.Decision.{Decision}
use Rattle.hq_reads.proofs.SweepAnswers.{sweep_answered}
use Rattle.hq_reads.proofs.Whole.{whole}
use Rattle.hq_reads.proofs.relay.decide_sweep.Goals as goal

pub returns-clause-found : goal.returns-clause-found
returns-clause-found g c = λ clean ours sound.
    let name = c.args.entry.now.name in
    let sight = g.S.Shelf.sight in
    let rows = read_tables name (sight.tables c.args.shelf.now) in
    let first = c.in_ok-messages.ensures in
    let then = c.in_ok-account.ensures in
    let head : c.in_ok-account.account.head ≡ rows.head = ap (λ (a : Account). a.head)
    (finds_on sight _ _ _ _ _ name account_read first.kept then.kept then.found clean ours) in
    let messages : c.in_ok-messages.messages ≡ rows.messages =
    first.found (then.kept.quiet clean) ours ∙ whole name (sight.tables c.args.shelf.now) None
    sound in
    c.in_ok-decision.ensures ∙ (λ i. sweep c.args.host.now c.args.entry.now c.args.at (head i)
    (messages i))

pub returns-clause-kind : goal.returns-clause-kind
returns-clause-kind g c = subst (λ (d : Decision). IsAnswerTo Sweep d.answer)
    (sym c.in_ok-decision.ensures) (sweep_answered c.args.host.now c.args.entry.now c.args.at
    c.in_ok-account.account.head c.in_ok-messages.messages)

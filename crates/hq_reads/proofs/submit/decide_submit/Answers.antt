use Rattle.std.proofs.Common.{◌≡◌, None, sym, subst, ◌∙◌}
use Rattle.std.specs.Prelude.{IfOk}
use Rattle.hq_tables.specs.Readings.{read_tables}
use Rattle.hq_tables.specs.Sound.{Sound}
use Rattle.hq_rules.specs.declared.decision.Decision.{Decision}
use Rattle.hq_rules.specs.Submissions as rules
use Rattle.hq_reads.proofs.submit.decide_submit.Goals as goal

pub returns-in-None-clause-found : goal.returns-in-None-clause-found
returns-in-None-clause-found g c = λ clean ours sound.
    let before = c.decide_new.ensures.kept.quiet clean in
    let name = c.args.entry.now.name in
    let t = g.S.Shelf.sight.tables c.args.shelf.now in
    let tables : g.S.Shelf.sight.tables c.by_spool.new.self ≡ t =
    c.in_ok-known.ensures.kept.same before ours c.in_ok-known.ensures.kept.tally.1 in
    let none : (read_tables name t).by_spool c.args.submission.spool ≡ None =
    sym (c.in_ok-known.ensures.found before ours) ∙ c.in-None.is in
    subst (λ (target : Decision). IfOk c.decide_new.result (λ decision. decision ≡ target))
    (λ i. rules.submit c.args.entry.now (read_tables name (tables i)) c.args.at c.args.submission
    (sym none i))
    (c.decide_new.ensures.found clean
    (c.in_ok-known.ensures.kept.ours before ours c.in_ok-known.ensures.kept.tally.1)
    (subst Sound (sym tables) sound))

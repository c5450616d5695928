use Rattle.std.proofs.Common.{◌≡◌, sym, ap, ◌∙◌}
use Rattle.hq_tables.specs.Readings.{read_tables}
use Rattle.hq_tables.specs.declared.account.Account.{Account}
use Rattle.hq_rules.specs.AccessLines.{drop_line}
use Rattle.hq_isolation.proofs.Read.{no_line}
use Rattle.hq_reads.proofs.deciding.decide_drop_line.Goals as goal

pub returns-then-branch-eq0-clause-found : goal.returns-then-branch-eq0-clause-found
returns-then-branch-eq0-clause-found g c = λ clean ours.
    let name = c.args.entry.now.name in
    let t = g.S.Shelf.sight.tables c.args.shelf.now in
    let pattern = c.args.pattern in
    let none : (read_tables name t).counts.lines ≡ 0 =
    sym (ap (λ (a : Account). a.counts.lines) (c.in_ok-account.ensures.found clean ours))
    ∙ c.if-branch-eq0.true in
    c.refuse.ensures ∙ sym (ap (drop_line pattern) (no_line name t pattern.0 pattern.1 none))

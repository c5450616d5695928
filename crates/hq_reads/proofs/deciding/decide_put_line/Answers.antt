use Rattle.std.proofs.Common.{sym, ap, ◌∙◌}
use Rattle.hq_tables.specs.Readings.{read_tables}
use Rattle.hq_reads.proofs.Then.{finds_on}
use Rattle.hq_rules.specs.AccessLines.{put_line}
use Rattle.hq_reads.proofs.deciding.decide_put_line.Goals as goal

pub returns-in-Some-clause-found : goal.returns-in-Some-clause-found
returns-in-Some-clause-found g c = λ clean ours.
    let name = c.args.entry.now.name in
    let rows = read_tables name (g.S.Shelf.sight.tables c.args.shelf.now) in
    let first = c.in_ok-account.ensures in
    let then = c.in_ok-known.ensures in
    let known = finds_on g.S.Shelf.sight _ _ _ _ _ name
    (λ rows. rows.line c.class.result c.in_ok-key.key) first.kept then.kept then.found clean
    ours in
    c.in_ok-put_over.ensures
    ∙ ap (put_line c.args.entry.now.quota.lines rows.counts.lines c.args.line) (sym c.in-Some.is
    ∙ known ∙ (λ i. rows.line (c.class.ensures i) (c.in_ok-key.ensures i)))

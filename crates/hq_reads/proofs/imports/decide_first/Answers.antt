use Rattle.std.proofs.Common.{◌≡◌, map, sym, ap, ◌∙◌}
use Rattle.sha2.specs.Sha256.{sha256}
use Rattle.hq_tables.specs.Readings.{read_tables}
use Rattle.hq_tables.specs.declared.account.Account.{Account}
use Rattle.hq_reads.proofs.Then.{finds_on}
use Rattle.hq_reads.specs.Memory.{with_memory}
use Rattle.hq_rules.specs.Imports.{line_met, taken, first_import}
use Rattle.hq_reads.proofs.Reading.{keeps_more}
use Rattle.hq_reads.proofs.imports.decide_first.Goals as goal

pub returns-clause-found : goal.returns-clause-found
returns-clause-found g c = λ opened clean ours.
    let name = c.args.entry.now.name in
    let quota = c.args.entry.now.quota.lines in
    let sight = g.S.Shelf.sight in
    let now = read_tables name (sight.tables c.args.shelf.now) in
    let first = c.in_ok-account.ensures in
    let kept = c.in_ok-rows.ensures.kept first.kept.tally.1 in
    let looked = c.in_ok-rows.ensures.found first.kept.tally.1 in
    let counts : c.in_ok-account.account.counts ≡ now.counts = ap (λ (a : Account). a.counts)
    (first.found (kept.quiet clean) ours) in
    let rows : c.in_ok-rows.rows ≡ map (line_met now) c.in-Ok.lines.items =
    finds_on (with_memory g.M.Memory.refused sight) _ _ _ _ _ name (λ rows. map (line_met rows)
    c.in-Ok.lines.items)
    (keeps_more g.M.Memory.refused sight _ _ _ first.kept) kept looked clean ours in
    c.in_ok-decision.ensures
    ∙ (λ i. taken quota (counts i).lines c.args.label (c.digest.ensures i) (rows i))
    ∙ ap (first_import quota now c.args.label (sha256 c.args.file.now)) (sym c.in-Ok.ensures.lines)

use Rattle.std.proofs.Common.{◌≡◌, ◌∷◌, [], ◌++◌, Ok, sym, ap, ◌∙◌}
use Rattle.std.proofs.lemmas.List.{map-append}
use Rattle.hq_tables.specs.Readings.{read_tables}
use Rattle.hq_tables.specs.Tables.{Tables}
use Rattle.hq_rules.specs.Imports.{line_met}
use Rattle.hq_reads.specs.Memory.{with_memory}
use Rattle.hq_reads.proofs.Reading.{keeps_on, keeps_ok}
use Rattle.hq_reads.proofs.imports.all_met.Goals as goal

pub loop-line-preserved : goal.loop-line-preserved
loop-line-preserved g c = λ opened.
    let sight = with_memory g.M.Memory.refused g.S.Shelf.sight in
    let tables = g.S.Shelf.sight.tables in
    let before = c.loop-line.invariant opened in
    let line = c.in-Some.line in
    let one = c.in_ok-met.field-0 in
    let kept = c.in_ok-met.ensures.kept before.0.tally.1 in
    let both = keeps_on sight c.args.shelf.now c.loop-line.shelf c.met.new.shelf
    c.loop-line.found.items (Ok one) before.0 kept in
    let met = λ (t : Tables). line_met (read_tables c.args.customer.now t) in (
      keeps_ok sight c.args.shelf.now c.met.new.shelf one c.push.new.to.items both,
      λ clean ours.
          let prior = kept.quiet clean in
          let same = before.0.same prior ours before.0.tally.1 in
          let mine = before.0.ours prior ours before.0.tally.1 in
          let this : one ≡ met (tables c.args.shelf.now) line =
          c.in_ok-met.ensures.found before.0.tally.1 clean mine ∙ ap (λ t. met t line) same in
          c.in_ok-push.ensures.items ∙ (λ i. before.1 prior ours i ++ this i ∷ [])
          ∙ sym (map-append (met (tables c.args.shelf.now)) c.loop-line.yielded (line ∷ [])),
    )

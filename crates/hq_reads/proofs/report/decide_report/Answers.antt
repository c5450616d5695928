use Rattle.std.proofs.Common.{[], ap, ◌∙◌, filter, option_map}
use Rattle.hq_tables.specs.Readings.{read_tables}
use Rattle.hq_rules.specs.Answering.{tell}
use Rattle.hq_rules.specs.Selections.{is_selected}
use Rattle.hq_rules.specs.declared.answer.Answer.TheVariants as answer
use Rattle.hq_reads.proofs.Whole.{few_messages}
use Rattle.hq_reads.proofs.report.decide_report.Goals as goal

pub returns-clause-found : goal.returns-clause-found
returns-clause-found g c = λ clean ours sound.
    let name = c.args.entry.now.name in
    let t = g.S.Shelf.sight.tables c.args.shelf.now in
    let p = is_selected (option_map (λ p. p.now) c.args.which) in
    let ms = filter p (read_tables name t).messages in
    let added = c.in_ok-add_pages.ensures.added clean ours sound [] c.new-report.ensures
    (few_messages name t sound) in
    let written = c.in_ok-finish.ensures ms added in
    c.tell.ensures ∙ ap (λ text. tell (answer.Reported text)) (c.new-text.ensures ∙ written)

use Rattle.std.proofs.Common.{◌∙◌, ◌++◌, ap, filter, option_map, take}
use Rattle.hq_tables.specs.Readings.{read_tables, after_serial}
use Rattle.hq_rules.specs.Messages.{page}
use Rattle.hq_rules.specs.Selections.{is_selected}
use Rattle.hq_reads.proofs.Found.{page_of_found}
use Rattle.hq_reads.proofs.Whole.{few_after, few_messages}
use Rattle.hq_reads.proofs.lists.decide_list.Goals as goal

pub returns-clause-found : goal.returns-clause-found
returns-clause-found g c = λ clean ours sound.
    let name = c.args.entry.now.name in
    let t = g.S.Shelf.sight.tables c.args.shelf.now in
    let all = after_serial c.args.after (read_tables name t).messages in
    let few = few_after c.args.after (read_tables name t).messages (few_messages name t sound) in
    let p = is_selected (option_map (λ p. p.now) c.args.which) in
    c.page.ensures ∙ ap page c.from_vec.ensures
    ∙ page_of_found _ (filter p all) (c.in_ok-add_found.ensures.added clean ours sound few
    ∙ ap (λ before. take 101 (before ++ filter p all)) c.none-found.ensures.items)

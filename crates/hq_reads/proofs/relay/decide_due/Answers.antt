use Rattle.std.proofs.Common.{filter, ◌∙◌}
use Rattle.hq_kept.specs.Messages.{is_due}
use Rattle.hq_tables.specs.Readings.{read_tables, after_serial}
use Rattle.hq_reads.proofs.Pages.{due_page_of_more}
use Rattle.hq_reads.proofs.relay.decide_due.Goals as goal

pub returns-clause-found : goal.returns-clause-found
returns-clause-found g c = λ clean ours.
    let name = c.args.entry.now.name in
    let t = g.S.Shelf.sight.tables c.args.shelf.now in
    c.due_page.ensures
    ∙ due_page_of_more
    (filter (is_due c.args.at) (after_serial c.args.after (read_tables name t).messages)) _
    (c.in_ok-messages.ensures.found clean ours)

use Rattle.std.proofs.Common.{◌∙◌}
use Rattle.hq_reads.proofs.Pages.{history_page_of_more}
use Rattle.hq_reads.proofs.histories.decide_history.Goals as goal

pub returns-clause-found : goal.returns-clause-found
returns-clause-found g c = λ clean ours. c.history_page.ensures
    ∙ history_page_of_more _ _ (c.in_ok-found.ensures.found clean ours)

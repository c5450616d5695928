use Rattle.std.proofs.Common.{◌∙◌}
use Rattle.hq_reads.proofs.Pages.{find_history_of_more}
use Rattle.hq_reads.proofs.histories.decide_find_history.Goals as goal

pub returns-clause-found : goal.returns-clause-found
returns-clause-found g c = λ clean ours. c.in_ok-decision.ensures
    ∙ find_history_of_more _ _ _ (c.in_ok-found.ensures.found clean ours)

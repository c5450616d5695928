use Rattle.std.proofs.Common.{◌∙◌}
use Rattle.hq_reads.proofs.Pages.{notice_page_of_more}
use Rattle.hq_reads.proofs.deciding.decide_notices.Goals as goal

pub returns-clause-found : goal.returns-clause-found
returns-clause-found g c = λ clean ours. c.notice_page.ensures
    ∙ notice_page_of_more _ _ (c.in_ok-found.ensures.found clean ours)

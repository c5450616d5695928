use Rattle.hq_reads.proofs.report.+add_pages.Given as goal

-- how many more pages may be asked for
abbrev pub decreases-add_pages : goal.decreases-add_pages
decreases-add_pages g l = l.more

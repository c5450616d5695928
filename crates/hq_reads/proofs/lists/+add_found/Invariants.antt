use Rattle.hq_reads.proofs.lists.+add_found.Given as goal

-- how many more pages may be asked for
abbrev pub decreases-add_found : goal.decreases-add_found
decreases-add_found g l = l.more

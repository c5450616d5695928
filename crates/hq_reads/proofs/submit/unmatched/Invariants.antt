use Rattle.std.proofs.Common.{◌≡◌, None, map}
use Rattle.hq_reads.proofs.submit.unmatched.Given as goal

abbrev pub invariant-loop-recipient : goal.invariant-loop-recipient
invariant-loop-recipient g l = l.found.items ≡ map (λ a. (a, None)) l.yielded

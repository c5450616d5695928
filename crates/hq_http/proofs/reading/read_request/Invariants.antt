use Rattle.std.proofs.Common.{◌≡◌}
use Rattle.hq_http.specs.Turns.{IsUnderWay}
use Rattle.hq_http.proofs.reading.read_request.Given as goal

-- it is the same reader, and so far the request is
abbrev pub invariant-loop-next : goal.invariant-loop-next
invariant-loop-next g l = (l.reads.reader.ghost_name ≡ l.fn.reads.reader.ghost_name)
    × IsUnderWay g.R.Read.remaining l.fn.reads l.reads l.stage

-- each turn takes one of the reads that may be made
abbrev pub decreases-loop-next : goal.decreases-loop-next
decreases-loop-next g l = l.reads.left

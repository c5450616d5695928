use Rattle.std.proofs.Common.{not, subst}
use Rattle.hq_requests.specs.Routes.{changes}
use Rattle.hq_requests.proofs.Reading.{Reads, reads_as_told}
use Rattle.hq_laws.proofs.runs.a_route_reads_as_told.Goals as goal

pub returns : goal.returns
returns c = λ route segment body call is.
    subst (Reads (not (changes route))) is (reads_as_told route segment body)

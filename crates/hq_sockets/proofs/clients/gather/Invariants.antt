use Rattle.std.proofs.Common.{[], List, ℕ}
use Rattle.hq_http.specs.Gathered.{IsGathered}
use Rattle.hq_sockets.proofs.clients.gather.Given as goal

-- so far these bytes came, and are gathered
abbrev pub invariant-loop : goal.invariant-loop
invariant-loop g l =
    (first : g.row.C.Denot) (got : List ℕ) → g.C.Connection.talks first got [] l.fn.stream →
    IsGathered got l.fn.gathering → (now : List ℕ) × g.C.Connection.talks first now [] l.stream
    × IsGathered now l.gathering

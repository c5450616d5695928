use Rattle.std.proofs.Common.{List, ℕ}
use Rattle.hq_serve.specs.declared.coming.Came.{Came}
use Rattle.hq_sockets.specs.Slots.{AskedFirst}
use Rattle.hq_sockets.proofs.clients.throw_away.Given as goal

-- so far more came, and nothing was sent
abbrev pub invariant-loop : goal.invariant-loop
invariant-loop g l =
    (first : g.row.C.Denot) (one : Came) (got response : List ℕ) →
    g.C.Connection.talks first got response l.fn.stream →
    AskedFirst g.M.Memory.refused g.C.Connection.talks g.C.Connection.ends first got one.asked →
    (now : List ℕ) × g.C.Connection.talks first now response l.stream
    × AskedFirst g.M.Memory.refused g.C.Connection.talks g.C.Connection.ends first now one.asked

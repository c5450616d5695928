use Rattle.std.proofs.Common.{◌≤◌, List, ℕ, length, take}
use Rattle.hq_sockets.proofs.clients.send.Given as goal

-- so far the first so many bytes were sent
abbrev pub invariant-loop : goal.invariant-loop
invariant-loop g l =
    (first : g.row.C.Denot) (got : List ℕ) →
    g.C.Connection.talks first got (take l.fn.sent l.bytes.items) l.fn.stream →
    l.fn.sent ≤ length l.bytes.items →
    g.C.Connection.talks first got (take l.sent l.bytes.items) l.stream
    × (l.sent ≤ length l.bytes.items)

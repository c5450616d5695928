use Rattle.std.proofs.Common.{◌≡◌, []}
use Rattle.hq_sockets.specs.Waiting.{waiting_does}
use Rattle.hq_sockets.proofs.waiting.Waiting+L+L+Connection+M.put_off.Given as goal

-- so far the clients went on
abbrev pub invariant-loop-number : goal.invariant-loop-number
invariant-loop-number g l =
    waiting_does g.M.Memory.refused g.L.Connection.Connection.talks g.L.Connection.Connection.ends
    g.L.Listener.does l.fn.self []
    l.self × (l.self.connections.left ≡ l.fn.self.connections.left)

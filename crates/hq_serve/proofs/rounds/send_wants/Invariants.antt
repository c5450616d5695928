use Rattle.std.proofs.Common.{◌≡◌, map, take}
use Rattle.hq_serve.specs.Coming.{sent_each}
use Rattle.hq_serve.specs.Logged.{told_each}
use Rattle.hq_serve.specs.Taking.{timed, wants_of}
use Rattle.hq_serve.proofs.rounds.send_wants.Given as goal

-- so far the first were sent that memory was wanted, and the log was told
abbrev pub invariant-loop-place : goal.invariant-loop-place
invariant-loop-place g l =
    g.K.Clients.does l.fn.clients (sent_each (take l.place l.round.clients.items)
    (take l.place (wants_of l.round.exchanges.items))) l.clients
    × g.L.Log.tells l.fn.log (told_each l.directory
    (take l.place (map timed l.round.exchanges.items))
    (take l.place (wants_of l.round.exchanges.items))) l.log
    × (g.K.Clients.left l.clients ≡ g.K.Clients.left l.fn.clients)

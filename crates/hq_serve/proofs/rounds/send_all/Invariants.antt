use Rattle.std.proofs.Common.{◌≡◌, map, take}
use Rattle.hq_wire.specs.Replies.{seen}
use Rattle.hq_serve.specs.Coming.{each_with, sent_each}
use Rattle.hq_serve.specs.Taking.{reply_entry}
use Rattle.hq_serve.proofs.rounds.send_all.Given as goal

-- so far the first were sent their replies, and the log was told
abbrev pub invariant-loop-place : goal.invariant-loop-place
invariant-loop-place g l =
    g.K.Clients.does l.fn.clients (sent_each (take l.place l.round.clients.items)
    (take l.place (map seen l.replies))) l.clients
    × g.L.Log.tells l.fn.log (each_with reply_entry
    (take l.place l.round.exchanges.items) (take l.place l.replies)) l.log
    × (g.K.Clients.left l.clients ≡ g.K.Clients.left l.fn.clients)

use Rattle.std.proofs.Common.{[], ◌∷◌, refl}
use Rattle.hq_sockets.specs.Counted.{counting_none, counting_on}
use Rattle.hq_sockets.specs.Listening.{counting}
use Rattle.hq_sockets.specs.Slots.{accepts, asking, closes, free}
use Rattle.hq_sockets.specs.Talks.{accepted, closed}
use Rattle.hq_sockets.proofs.History.{fills_so, leads_still, passes_so}
use Rattle.hq_sockets.proofs.waiting.Waiting+L+L+Connection+M.accept_one.Goals as goal

pub returns-in-Ok-None-clause-does : goal.returns-in-Ok-None-clause-does
returns-in-Ok-None-clause-does g c =
    let here = c.args.self.now in
    let so = rw c.in-Ok-None.field-0-is at c.in-Ok-None.ensures in
    leads_still g.M.Memory.refused g.L.Connection.Connection.talks g.L.Connection.Connection.ends
    (counting g.L.Listener.does)
    (counting_none g.L.Listener.does g.L.Listener.none_does)
    (counting_on g.L.Listener.does g.L.Listener.does_on) here.connections
    c.accept.new.self here.slots.held.items so

pub returns-in-Err-clause-does : goal.returns-in-Err-clause-does
returns-in-Err-clause-does g c =
    let here = c.args.self.now in
    leads_still g.M.Memory.refused g.L.Connection.Connection.talks g.L.Connection.Connection.ends
    (counting g.L.Listener.does)
    (counting_none g.L.Listener.does g.L.Listener.none_does)
    (counting_on g.L.Listener.does g.L.Listener.does_on) here.connections
    c.accept.new.self here.slots.held.items c.in-Err.ensures.1

pub returns-then-watch-clause-does : goal.returns-then-watch-clause-does
returns-then-watch-clause-does g c =
    let here = c.args.self.now in
    let so = rw c.in-Ok-Some.field-0-is at c.in-Ok-Some.ensures in
    fills_so g.M.Memory.refused g.L.Connection.Connection.talks g.L.Connection.Connection.ends
    (counting g.L.Listener.does)
    (counting_none g.L.Listener.does g.L.Listener.none_does)
    (counting_on g.L.Listener.does g.L.Listener.does_on) here.connections
    c.accept.new.self here.slots.held.items c.put.new.self.held.items c.args.number
    c.new-client.result (accepts c.in-Ok-Some.stream ∷ []) (asking c.in-Ok-Some.stream) so.1
    c.requires c.put.ensures (asking c.in-Ok-Some.stream, refl, refl) c.new-client.ensures

pub returns-else-watch-clause-does : goal.returns-else-watch-clause-does
returns-else-watch-clause-does g c =
    let here = c.args.self.now in
    let stream = c.in-Ok-Some.stream in
    let so = rw c.in-Ok-Some.field-0-is at c.in-Ok-Some.ensures in
    passes_so g.M.Memory.refused g.L.Connection.Connection.talks g.L.Connection.Connection.ends
    (counting g.L.Listener.does)
    (counting_none g.L.Listener.does g.L.Listener.none_does)
    (counting_on g.L.Listener.does g.L.Listener.does_on) here.connections
    c.close.new.self here.slots.held.items c.args.number
    (accepts stream ∷ closes stream ∷ [])
    ((counting_on g.L.Listener.does g.L.Listener.does_on) here.connections c.accept.new.self
    c.close.new.self (accepted stream ∷ []) (closed stream ∷ []) so.1
    c.close.ensures)
    c.requires (
      asking stream,
      refl,
      (free, (([], g.L.Connection.Connection.none_talks stream), refl), refl),
    )

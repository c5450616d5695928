use Rattle.hq_sockets.specs.Counted.{counting_none, counting_on}
use Rattle.hq_sockets.specs.Listening.{counting}
use Rattle.hq_sockets.proofs.History.{are_served}
use Rattle.hq_sockets.proofs.laws.clients_are_served.Goals as goal

pub returns : goal.returns
returns g c = λ start old new events begun so.
    are_served g.M.Memory.refused g.L.Connection.Connection.talks g.L.Connection.Connection.ends
    (counting g.L.Listener.does) (counting_none g.L.Listener.does g.L.Listener.none_does)
    (counting_on g.L.Listener.does g.L.Listener.does_on) start old.waiting.connections
    new.waiting.connections old.waiting.slots.held.items new.waiting.slots.held.items events begun
    so.0

use Rattle.hq_sockets.specs.Counted.{counting_none, counting_on}
use Rattle.hq_sockets.specs.Listening.{counting}
use Rattle.hq_sockets.proofs.Next.{asked_so, unasked_so}
use Rattle.hq_sockets.proofs.waiting.Waiting+L+L+Connection+M.next_asked.Goals as goal

pub returns-in-Some-take_asked-clause-came : goal.returns-in-Some-take_asked-clause-came
returns-in-Some-take_asked-clause-came g c = λ at.
    let here = c.args.self.now in
    asked_so g.M.Memory.refused g.L.Connection.Connection.talks g.L.Connection.Connection.ends
    (counting g.L.Listener.does)
    (counting_none g.L.Listener.does g.L.Listener.none_does)
    (counting_on g.L.Listener.does g.L.Listener.does_on) here.connections here.slots.held.items
    c.take_asked.new.self.held.items c.match-asked_from.number at c.in-Some-take_asked.asked
    c.in-Some-take_asked.ensures

pub returns-in-None-take_asked-clause-none : goal.returns-in-None-take_asked-clause-none
returns-in-None-take_asked-clause-none g c =
    let here = c.args.self.now in
    unasked_so g.M.Memory.refused g.L.Connection.Connection.talks g.L.Connection.Connection.ends
    (counting g.L.Listener.does)
    (counting_none g.L.Listener.does g.L.Listener.none_does)
    (counting_on g.L.Listener.does g.L.Listener.does_on) here.connections here.slots.held.items
    c.take_asked.new.self.held.items c.match-asked_from.number c.in-None-take_asked.ensures

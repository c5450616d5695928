use Rattle.hq_sockets.specs.Counted.{counting_none, counting_on}
use Rattle.hq_sockets.specs.Listening.{counting}
use Rattle.hq_sockets.proofs.Next.{answered_so}
use Rattle.hq_sockets.proofs.waiting.Waiting+L+L+Connection+M.answer.Goals as goal

pub returns-clause-does : goal.returns-clause-does
returns-clause-does g c = λ bytes so.
    let here = c.args.self.now in
    answered_so g.M.Memory.refused g.L.Connection.Connection.talks g.L.Connection.Connection.ends
    (counting g.L.Listener.does)
    (counting_none g.L.Listener.does g.L.Listener.none_does)
    (counting_on g.L.Listener.does g.L.Listener.does_on) here.connections here.slots.held.items
    c.answer.new.self.held.items c.args.number c.args.response bytes so c.answer.ensures

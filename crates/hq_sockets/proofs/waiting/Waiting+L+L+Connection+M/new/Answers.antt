use Rattle.std.proofs.Common.{refl}
use Rattle.hq_sockets.specs.Counted.{counting_none, counting_on}
use Rattle.hq_sockets.specs.Listening.{counting}
use Rattle.hq_sockets.proofs.History.{begins}
use Rattle.hq_sockets.proofs.waiting.Waiting+L+L+Connection+M.new.Goals as goal

pub returns-clause-begins : goal.returns-clause-begins
returns-clause-begins g c =
    let start = c.new-2.result in (
      start,
      c.new-2.ensures.listener,
      c.new-2.ensures.left,
      begins g.M.Memory.refused g.L.Connection.Connection.talks g.L.Connection.Connection.ends
          (counting g.L.Listener.does) (counting_none g.L.Listener.does g.L.Listener.none_does)
          (counting_on g.L.Listener.does g.L.Listener.does_on) start start
          c.in-Some.slots.held.items refl c.in-Some.ensures,
    )

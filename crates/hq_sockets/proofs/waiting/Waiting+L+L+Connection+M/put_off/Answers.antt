use Rattle.std.proofs.Common.{[], refl}
use Rattle.hq_sockets.specs.Counted.{counting_none, counting_on}
use Rattle.hq_sockets.specs.Listening.{counting}
use Rattle.hq_sockets.specs.Leads.{leads_on}
use Rattle.hq_sockets.proofs.Next.{later_so}
use Rattle.hq_sockets.proofs.waiting.Waiting+L+L+Connection+M.put_off.Goals as goal

pub loop-number-preserved : goal.loop-number-preserved
loop-number-preserved g c =
    let here = c.args.self.now in
    let mid = c.loop-number.self in (
      leads_on g.M.Memory.refused g.L.Connection.Connection.talks g.L.Connection.Connection.ends
          (counting g.L.Listener.does)
          here.connections
          mid.connections mid.connections here.slots.held.items
          mid.slots.held.items c.put_off.new.self.held.items [] [] [] refl
          c.loop-number.invariant.0
          (later_so g.M.Memory.refused g.L.Connection.Connection.talks
          g.L.Connection.Connection.ends (counting g.L.Listener.does)
          (counting_none g.L.Listener.does g.L.Listener.none_does)
          (counting_on g.L.Listener.does g.L.Listener.does_on) mid.connections
          mid.slots.held.items c.put_off.new.self.held.items c.loop-number.number
          c.put_off.ensures),
      c.loop-number.invariant.1,
    )

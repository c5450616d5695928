use Rattle.std.proofs.Common.{inr, refl}
use Rattle.hq_sockets.specs.declared.clients.Client.{Client}
use Rattle.hq_sockets.proofs.Held.{swapped}
use Rattle.hq_sockets.proofs.slots.Slots.take_asked.Goals as goal

pub returns : goal.returns
returns g c =
    let client = c.in_ok-stream.field-0 in
    let other : Client g.row.C.Denot = record {
      stream = client.stream;
      phase = c.asked_in-phase.result.0;
      deadlines = client.deadlines;
    } in
    inr (
      client,
      other,
      swapped c.args.self.now.held.items c.take.new.self.held.items c.put.new.self.held.items
          c.args.number client other c.take.result c.take.ensures.taken c.in_ok-stream.was
          c.take.ensures.left c.put.ensures,
      c.asked_in-phase.ensures,
      refl,
    )

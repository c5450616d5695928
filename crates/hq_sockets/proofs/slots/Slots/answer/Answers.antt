use Rattle.std.proofs.Common.{inr, refl}
use Rattle.hq_sockets.specs.declared.clients.Client.{Client}
use Rattle.hq_sockets.proofs.Held.{swapped}
use Rattle.hq_sockets.proofs.slots.Slots.answer.Goals as goal

pub returns : goal.returns
returns g c =
    let other : Client g.row.C.Denot = record {
      stream = c.in-Some.client.stream;
      phase = c.replied.result;
      deadlines = c.match-client.deadlines;
    } in
    inr (
      c.in-Some.client,
      other,
      swapped c.args.self.now.held.items c.take.new.self.held.items c.put.new.self.held.items
          c.args.number c.in-Some.client other c.take.result c.take.ensures.taken c.in-Some.is
          c.take.ensures.left c.put.ensures,
      c.replied.ensures,
      refl,
    )

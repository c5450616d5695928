use Rattle.std.proofs.Common.{inr}
use Rattle.hq_sockets.proofs.Held.{swapped}
use Rattle.hq_sockets.proofs.slots.Slots.put_off.Goals as goal

pub returns-in-Some : goal.returns-in-Some
returns-in-Some g c = inr (
  c.in-Some.client,
  c.put_off.new.self,
  swapped c.args.self.now.held.items c.take.new.self.held.items c.put.new.self.held.items
      c.args.number c.in-Some.client c.put_off.new.self c.take.result c.take.ensures.taken
      c.in-Some.is c.take.ensures.left c.put.ensures,
  c.put_off.ensures.1,
  c.put_off.ensures.0,
)

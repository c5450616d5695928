use Rattle.std.proofs.Common.{[], ◌∷◌, refl, sym, subst, ◌∙◌}
use Rattle.hq_sockets.specs.Counted.{counting_none, counting_on}
use Rattle.hq_sockets.specs.Listening.{counting}
use Rattle.hq_sockets.specs.Held.{LeadsOn}
use Rattle.hq_sockets.specs.Slots.{closes}
use Rattle.hq_sockets.specs.declared.waiting.Waiting.{Waiting}
use Rattle.hq_sockets.proofs.Held.{swapped}
use Rattle.hq_sockets.proofs.History.{leaves_so, swaps_so}
use Rattle.hq_sockets.proofs.Steps.{closes_so}
use Rattle.hq_sockets.proofs.waiting.Waiting+L+L+Connection+M.turn_one.Goals as goal
use Rattle.hq_sockets.proofs.waiting.Waiting+L+L+Connection+M.turn_one.Goals.{in-GoesOn, in-Left}
use Rattle.hq_sockets.proofs.waiting.Waiting+L+L+Connection+M.turn_one.Goals.{in-Failed}

pub returns-in-Waits-clause-does : goal.returns-in-Waits-clause-does
returns-in-Waits-clause-does g c =
    let here = c.args.self.now in
    swaps_so g.M.Memory.refused g.L.Connection.Connection.talks g.L.Connection.Connection.ends
    (counting g.L.Listener.does)
    (counting_none g.L.Listener.does g.L.Listener.none_does)
    (counting_on g.L.Listener.does g.L.Listener.does_on) here.connections
    here.connections here.slots.held.items c.put.new.self.held.items c.args.number
    c.in-Some.client c.in-Waits.client [] ((counting_none g.L.Listener.does g.L.Listener.none_does)
    here.connections)
    (swapped here.slots.held.items c.take.new.self.held.items c.put.new.self.held.items
    c.args.number c.in-Some.client c.in-Waits.client c.take.result c.take.ensures.taken
    c.in-Some.is c.take.ensures.left c.put.ensures)
    (λ slot holds. (slot, refl, c.in-Waits.ensures slot holds))

pub returns-clause-does : goal.returns-clause-does
returns-clause-does g c =
    let here = c.args.self.now in
    let so = λ (s : Waiting g.row.L.Denot g.row.L-Connection.Denot g.row.M.Denot).
    LeadsOn g.M.Memory.refused g.L.Connection.Connection.talks g.L.Connection.Connection.ends
    (counting g.L.Listener.does)
    here.connections here.slots.held.items [] s.connections s.slots.held.items in
    elim c.match-turn.branch [
      | in-GoesOn w ↦ subst so (sym w.self-is)
          (swaps_so g.M.Memory.refused g.L.Connection.Connection.talks
          g.L.Connection.Connection.ends (counting g.L.Listener.does)
          (counting_none g.L.Listener.does g.L.Listener.none_does)
          (counting_on g.L.Listener.does g.L.Listener.does_on) here.connections
          here.connections here.slots.held.items w.put-in-GoesOn.new.self.held.items
          c.args.number c.in-Some.client w.in-GoesOn.client []
          ((counting_none g.L.Listener.does g.L.Listener.none_does) here.connections)
          (swapped here.slots.held.items c.take.new.self.held.items
          w.put-in-GoesOn.new.self.held.items c.args.number c.in-Some.client w.in-GoesOn.client
          c.take.result c.take.ensures.taken c.in-Some.is c.take.ensures.left
          w.put-in-GoesOn.ensures)
          (λ slot holds. (slot, refl, w.in-GoesOn.ensures slot holds)))
      | in-Left w ↦ subst so (sym w.self-is)
          (leaves_so g.M.Memory.refused g.L.Connection.Connection.talks
          g.L.Connection.Connection.ends (counting g.L.Listener.does)
          (counting_none g.L.Listener.does g.L.Listener.none_does)
          (counting_on g.L.Listener.does g.L.Listener.does_on) here.connections
          w.close.new.self here.slots.held.items c.take.new.self.held.items
          c.args.number c.in-Some.client (closes w.in-Left.stream ∷ []) w.close.ensures
          (sym c.take.ensures.taken ∙ c.in-Some.is) c.take.ensures.left
          (λ slot holds. closes_so g.M.Memory.refused g.L.Connection.Connection.talks
          g.L.Connection.Connection.ends
          c.args.number slot w.in-Left.stream (w.in-Left.ensures slot holds)))
      | in-Failed w ↦ subst so (sym w.self-is)
          (leaves_so g.M.Memory.refused g.L.Connection.Connection.talks
          g.L.Connection.Connection.ends (counting g.L.Listener.does)
          (counting_none g.L.Listener.does g.L.Listener.none_does)
          (counting_on g.L.Listener.does g.L.Listener.does_on) here.connections
          w.close-in-Failed.new.self here.slots.held.items c.take.new.self.held.items
          c.args.number c.in-Some.client (closes w.in-Failed.stream ∷ [])
          w.close-in-Failed.ensures (sym c.take.ensures.taken ∙ c.in-Some.is)
          c.take.ensures.left
          (λ slot holds. closes_so g.M.Memory.refused g.L.Connection.Connection.talks
          g.L.Connection.Connection.ends
          c.args.number slot w.in-Failed.stream (w.in-Failed.ensures slot holds)))
    ]

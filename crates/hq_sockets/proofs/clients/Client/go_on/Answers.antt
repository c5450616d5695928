use Rattle.std.proofs.Common.{refl, subst, sym}
use Rattle.hq_sockets.specs.Clients.{IsAt}
use Rattle.hq_sockets.proofs.Turns.{IsSentUpTo, leaves_on, sends_on}
use Rattle.hq_sockets.proofs.clients.Client.go_on.Goals as goal

pub returns-in-Answered : goal.returns-in-Answered
returns-in-Answered g c = λ slot h.
    let bytes = c.in-Answered.bytes.items in
    sends_on g.M.Memory.refused g.C.Connection.talks g.C.Connection.ends slot c.args.self.stream
    c.args.self.phase
    bytes c.in-Answered.sent c.send.result h
    (subst (IsSentUpTo bytes c.in-Answered.sent) (sym c.in-Answered.is) (refl, refl))
    c.send.ensures

pub returns-in-Leaving : goal.returns-in-Leaving
returns-in-Leaving g c = λ slot h.
    leaves_on g.M.Memory.refused g.C.Connection.talks g.C.Connection.ends slot c.args.self.stream
    c.in-Leaving.left
    c.throw_away.result
    (subst (IsAt g.M.Memory.refused g.C.Connection.talks g.C.Connection.ends slot
    c.args.self.stream) c.in-Leaving.is h)
    c.throw_away.ensures

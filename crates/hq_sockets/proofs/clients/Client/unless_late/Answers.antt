use Rattle.std.proofs.Common.{subst, sym}
use Rattle.hq_sockets.proofs.Turns.{IsInNoRound, may_close}
use Rattle.hq_sockets.proofs.clients.Client.unless_late.Goals as goal

pub returns-in-Answered : goal.returns-in-Answered
returns-in-Answered g c = λ slot h.
    may_close g.M.Memory.refused g.C.Connection.talks g.C.Connection.ends slot c.args.self.stream
    c.args.self.phase h (subst IsInNoRound (sym c.in-Answered.is) tt)

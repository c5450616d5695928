use Rattle.std.proofs.Common.{subst, sym}
use Rattle.hq_sockets.specs.Clients.{AskedInput}
use Rattle.hq_sockets.specs.Slots.{AskedFirst}
use Rattle.hq_sockets.proofs.clients.asked.Goals as goal
use Rattle.hq_sockets.proofs.clients.asked.Goals.{in-Refused, in-NoRoom, in-Request}

pub returns : goal.returns
returns g c = λ first got talked asks.
    let so = AskedInput g.M.Memory.refused g.C.Connection.talks g.C.Connection.ends first got in
    let ask = AskedFirst g.M.Memory.refused g.C.Connection.talks g.C.Connection.ends first got in
    elim c.match-input.branch [
      | in-Refused w ↦ (got, talked, subst ask (sym w.asked-is) (subst so w.in-Refused.is asks))
      | in-NoRoom w ↦ (got, talked, subst ask (sym w.asked-is) (subst so w.in-NoRoom.is asks))
      | in-Request w ↦ (got, talked, subst ask (sym w.asked-is) (subst so w.in-Request.is asks))
    ]

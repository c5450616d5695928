use Rattle.std.proofs.Common.{◌≡◌, ◌∷◌, [], Some, subst}
use Rattle.hq_network.specs.Networks.{ended, listened}
use Rattle.hq_sockets.specs.declared.deadlines.Limits.{Limits}
use Rattle.hq_sql_server.specs.Listening.{limits_of}
use Rattle.hq_sql_server.proofs.Untold.{untold_so}
use Rattle.hq_sql_server.proofs.listening.listen.Goals as goal

pub returns-in-Err : goal.returns-in-Err
returns-in-Err g c =
    let text = c.args.given.now.listen.now in
    let limits = limits_of c.args.given.now in
    untold_so g.N.Network.does text limits c.args.network.now c.end.new.self
    (g.W.Write.contents c.args.output.now) (g.W.Write.contents c.tell_place.new.output)
    (c.tell_place.new.output ≡ c.args.output.now) c.in-Some.clients c.in-Some.place
    c.in-Some.ensures.place
    (g.N.Network.does_on c.args.network.now c.listen.new.self c.end.new.self
    (listened text limits (Some (c.in-Some.clients, c.in-Some.place)) ∷ []) (ended
    c.in-Some.clients ∷ [])
    (subst (λ (l : Limits). g.N.Network.does c.args.network.now
    (listened text l (Some (c.in-Some.clients, c.in-Some.place)) ∷ []) c.listen.new.self)
    c.limits.ensures
    c.in-Some.ensures.listened)
    c.end.ensures)
    c.in-Err.trouble c.in-Err.ensures

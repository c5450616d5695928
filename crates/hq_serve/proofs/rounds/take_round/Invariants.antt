use Rattle.std.proofs.Common.{◌≡◌, ◌≤◌}
use Rattle.hq_serve.specs.Taking.{Takes}
use Rattle.hq_serve.proofs.rounds.take_round.Given as goal

-- so far the round has those that were taken
abbrev pub invariant-loop : goal.invariant-loop
invariant-loop g l =
    Takes g.M.Memory.refused g.K.Clients.does g.L.Log.tells l.fn.clients l.clients l.fn.log l.log
    l.round
    × (l.round.taken ≤ l.counter)
    × (g.K.Clients.left l.clients ≡ g.K.Clients.left l.fn.clients)

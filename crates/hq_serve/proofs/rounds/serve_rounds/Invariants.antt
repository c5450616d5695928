use Rattle.std.proofs.Common.{◌+◌, ◌≤◌}
use Rattle.hq_desk.specs.Desks.{on}
use Rattle.hq_serve.proofs.InRounds.{RoundsDone}
use Rattle.hq_serve.proofs.rounds.serve_rounds.Given as goal

-- so far no more clients were taken than connections came, and the desk did their rounds
abbrev pub invariant-loop : goal.invariant-loop
invariant-loop g l =
    (l.done + g.K.Clients.left l.clients ≤ g.K.Clients.left l.fn.clients)
    × RoundsDone g.M.Memory.refused (on g.S.Shelf.sight) l.directory g.K.Clients.does
    g.L.Log.tells l.done l.fn.clients l.clients l.fn.log l.log l.fn.desk l.desk

use Rattle.std.proofs.Common.{◌≡◌, ℕ, None}
use Rattle.hq_sockets.specs.Held.{client_at}
use Rattle.hq_sockets.proofs.slots.Slots.new.Given as goal

-- all so far are free
abbrev pub invariant-loop : goal.invariant-loop
invariant-loop g l = (n : ℕ) → client_at l.held.items n ≡ None

-- Connections are counted one after another.
-- Inner: it serves proofs alone, and no promise rests on it.
use Rattle.std.proofs.Common.{◌≡◌, ◌+◌, ◌++◌, [], ◌∷◌, ℕ, List, refl, arith, ap, sym, ◌∙◌}
use Rattle.hq_sockets.specs.Listening.{accepted_in, counting}
use Rattle.hq_sockets.specs.Talks.{Listening, SocketEvent, accepted, closed}
use Rattle.hq_sockets.specs.declared.connections.Connections.{Connections}

pub accepted_on : {C : Type 0} (events more : List (SocketEvent C)) →
    accepted_in (events ++ more) ≡ accepted_in events + accepted_in more
accepted_on [] more = omega arith
accepted_on (accepted one ∷ events) more =
    let rest = accepted_on events more in omega (arith, rest)
accepted_on (closed one ∷ events) more = accepted_on events more

module _ {L C : Type 0} (does : Listening L C) where
  pub counting_none : ((state : L) → does state [] state) → (state : Connections L) →
      counting does state [] state
  counting_none none state = (none state.listener, omega arith)

  pub counting_on : ((old mid new : L) (events more : List (SocketEvent C)) →
      does old events mid → does mid more new → does old (events ++ more) new) →
      (old mid new : Connections L) (events more : List (SocketEvent C)) →
      counting does old events mid → counting does mid more new →
      counting does old (events ++ more) new
  counting_on on old mid new events more p q =
      let sum = accepted_on events more in
      let first = p.1 in
      let second = q.1 in (
        on old.listener mid.listener new.listener events more p.0 q.0,
        omega (arith, sum, first, second),
      )

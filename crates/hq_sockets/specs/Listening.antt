-- Connections that are still to come to a socket.
use Rattle.std.specs.Prelude.{◌≡◌, ◌<◌, ◌+◌, ◌∷◌, [], ℕ, List, Option, None, Some, Result, Ok, Err}
use Rattle.hq_sockets.specs.Talks.{Listening, SocketEvent, accepted, closed}
use Rattle.hq_sockets.specs.declared.connections.Connections.{Connections}

-- how many were accepted
abbrev pub accepted_in : {C : Type 0} → List (SocketEvent C) → ℕ
accepted_in [] = 0
accepted_in (accepted one ∷ events) = 1 + accepted_in events
accepted_in (closed one ∷ events) = accepted_in events

-- These were accepted and closed, and so many less are still to come as were accepted.
abbrev pub counting : {L C : Type 0} → Listening L C → Listening (Connections L) C
counting does old events new = does old.listener events new.listener
    × (accepted_in events + new.left ≡ old.left)

-- One that waits is accepted; or none waits, or no more are to come; or one could not be accepted.
abbrev pub Accepts : {L C E : Type 0} → Listening L C → Connections L → Connections L →
    Result (Option C) E → Type 0
Accepts does old new (Ok (Some one)) = (0 < old.left) × counting does old (accepted one ∷ []) new
Accepts does old new (Ok None) = counting does old [] new
Accepts does old new (Err error) = (0 < old.left) × counting does old [] new

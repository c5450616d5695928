-- The clients that slots hold, by their numbers.
use Rattle.std.specs.Prelude.{◌≡◌, ◌<◌, ◌⊎◌, ◌++◌, ℕ, List, Option, None, Some, length}
use Rattle.std.specs.Prelude.{slice_index_or, slice_set}
use Rattle.hq_serve.specs.Coming.{ClientEvent}
use Rattle.hq_sockets.specs.Clients.{IsIn}
use Rattle.hq_sockets.specs.Slots.{AllHappen, Happening, Slot, client_events, free, of_slot}
use Rattle.hq_sockets.specs.Slots.{socket_events}
use Rattle.hq_sockets.specs.Talks.{Listening, Talking}
use Rattle.hq_serve.specs.declared.coming.Asked.{Asked}
use Rattle.hq_sockets.specs.declared.clients.Client.{Client}
use Rattle.hq_sockets.specs.declared.clients.Phase.{Phase}
use Rattle.hq_sockets.specs.declared.clients.Phase.TheVariants as phase
use Rattle.std.specs.declared.alloc.Global.{Global}
use Rattle.std.specs.declared.vec.Vec.{Vec}

-- the client in the slot of a number; none where there is no such slot
abbrev pub client_at : {C : Type 0} → List (Option (Client C)) → ℕ → Option (Client C)
client_at held number = slice_index_or held number None

-- the slot of a number is there, and free
abbrev pub IsVacant : {C : Type 0} → List (Option (Client C)) → ℕ → Type 0
IsVacant held number = (number < length held) × (client_at held number ≡ None)

-- with this in the slot of a number
abbrev pub with_client : {C : Type 0} → List (Option (Client C)) → ℕ → Option (Client C) →
    List (Option (Client C))
with_client held number slot = slice_set held number slot

-- there is no client in the slot of a number, which stays free
abbrev pub Lacks : {C : Type 0} → List (Option (Client C)) → List (Option (Client C)) → ℕ → Type 0
Lacks old new number = (client_at old number ≡ None) × (new ≡ with_client old number None)

-- the client of a slot is taken out, and this one put there
abbrev pub Swaps : {C : Type 0} → List (Option (Client C)) → List (Option (Client C)) → ℕ →
    Client C → Client C → Type 0
Swaps old new number client other = (client_at old number ≡ Some client)
    × (new ≡ with_client (with_client old number None) number (Some other))

-- what was asked is taken, and is in the round then; or nothing was asked, and the phase stays
abbrev pub TakesAsked : Phase → Phase → Option Asked → Type 0
TakesAsked old new (Some it) = (old ≡ phase.Asked it) × (new ≡ phase.InRound)
TakesAsked old new None = new ≡ old

-- what the client of a slot asked is taken, and it is in the round; or nothing was asked, and it is
-- there as it was
abbrev pub HasTaken : {C : Type 0} → List (Option (Client C)) → List (Option (Client C)) → ℕ →
    Option Asked → Type 0
HasTaken {C} old new number asked = (Lacks old new number × (asked ≡ None))
    ⊎ ((client other : Client C) × Swaps old new number client other
    × TakesAsked client.phase other.phase asked × (other.stream ≡ client.stream))

-- a client that is in the round has its response, or none; any other goes on as it was
abbrev pub Replies : Option (Vec ℕ Global) → Phase → Phase → Type 0
Replies (Some bytes) phase.InRound new = new ≡ phase.Answered bytes 0
Replies None phase.InRound new = new ≡ phase.Unsent
Replies response old new = new ≡ old

abbrev pub HasResponse : {C : Type 0} → List (Option (Client C)) → List (Option (Client C)) → ℕ →
    Option (Vec ℕ Global) → Type 0
HasResponse {C} old new number response = Lacks old new number
    ⊎ ((client other : Client C) × Swaps old new number client other
    × Replies response client.phase other.phase × (other.stream ≡ client.stream))

-- the client of a slot has more time, and is as it was
abbrev pub IsLater : {C : Type 0} → List (Option (Client C)) → List (Option (Client C)) → ℕ → Type 0
IsLater {C} old new number = Lacks old new number
    ⊎ ((client other : Client C) × Swaps old new number client other
    × (other.phase ≡ client.phase) × (other.stream ≡ client.stream))

-- who is in a slot is there
abbrev pub Holds : {C : Type 0} → Type 0 → Talking C → (C → Type 0) → Slot C → Option (Client C) →
    Type 0
Holds no_memory talks ends slot None = slot ≡ free
Holds no_memory talks ends slot (Some client) = IsIn no_memory talks ends slot client

-- what happened in the slot of a number led to what it holds
abbrev pub HasHappened : {C : Type 0} → Type 0 → Talking C → (C → Type 0) → List (Happening C) →
    List (Option (Client C)) → ℕ → Type 0
HasHappened {C} no_memory talks ends events held number = (slot : Slot C)
    × AllHappen no_memory talks ends number free (of_slot number events) slot
    × Holds no_memory talks ends slot (client_at held number)

-- These events led from a listening socket of which nothing was accepted to what slots hold.
pub record IsHistory {L C : Type 0} (no_memory : Type 0) (talks : Talking C) (ends : C → Type 0)
    (does : Listening L C)
    (start now : L) (events : List (Happening C)) (held : List (Option (Client C))) : Type 0 where
  pub sockets : does start (socket_events events) now
  pub slots : (number : ℕ) → HasHappened no_memory talks ends events held number

-- whatever led to the one, these events of clients led on to the other
abbrev pub LeadsOn : {L C : Type 0} → Type 0 → Talking C → (C → Type 0) → Listening L C → L →
    List (Option (Client C)) → List ClientEvent → L → List (Option (Client C)) → Type 0
LeadsOn {L} {C} no_memory talks ends does old held clients new held' = (start : L)
    (events : List (Happening C)) → IsHistory no_memory talks ends does start old events held →
    (more : List (Happening C))
    × IsHistory no_memory talks ends does start new (events ++ more) held'
    × (client_events more ≡ clients)

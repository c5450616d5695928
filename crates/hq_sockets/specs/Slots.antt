-- The slots of a server, each with one client after another: which connection it is, what came of
-- it, and what was sent to it.
use Rattle.std.specs.Prelude.{◌≡◌, ◌⊎◌, ◌==◌, if◌then◌else◌, ℕ, List, [], ◌∷◌, ◌++◌, flat_map}
use Rattle.hq_http.specs.Requests.{Determines, RequestOf, refused, request}
use Rattle.hq_http.specs.Stages.{request_seen}
use Rattle.hq_serve.specs.Coming.{ClientEvent, Sent, came, sent}
use Rattle.hq_serve.specs.declared.coming.Asked.{Asked}
use Rattle.hq_serve.specs.declared.coming.Asked.TheVariants as asked
use Rattle.hq_serve.specs.declared.coming.Came.{Came}
use Rattle.hq_sockets.specs.Talks.{Listening, SocketEvent, Talking, accepted, closed}

-- what happens in a slot: a connection is accepted; what came over it is taken; it is sent a
-- response; it is closed
pub data SlotEvent (C : Type 0) : Type 0 where
  accepts : C → SlotEvent C
  takes : Came → SlotEvent C
  sends : Sent → SlotEvent C
  closes : C → SlotEvent C

-- who is in a slot: nobody; a client of which nothing was taken; one of which this was taken; and
-- one that is to have this response to it. Each is the connection as it was accepted.
pub data Slot (C : Type 0) : Type 0 where
  free : Slot C
  asking : C → Slot C
  taken : C → Came → Slot C
  told : C → Came → List ℕ → Slot C

-- ---- one client

-- These bytes ask this, whatever follows; or no more came, and they are refused so; or there was no
-- room for them, since memory was refused.
abbrev pub AskedBy : Type 0 → Type 0 → List ℕ → Asked → Type 0
AskedBy no_memory no_more bytes (asked.Refused why) = Determines bytes (refused why)
    ⊎ (RequestOf bytes (refused why) × no_more)
AskedBy no_memory no_more bytes asked.NoRoom = no_memory
AskedBy no_memory no_more bytes (asked.Request q) = Determines bytes (request (request_seen q))

-- The first of the bytes that came over a connection ask this. No more came if its client ended its
-- side behind them.
abbrev pub AskedFirst : {C : Type 0} → Type 0 → Talking C → (C → Type 0) → C → List ℕ → Asked →
    Type 0
AskedFirst {C} no_memory talks ends first bytes it = (part rest : List ℕ) × (bytes ≡ part ++ rest)
    × AskedBy no_memory ((now : C) × talks first part [] now × ends now) part it

-- What came over the connection of a slot, and was sent over it, from its acceptance up to now.
-- What was taken of it is what its own bytes ask. Nothing is sent before its response, and then the
-- response or a beginning of it, and nothing else.
abbrev pub HasConversed : {C : Type 0} → Type 0 → Talking C → (C → Type 0) → Slot C → C → Type 0
HasConversed no_memory talks ends free now = ⊥
HasConversed no_memory talks ends (asking first) now = (got : List ℕ) × talks first got [] now
HasConversed no_memory talks ends (taken first one) now = (got : List ℕ) × talks first got [] now
    × AskedFirst no_memory talks ends first got one.asked
HasConversed no_memory talks ends (told first one response) now = (got gave rest : List ℕ)
    × talks first got gave now × AskedFirst no_memory talks ends first got one.asked
    × (response ≡ gave ++ rest)

-- ---- one slot

-- Who is closed: nobody whose response is still to come.
abbrev pub MayClose : {C : Type 0} → Type 0 → Talking C → (C → Type 0) → Slot C → C → Type 0
MayClose no_memory talks ends (taken first one) now = ⊥
MayClose no_memory talks ends slot now = HasConversed no_memory talks ends slot now

-- What happens in the slot of a number. A response to a client of which nothing was taken, or that
-- has one already, is none: nothing of it is sent.
abbrev pub Happens : {C : Type 0} → Type 0 → Talking C → (C → Type 0) → ℕ → Slot C → SlotEvent C →
    Slot C → Type 0
Happens no_memory talks ends number free (accepts one) new = new ≡ asking one
Happens no_memory talks ends number (asking first) (takes one) new = (one.client ≡ number)
    × (new ≡ taken first one)
Happens no_memory talks ends number (taken first one) (sends it) new = (it.client ≡ number)
    × (new ≡ told first one it.response)
Happens no_memory talks ends number old (sends it) new = (it.client ≡ number) × (new ≡ old)
Happens no_memory talks ends number old (closes now) new = MayClose no_memory talks ends old now
    × (new ≡ free)
Happens no_memory talks ends number old event new = ⊥

-- one after another
abbrev pub AllHappen : {C : Type 0} → Type 0 → Talking C → (C → Type 0) → ℕ → Slot C → List
    (SlotEvent C) →
    Slot C → Type 0
AllHappen no_memory talks ends number old [] new = new ≡ old
AllHappen {C} no_memory talks ends number old (event ∷ events) new = (next : Slot C)
    × Happens no_memory talks ends number old event next
    × AllHappen no_memory talks ends number next events new

-- ---- all slots

-- an event, in the slot of a number
pub record Happening (C : Type 0) : Type 0 where
  pub number : ℕ
  pub event : SlotEvent C

abbrev pub if_of : {C : Type 0} → ℕ → Happening C → List (SlotEvent C)
if_of number it = if it.number == number then it.event ∷ [] else []

-- those of one slot
abbrev pub of_slot : {C : Type 0} → ℕ → List (Happening C) → List (SlotEvent C)
of_slot number = flat_map (if_of number)

-- what the clients of a server are told of it
abbrev pub client_event : {C : Type 0} → SlotEvent C → List ClientEvent
client_event (accepts one) = []
client_event (takes one) = came one ∷ []
client_event (sends it) = sent it ∷ []
client_event (closes one) = []

abbrev pub client_events : {C : Type 0} → List (Happening C) → List ClientEvent
client_events = flat_map (λ it. client_event it.event)

-- what the listening socket is asked for it
abbrev pub socket_event : {C : Type 0} → SlotEvent C → List (SocketEvent C)
socket_event (accepts one) = accepted one ∷ []
socket_event (takes one) = []
socket_event (sends it) = []
socket_event (closes one) = closed one ∷ []

abbrev pub socket_events : {C : Type 0} → List (Happening C) → List (SocketEvent C)
socket_events = flat_map (λ it. socket_event it.event)

-- who is in a slot now is served so far
abbrev pub IsServedNow : {C : Type 0} → Type 0 → Talking C → (C → Type 0) → Slot C → Type 0
IsServedNow {C} no_memory talks ends slot = (slot ≡ free)
    ⊎ ((now : C) × HasConversed no_memory talks ends slot now)

-- The events of clients are those that happened in the slots, for which the listening socket
-- accepted and closed connections, and no others. In each slot one client after another was served,
-- up to the one that is there now.
pub record ServesClients {L C : Type 0} (no_memory : Type 0) (talks : Talking C) (ends : C → Type 0)
    (does : Listening L C) (start now : L) (events : List ClientEvent) : Type 0 where
  pub happened : List (Happening C)
  pub clients : client_events happened ≡ events
  pub sockets : does start (socket_events happened) now
  pub slots : (number : ℕ) → (slot : Slot C)
      × AllHappen no_memory talks ends number free (of_slot number happened) slot
      × IsServedNow no_memory talks ends slot

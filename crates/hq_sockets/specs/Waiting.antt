-- The clients of a listening socket, from one state to another.
use Rattle.std.specs.Prelude.{List, []}
use Rattle.hq_serve.specs.Coming.{ClientEvent}
use Rattle.hq_sockets.specs.Held.{IsHistory, LeadsOn}
use Rattle.hq_sockets.specs.Listening.{counting}
use Rattle.hq_sockets.specs.Talks.{Listening, Talking}
use Rattle.hq_sockets.specs.declared.connections.Connections.{Connections}
use Rattle.hq_sockets.specs.declared.waiting.Waiting.{Waiting}

abbrev pub waiting_does : {L C M : Type 0} → Type 0 → Talking C → (C → Type 0) → Listening L C →
    Waiting L C M →
    List ClientEvent → Waiting L C M → Type 0
waiting_does no_memory talks ends does old events new = LeadsOn no_memory talks ends
    (counting does) old.connections old.slots.held.items events new.connections
    new.slots.held.items

-- nobody came yet to connections that are to come
abbrev pub waiting_begins_at : {L C M : Type 0} → Type 0 → Talking C → (C → Type 0) →
    Listening L C → Connections L → Waiting L C M → Type 0
waiting_begins_at no_memory talks ends does start now = IsHistory no_memory talks ends
    (counting does) start now.connections [] now.slots.held.items

-- to some
abbrev pub waiting_begins : {L C M : Type 0} → Type 0 → Talking C → (C → Type 0) → Listening L C →
    Waiting L C M → Type 0
waiting_begins {L} no_memory talks ends does now = (start : Connections L)
    × waiting_begins_at no_memory talks ends does start now

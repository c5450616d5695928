-- One client in its slot, as the code holds it.
use Rattle.std.specs.Prelude.{◌≡◌, ◌≤◌, ⊤, ℕ, List, [], length, take}
use Rattle.hq_http.specs.Gathered.{IsGathered}
use Rattle.hq_http.specs.declared.reading.Input.{Input}
use Rattle.hq_http.specs.declared.reading.Input.TheVariants as input
use Rattle.hq_serve.specs.declared.coming.Asked.TheVariants as asked
use Rattle.hq_sockets.specs.Slots.{Slot, AskedFirst, MayClose, asking, taken, told}
use Rattle.hq_sockets.specs.Talks.{Talking}
use Rattle.hq_sockets.specs.declared.clients.Client.{Client}
use Rattle.hq_sockets.specs.declared.clients.Phase.{Phase}
use Rattle.hq_sockets.specs.declared.clients.Phase.TheVariants.{Asking, Asked, InRound, Unsent}
use Rattle.hq_sockets.specs.declared.clients.Phase.TheVariants.{Answered, Leaving}
use Rattle.hq_sockets.specs.declared.clients.Turned.{Turned}
use Rattle.hq_sockets.specs.declared.clients.Turned.TheVariants.{Waits, GoesOn, Left, Failed}

-- how far the client of a slot has come
abbrev pub IsAt : {C : Type 0} → Type 0 → Talking C → (C → Type 0) → Slot C → C → Phase → Type 0
IsAt no_memory talks ends (asking first) now (Asking gathering) = (got : List ℕ)
    × talks first got [] now × IsGathered got gathering
IsAt no_memory talks ends (asking first) now (Asked it) = (got : List ℕ) × talks first got [] now
    × AskedFirst no_memory talks ends first got it
IsAt no_memory talks ends (taken first one) now InRound = (got : List ℕ) × talks first got [] now
    × AskedFirst no_memory talks ends first got one.asked
IsAt no_memory talks ends (told first one response) now (Answered bytes count) = (got : List ℕ)
    × talks first got (take count response) now × AskedFirst no_memory talks ends first got
    one.asked
    × (bytes.items ≡ response) × (count ≤ length response)
IsAt no_memory talks ends (told first one response) now (Leaving left) = (got : List ℕ)
    × talks first got response now × AskedFirst no_memory talks ends first got one.asked
IsAt no_memory talks ends (told first one response) now Unsent = (got : List ℕ)
    × talks first got [] now × AskedFirst no_memory talks ends first got one.asked
IsAt no_memory talks ends _ now _ = ⊥

abbrev pub IsIn : {C : Type 0} → Type 0 → Talking C → (C → Type 0) → Slot C → Client C → Type 0
IsIn no_memory talks ends slot client = IsAt no_memory talks ends slot client.stream client.phase

-- it stays in its slot, or its connection is to be closed
abbrev pub TurnsTo : {C : Type 0} → Type 0 → Talking C → (C → Type 0) → Slot C → Turned C → Type 0
TurnsTo no_memory talks ends slot (Waits client) = IsIn no_memory talks ends slot client
TurnsTo no_memory talks ends slot (GoesOn client) = IsIn no_memory talks ends slot client
TurnsTo no_memory talks ends slot (Left stream) = MayClose no_memory talks ends slot stream
TurnsTo no_memory talks ends slot (Failed stream why) = MayClose no_memory talks ends slot stream

-- what bytes ask, if they ask something
abbrev pub AskedInput : {C : Type 0} → Type 0 → Talking C → (C → Type 0) → C → List ℕ → Input →
    Type 0
AskedInput no_memory talks ends first got input.Nothing = ⊤
AskedInput no_memory talks ends first got (input.Refused why) =
    AskedFirst no_memory talks ends first got (asked.Refused why)
AskedInput no_memory talks ends first got input.NoRoom =
    AskedFirst no_memory talks ends first got asked.NoRoom
AskedInput no_memory talks ends first got (input.Request q) =
    AskedFirst no_memory talks ends first got (asked.Request q)

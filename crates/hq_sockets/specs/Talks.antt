-- What comes over connections, and what is sent over them.
use Rattle.std.specs.Prelude.{◌≡◌, ◌<◌, ◌≤◌, ℕ, List, [], ◌∷◌, length, take, Result, Ok, Err}

-- from one state of a connection to another these bytes came, and these were sent
abbrev pub Talking : Type 0 → Type 1
Talking C = C → List ℕ → List ℕ → C → Type 0

-- A read gives so many bytes, which came first into the chunk; one that fails gives none. None is
-- given to a chunk that has room only where the client ended its side.
abbrev pub GivesBytes : {C E : Type 0} → Talking C → (C → Type 0) → C → C → List ℕ → Result ℕ E →
    Type 0
GivesBytes talks ends old new chunk (Ok count) = (count ≤ length chunk)
    × talks old (take count chunk) [] new × (count ≡ 0 → 0 < length chunk → ends new)
GivesBytes talks ends old new chunk (Err error) = talks old [] [] new

-- a write takes the first so many bytes; one that fails takes none
abbrev pub TakesBytes : {C E : Type 0} → Talking C → C → C → List ℕ → Result ℕ E → Type 0
TakesBytes talks old new bytes (Ok count) = (count ≤ length bytes)
    × talks old [] (take count bytes) new
TakesBytes talks old new bytes (Err error) = talks old [] [] new

-- what happens to a listening socket
pub data SocketEvent (C : Type 0) : Type 0 where
  accepted : C → SocketEvent C
  closed : C → SocketEvent C

-- from one state of a listening socket to another these were accepted and closed, in this order
abbrev pub Listening : Type 0 → Type 0 → Type 1
Listening L C = L → List (SocketEvent C) → L → Type 0

-- one was accepted, or none was
abbrev pub OnAccepted : {L C E : Type 0} → Listening L C → L → L → Result C E → Type 0
OnAccepted does old new (Ok one) = does old (accepted one ∷ []) new
OnAccepted does old new (Err error) = does old [] new

-- One attempt at a socket that never waits.
-- Inner: it serves proofs alone, and no promise rests on it.
use Rattle.std.specs.Prelude.{◌≤◌, ◌<◌, ⊤, ℕ, List, [], length, take}
use Rattle.hq_sockets.specs.Talks.{Talking}
use Rattle.hq_sockets.specs.declared.tries.Tried.{Tried}
use Rattle.hq_sockets.specs.declared.tries.Tried.TheVariants.{Bytes, Closed}

-- so many bytes came first into the chunk, and some; or the client ended its side; or none came
abbrev pub HasRead : {C : Type 0} → Talking C → (C → Type 0) → C → C → List ℕ → Tried → Type 0
HasRead talks ends old new chunk (Bytes count) = (0 < count) × (count ≤ length chunk)
    × talks old (take count chunk) [] new
HasRead talks ends old new chunk Closed = talks old [] [] new × ends new
HasRead talks ends old new chunk _ = talks old [] [] new

-- the first so many bytes were sent, and some; or none was
abbrev pub HasWritten : {C : Type 0} → Talking C → C → C → List ℕ → Tried → Type 0
HasWritten talks old new bytes (Bytes count) = (0 < count) × (count ≤ length bytes)
    × talks old [] (take count bytes) new
HasWritten talks old new bytes _ = talks old [] [] new

-- a signal came, or it would have waited, or it failed
abbrev pub IsFailure : Tried → Type 0
IsFailure (Bytes count) = ⊥
IsFailure Closed = ⊥
IsFailure _ = ⊤

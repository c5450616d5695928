-- What a write did that may have failed.
use Rattle.std.specs.Prelude.{ℕ, List, take, Option, Result, ⊤, MatchResult}
use Rattle.std.specs.Io.KnownBytes.{Appends}

-- a beginning of the bytes was appended: none of them, some, or all
abbrev pub AppendsPart : Option (List ℕ) → Option (List ℕ) → List ℕ → Type 0
AppendsPart old new bytes = (size : ℕ) × Appends old new (take size bytes)

-- All the bytes were appended; or, at an error, a beginning of them.
abbrev pub GoesOut : {E : Type 0} → Option (List ℕ) → Option (List ℕ) → List ℕ → Result ⊤ E → Type 0
GoesOut old new bytes result = MatchResult result (λ _. Appends old new bytes)
    (λ _. AppendsPart old new bytes)

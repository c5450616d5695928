-- What a call made, or why it made nothing.
use Rattle.std.specs.Prelude.{Result, Ok, Err}

-- a call made a value that is so; or it made none, for this reason
abbrev pub MadeIn : {A E : Type 0} → Type 0 → Result A E → (A → Type 0) → Type 0
MadeIn refused (Ok x) P = P x
MadeIn refused (Err e) P = refused

-- Why a call of the store on `sqlite` ends in an error.
-- Inner: it serves proofs alone, and no promise rests on it.
use Rattle.std.specs.Prelude.{Result, Ok, Err}
use Rattle.sqlite.specs.declared.error.Error.{Error}
use Rattle.sqlite.specs.declared.error.Error.TheVariants.{SqliteFailure}
use Rattle.sqlite.specs.declared.error.ErrorCode.TheVariants.{OutOfMemory}

-- want of memory, since memory was refused; any other error, since the store failed
abbrev pub HasCause : Type 0 → Type 0 → Error → Type 0
HasCause refused failed (SqliteFailure OutOfMemory) = refused
HasCause refused failed _ = failed

-- a call ended in a value that is so, or in an error that has this cause
abbrev pub EndsSo : {A : Type 0} → Type 0 → Type 0 → Result A Error → (A → Type 0) → Type 0
EndsSo refused failed (Ok value) P = P value
EndsSo refused failed (Err error) P = HasCause refused failed error

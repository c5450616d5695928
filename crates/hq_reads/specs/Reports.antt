-- The last of a page of messages. No claim rests on it.
-- Inner: it serves proofs alone, and no promise rests on it.
use Rattle.std.specs.Prelude.{ℕ, nat_lt, List, [], ◌∷◌, length, Option, None, Some, if◌then◌else◌}
use Rattle.hq_kept.specs.declared.message.Message.{Message}

abbrev pub last_serial : List Message → Option ℕ
last_serial [] = None
last_serial (m ∷ []) = Some m.serial
last_serial (m ∷ n ∷ ms) = last_serial (n ∷ ms)

-- behind which to go on, where there are more than a page of them
abbrev pub next_serial : List Message → Option ℕ
next_serial ms = if nat_lt 100 (length ms) then last_serial ms else None

-- The limit that bodies and files have in common.
use Rattle.std.specs.Prelude.{ℕ}

-- the most bytes of the body of a request, and of a file that is read
abbrev pub most_bytes : ℕ
most_bytes = 262144

-- Moments are whole seconds since 1970-01-01T00:00:00Z.
use Rattle.std.specs.Prelude.{ℕ, min}

-- the last second of the year 2099
abbrev pub last_moment : ℕ
last_moment = 4102444799

-- the moment of so many seconds, or the last one where they are past it
abbrev pub no_later : ℕ → ℕ
no_later seconds = min seconds last_moment

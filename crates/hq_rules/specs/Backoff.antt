-- When a message is tried next: qmgr(8) waits as long as a message is old, from
-- minimal_backoff_time up to maximal_backoff_time.
use Rattle.std.specs.Prelude.{ℕ, ◌+◌, ◌-◌, min, max}
use Rattle.hq_values.specs.Moments.{no_later}

-- seconds since the arrival; 0 at a moment before it
abbrev pub age : ℕ → ℕ → ℕ
age arrival at = at - arrival

-- in seconds (Postfix's default of minimal_backoff_time, 300s)
abbrev pub shortest_wait : ℕ
shortest_wait = 300

-- in seconds (Postfix's default of maximal_backoff_time, 4000s)
abbrev pub longest_wait : ℕ
longest_wait = 4000

-- after an attempt a message waits as long as it is old, within these; no moment is past the last
-- one
abbrev pub next_try : ℕ → ℕ → ℕ
next_try arrival at = no_later (at + min longest_wait (max shortest_wait (age arrival at)))

-- What is done with the logs that words name.
use Rattle.std.specs.Prelude.{ℕ, List, Option}

-- the log of this name was opened, or one that keeps nothing where there is no name; and a log was
-- closed, as it was then
pub data LogEvent (L : Type 0) : Type 0 where
  log_opened : Option (List ℕ) → L → LogEvent L
  log_closed : L → LogEvent L

-- from one state of all logs to another this was done, in this order, and nothing else
abbrev pub Logging : Type 0 → Type 0 → Type 1
Logging G L = G → List (LogEvent L) → G → Type 0

-- What is done to the file of a log, for the exchanges that the log is told.
use Rattle.std.specs.Prelude.{◌≡◌, ◌⊎◌, ⊤, ℕ, Bool, true, false, List, [], ◌∷◌, Option, Result}
use Rattle.std.specs.Prelude.{Ok, Err}
use Rattle.hq_log.specs.Lines.{LogEntry, log_line_after}

-- these bytes were appended; or that failed, and a part of them may be there
pub data FileEvent : Type 0 where
  appended : List ℕ → FileEvent
  failed : List ℕ → FileEvent

abbrev pub appending : {E : Type 0} → List ℕ → Result ⊤ E → FileEvent
appending bytes (Ok _) = appended bytes
appending bytes (Err _) = failed bytes

-- from one state of a file to another this was done, in this order, and nothing else
abbrev pub Appending : Type 0 → Type 1
Appending F = F → List FileEvent → F → Type 0

-- A log of lines: its file, and whether the last line was lost.
pub record LineState (F : Type 0) : Type 0 where
  pub file : F
  pub is_losing : Bool

abbrev pub line_state : {F : Type 0} → F → Bool → LineState F
line_state file is_losing = record { file = file; is_losing = is_losing }

module _ {F : Type 0} (does : Appending F) where
  -- A line is appended. Or it is lost: that failed, or there was no memory for it, and nothing was
  -- done to the file.
  abbrev pub LineEnds : LineState F → LogEntry → F → Bool → Type 0
  LineEnds old e file false = (milliseconds : Option ℕ)
      × does old.file (appended (log_line_after old.is_losing e milliseconds) ∷ []) file
  LineEnds old e file true = ((milliseconds : Option ℕ)
      × does old.file (failed (log_line_after old.is_losing e milliseconds) ∷ []) file)
      ⊎ (file ≡ old.file)

  -- each exchange has its line, or that is lost, in order
  abbrev pub AppendsLines : LineState F → List LogEntry → LineState F → Type 0
  AppendsLines old [] new = new ≡ old
  AppendsLines old (e ∷ told) new = (next : LineState F) × LineEnds old e next.file next.is_losing
      × AppendsLines next told new

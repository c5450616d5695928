-- What a run of a program does, however it ends.
use Rattle.std.specs.Prelude.{◌≡◌, ⊤, ℕ, List, Option, Result, Ok, Err}
use Rattle.hq_wire.specs.Exchanges.{with_refusals}
use Rattle.hq_tables.specs.Shelves.{Sight}
use Rattle.hq_desk.specs.Desks.{host_of, on, shelf_of}
use Rattle.hq_desk.specs.declared.desk.Desk.{Desk}
use Rattle.hq_log.specs.Entries.{Telling}
use Rattle.hq_settings.specs.declared.settings.Settings.{Settings}
use Rattle.hq_lines.specs.Ends.{InputEnds, RoundsEnd}
use Rattle.hq_lines.specs.Fields.{LineRequest}
use Rattle.hq_lines.specs.Lines.{Streams}
use Rattle.hq_values.specs.declared.engine.EngineFault.{EngineFault}
use Rattle.hq_batch.specs.Batches.{Replied}
use Rattle.hq_batch.specs.InRounds.{RepliedInRounds}
use Rattle.hq_settings.specs.Troubles.{trouble_of}
use Rattle.hq_settings.specs.declared.trouble.Trouble.{Trouble}

-- What lines ask for is replied to as a batch of the customers of these settings, with a desk over
-- this shelf, by a memory that may have refused; and the log is told.
pub record ServesOver {S L : Type 0} (refused : Type 0) (sight : Sight S) (settings : Settings)
    (tells : Telling L) (log_old log_new : L) (shelf : S) (asked : List (Option LineRequest))
    (lines : List (List ℕ)) : Type 0 where
  pub old : Desk S
  pub host_is : host_of old ≡ settings.host
  pub shelf_is : shelf_of old ≡ shelf
  pub new : Desk S
  pub replied : Replied (with_refusals refused (on sight)) settings.directory tells log_old log_new
      old asked lines new

-- how a run ends: as a batch does, with a fault of it told
abbrev pub RunEnds : (List (Option LineRequest) → List (List ℕ) → Type 0) → Type 0 → Streams →
    Streams → Result ⊤ Trouble → Type 0
RunEnds done untouched old new (Ok _) = InputEnds done ⊥ old new (Ok tt)
RunEnds done untouched old new (Err trouble) = (fault : EngineFault) × (trouble ≡ trouble_of fault)
    × InputEnds done untouched old new (Err fault)

-- ---- in rounds

-- What lines ask for is replied to in rounds, as a batch of the customers of these settings, with a
-- desk over this shelf, by a memory that may have refused. The log is told, and `left` is the shelf
-- after it.
pub record ServesInRounds {S L : Type 0} (refused : Type 0) (sight : Sight S) (settings : Settings)
    (tells : Telling L) (log_old log_new : L) (shelf left : S)
    (asked : List (List (Option LineRequest))) (lines : List (List (List ℕ))) : Type 0 where
  pub old : Desk S
  pub host_is : host_of old ≡ settings.host
  pub shelf_is : shelf_of old ≡ shelf
  pub new : Desk S
  pub left_is : shelf_of new ≡ left
  pub replied : RepliedInRounds (with_refusals refused (on sight)) settings.directory tells
      log_old log_new old asked lines new

-- how a run in rounds ends
abbrev pub RoundsRunEnd : (List (List (Option LineRequest)) → List (List (List ℕ)) → Type 0) →
    Type 0 → Streams → Streams → Result ⊤ Trouble → Type 0
RoundsRunEnd done untouched old new (Ok _) = RoundsEnd done ⊥ old new (Ok tt)
RoundsRunEnd done untouched old new (Err trouble) = (fault : EngineFault)
    × (trouble ≡ trouble_of fault) × RoundsEnd done untouched old new (Err fault)

-- ---- the exit status

-- the exit status of a run
abbrev pub status : Result ⊤ Trouble → ℕ
status (Ok _) = 0
status (Err _) = 1

-- A run ends so, and the program with the status of this end.
pub record Exits (ends : Result ⊤ Trouble → Type 0) (exit_status : ℕ) : Type 0 where
  pub end : Result ⊤ Trouble
  pub ends_so : ends end
  pub status_is : exit_status ≡ status end

-- What a batch of the program does over a store of `sqlite`, however it ends.
use Rattle.std.specs.Global.{Global}
use Rattle.std.specs.Prelude.{◌≡◌, ⊤, ℕ, false, List, map, Option, None, Some, Result, Err}
use Rattle.sqlite.specs.Held.{state}
use Rattle.sqlite.specs.Steps.{over_memory}
use Rattle.sqlite_trees.specs.declared.memory.MemStore.{MemStore}
use Rattle.hq_values.specs.declared.failure.Fail.TheVariants.{Fault as AsFault}
use Rattle.hq_values.specs.declared.failure.Fault.{Fault}
use Rattle.hq_tables.specs.Shelves.{Sight}
use Rattle.hq_tables.specs.Tables.{no_tables}
use Rattle.hq_sql_shelf.specs.Opened.{OverMemory}
use Rattle.hq_sql_shelf.specs.Stores.{Doing, OverStore}
use Rattle.hq_sql_shelf.specs.Shelf.{sight_over}
use Rattle.hq_sql_shelf.specs.declared.shelf.SqlShelf.{SqlShelf}
use Rattle.hq_log.specs.Entries.{Telling}
use Rattle.hq_desk.specs.Desks.{on}
use Rattle.hq_desk.specs.declared.desk.Desk.{Desk}
use Rattle.hq_settings.specs.declared.settings.Settings.{Settings}
use Rattle.hq_wire.specs.Exchanges.{Ask, with_refusals}
use Rattle.hq_wire.specs.Replies.{SeenReply}
use Rattle.hq_wire.specs.Runs.{AllReplied, Alone}
use Rattle.hq_lines.specs.Fields.{LineRequest}
use Rattle.hq_lines.specs.Lines.{Streams}
use Rattle.hq_batch.specs.Batches.{ask_in}
use Rattle.hq_batch.specs.Runs.{RoundsRunEnd, RunEnds, ServesInRounds, ServesOver}
use Rattle.hq_settings.specs.declared.trouble.Trouble.{Trouble}
use Rattle.hq_settings.specs.declared.trouble.Trouble.TheVariants.{Desk as OfDesk}

-- the store could not be opened: nothing is read or written, and its fault is told
abbrev pub IsUnopened : Type 0 → Fault → Result ⊤ Trouble → Type 0
IsUnopened untouched fault result = untouched × (result ≡ Err (OfDesk (AsFault fault)))

-- How a batch ends over the store of a path, which is left as the last round left it: its lines are
-- those of a batch in rounds over it, and the log is told of them; or it could not be opened.
abbrev pub BatchStoreEnds : {L K S : Type 0} → Telling L → L → L → Sight S → Doing K S → List ℕ →
    K → K → Settings → Type 0 → Streams → Streams → Result ⊤ Trouble → Type 0
BatchStoreEnds tells log_old log_new sight does path stores_old stores_new settings untouched old
    new result = OverStore sight does path stores_old stores_new
    (λ shelf left. RoundsRunEnd
    (ServesInRounds ⊤ sight settings tells log_old log_new shelf left)
    (untouched × (left ≡ shelf)) old new result)
    (λ fault. IsUnopened untouched fault result)

-- ---- in memory

abbrev pub memory : Sight (SqlShelf MemStore Global)
memory = sight_over ⊤ ⊤ (state over_memory)

-- What was asked of a desk from empty tables, and replied to: where its store was not closed, each
-- was replied to as its exchange is, and to each customer the desk is its own.
pub record FromEmpty (settings : Settings) (asks : List Ask) (replies : List SeenReply)
    (new : Desk (SqlShelf MemStore Global)) : Type 0 where
  pub replied : (on memory).store.is_closed new ≡ false
      → AllReplied (with_refusals ⊤ (on memory)).store.may_answer settings.host settings.directory
      no_tables asks replies
      ((on memory).store.tables new)
  pub alone : (on memory).store.is_closed new ≡ false
      → Alone settings.host settings.directory asks replies no_tables ((on memory).store.tables new)

-- Lines are replied to as a batch of these customers over a shelf in memory, which began with empty
-- tables.
pub record ServesFromEmpty {L : Type 0} (tells : Telling L) (log_old log_new : L)
    (settings : Settings) (asked : List (Option LineRequest)) (lines : List (List ℕ)) : Type 0 where
  pub shelf : SqlShelf MemStore Global
  pub over : ServesOver ⊤ memory settings tells log_old log_new shelf asked lines
  pub from_empty : FromEmpty settings (map (ask_in settings.directory) asked) over.replied.0
      over.new

abbrev pub MemoryEnds : {L : Type 0} → Telling L → L → L → Settings → Type 0 → Streams → Streams →
    Result ⊤ Trouble → Type 0
MemoryEnds tells log_old log_new settings untouched old new result = OverMemory
    (RunEnds (ServesFromEmpty tells log_old log_new settings) untouched old new result)
    (λ fault. IsUnopened untouched fault result)

-- ---- in memory, or over the store of a path

-- Without a path the store is in memory, and nothing is done to any other.
abbrev pub StoreEnds : {L K S : Type 0} → Telling L → L → L → Sight S → Doing K S →
    Option (List ℕ) → K → K → Settings → Type 0 → Streams → Streams → Result ⊤ Trouble → Type 0
StoreEnds tells log_old log_new sight does None stores_old stores_new settings untouched old new
    result = MemoryEnds tells log_old log_new settings untouched old new result
    × (stores_new ≡ stores_old)
StoreEnds tells log_old log_new sight does (Some path) stores_old stores_new settings untouched old
    new result = BatchStoreEnds tells log_old log_new sight does path stores_old stores_new settings
    untouched old new result

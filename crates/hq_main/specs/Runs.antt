-- What the program does: with lines of the built-in customers, from an empty desk in memory; with
-- lines, or connections, of those of a directory; and with its words.
use Rattle.std.specs.Prelude.{◌≡◌, ◌≤◌, ⊤, ℕ, [], ◌∷◌, List, map, Option, option_map, Result, Ok}
use Rattle.std.specs.Prelude.{Err, ◌⊎◌, IfOk, string_bytes}
use Rattle.std.specs.Io.KnownBytes.{Appends}
use Rattle.std.specs.declared.alloc.AllocError.{AllocError}
use Rattle.hq_values.specs.Refusals.{no_memory}
use Rattle.hq_values.specs.declared.failure.Fault.{Fault}
use Rattle.hq_tables.specs.Shelves.{Sight}
use Rattle.hq_tables.specs.Tables.{Tables, no_tables}
use Rattle.hq_log.specs.Entries.{Telling}
use Rattle.hq_log.specs.Logs.{Logging, log_closed, log_opened}
use Rattle.hq_wire.specs.Replies.{SeenReply, store_faults}
use Rattle.hq_wire.specs.Runs.{AllReplied, Alone}
use Rattle.hq_settings.specs.Seen.{settings_seen}
use Rattle.hq_settings.specs.declared.settings.Settings.{Settings}
use Rattle.hq_rules.specs.declared.render.Rendered.{Rendered}
use Rattle.hq_lines.specs.Fields.{LineRequest}
use Rattle.hq_lines.specs.Lines.{Streams}
use Rattle.hq_batch.specs.Batches.{ask_in, reply_line}
use Rattle.hq_settings.specs.Builtin.{settings}
use Rattle.hq_batch.specs.Runs.{RunEnds, Exits}
use Rattle.hq_settings.specs.SettingUp.{SetsUp}
use Rattle.hq_settings.specs.Steps.{Reading}
use Rattle.hq_serve.specs.Coming.{Serving}
use Rattle.hq_sql_shelf.specs.Stores.{Doing}
use Rattle.hq_batch.specs.Checks.{CheckEnds, Checks}
use Rattle.hq_admin.specs.declared.rounds.ToldAll.{ToldAll}
use Rattle.hq_settings.specs.declared.trouble.Trouble.{Trouble}
use Rattle.hq_sql_server.specs.Stored.{StoreEnds}
use Rattle.hq_batch.specs.Printing.{IsPrinted}
use Rattle.hq_network.specs.Networks.{Networking}
use Rattle.hq_sql_server.specs.Runs.{ServeEnds}
use Rattle.hq_sql_admin.specs.Migrations.{MigrateEnds}
use Rattle.hq_sql_admin.specs.Rounds.{UsageEnds}
use Rattle.hq_sql_admin.specs.Words.{QueueEnds, HistoryEnds, HoldEnds, ReleaseEnds, DeleteEnds}
use Rattle.hq_sql_admin.specs.Words.{ImportEnds}
use Rattle.hq_words.specs.Asked.{Says, check_of, given_of}
use Rattle.hq_words.specs.Given.{BatchGiven}
use Rattle.hq_words.specs.declared.words.Word.{Word}
use Rattle.hq_words.specs.declared.words.Word.TheVariants.{Serve, Batch, Queue, Import, Sweep}
use Rattle.hq_words.specs.declared.words.Word.TheVariants.{Migrate, Check, Usage, History, Hold}
use Rattle.hq_words.specs.declared.words.Word.TheVariants.{Release, Delete}
use Rattle.hq_words.specs.declared.words.Words.{Words}
use Rattle.hq_words.specs.declared.words.Words.TheVariants.{Builtin, Word as OfWord, Shown, Refused}
use Rattle.hq_main.specs.Rounds.{DoesSweep, IsRoundPrinted}

-- the faults over plain lists: want of memory, of the desk or of the lists
abbrev pub want_alone : Fault → Type 0
want_alone fault = ((fault ≡ no_memory) × ⊤) ⊎ ((fault ≡ no_memory) × ⊤)

-- What lines ask for is replied to as a batch of the built-in customers from empty tables, with no
-- fault but want of memory; to each customer the desk is its own.
pub record ServesBuiltin (asked : List (Option LineRequest)) (lines : List (List ℕ)) : Type 0 where
  pub set : Settings
  pub is_builtin : settings_seen set ≡ settings
  pub replies : List SeenReply
  pub lines_are : lines ≡ map reply_line replies
  pub tables : Tables
  pub replied : AllReplied want_alone set.host set.directory no_tables
      (map (ask_in set.directory) asked) replies tables
  pub alone : Alone set.host set.directory (map (ask_in set.directory) asked) replies no_tables
      tables
  pub no_faults : store_faults replies ≡ 0

module _ {G L K S : Type 0} (reads : Reading) (logs : Logging G L) (tells : Telling L)
    (logs_old logs_new : G) (sight : Sight S) (does : Doing K S) (stores_old stores_new : K) where
  -- How a batch ends with these settings: as its store has it. The log that words name is told of
  -- its lines, and is closed as it was told; nothing else is done with a log.
  pub record LogsBatch (given : BatchGiven) (untouched : Type 0) (old new : Streams)
      (set : Settings) (result : Result ⊤ Trouble) : Type 0 where
    pub log_before : L
    pub log_after : L
    pub logged : logs logs_old (log_opened given.log log_before ∷ log_closed log_after ∷ [])
        logs_new
    pub ends : StoreEnds tells log_before log_after sight does given.store stores_old stores_new
        set (untouched × (log_after ≡ log_before)) old new result

  -- With the settings that its words name; or with the trouble of these, and then nothing is read
  -- or written, or done to a store or with a log.
  abbrev pub SetBatchEnds : BatchGiven → Type 0 → Streams → Streams → Result Settings Trouble →
      Result ⊤ Trouble → Type 0
  SetBatchEnds given untouched old new (Err trouble) result = untouched
      × (stores_new ≡ stores_old) × (logs_new ≡ logs_old) × (result ≡ Err trouble)
  SetBatchEnds given untouched old new (Ok set) result =
      LogsBatch given untouched old new set result

  abbrev pub BatchEnds : BatchGiven → Type 0 → Streams → Streams → Result ⊤ Trouble → Type 0
  BatchEnds given untouched old new result = (set : Result Settings Trouble)
      × SetsUp reads given.host given.relay_key given.directory given.keys set
      × SetBatchEnds given untouched old new set result

-- one call, or a migration, and how it is printed; nothing is read
abbrev pub Prints : (Result Rendered Trouble → Type 0) → Type 0 → Type 0 → Streams → Streams → ℕ →
    Type 0
Prints ends unread unwritten old new status =
    unread × ((done : Result Rendered Trouble) × ends done
    × IsPrinted done unwritten old.output new.output status)

-- these words serve clients, or this is so
abbrev pub UnlessServe : Word → Type 0 → Type 0
UnlessServe (Serve given) it = ⊤
UnlessServe _ it = it

abbrev pub UnlessServed : Result Words AllocError → Type 0 → Type 0
UnlessServed (Ok (OfWord asked)) it = UnlessServe asked it
UnlessServed _ it = it

-- these words have a log, or this is so
abbrev pub UnlessLogs : Word → Type 0 → Type 0
UnlessLogs (Serve given) it = ⊤
UnlessLogs (Batch given) it = ⊤
UnlessLogs _ it = it

abbrev pub UnlessLogged : Result Words AllocError → Type 0 → Type 0
UnlessLogged (Ok (OfWord asked)) it = UnlessLogs asked it
UnlessLogged _ it = it

-- What the program has of its machine: what it reads; what is done at the network, from one
-- state of it to another, and with clients; that nobody came yet; how many connections are left;
-- what is done with logs, from one state of these to another, and what one is told; what is seen of
-- a store; and what is done to stores, from one state of these to another.
module _ {N C G L K S : Type 0} (reads : Reading) (networks : Networking N C) (serves : Serving C)
    (begins : C → Type 0) (connections : C → ℕ) (net_old net_new : N) (logs : Logging G L)
    (tells : Telling L) (logs_old logs_new : G) (sight : Sight S) (does : Doing K S)
    (stores_old stores_new : K) where
  -- what is done for a word
  abbrev pub DoesWord : Word → Type 0 → Type 0 → Streams → Streams → ℕ → Type 0
  DoesWord (Serve given) unread unwritten old new status =
      unread × Exits (ServeEnds reads networks serves begins connections net_old net_new logs tells
      logs_old logs_new sight does stores_old stores_new given unwritten old.output new.output)
      status
  DoesWord (Batch given) unread unwritten old new status =
      Exits (BatchEnds reads logs tells logs_old logs_new sight does stores_old stores_new
      (given_of given) (unread × unwritten) old new) status
  DoesWord (Check given) unread unwritten old new status =
      unread × (stores_new ≡ stores_old)
      × Checks (CheckEnds reads (check_of given)) unwritten old.output new.output status
  DoesWord (Usage given) unread unwritten old new status =
      unread × ((done : Result ToldAll Trouble)
      × UsageEnds sight does stores_old stores_new reads given done
      × IsRoundPrinted done unwritten old.output new.output status)
  DoesWord (Queue given) unread unwritten old new status =
      Prints (QueueEnds reads sight does stores_old stores_new given) unread unwritten old new
      status
  DoesWord (History given) unread unwritten old new status =
      Prints (HistoryEnds reads sight does stores_old stores_new given) unread unwritten old new
      status
  DoesWord (Hold given) unread unwritten old new status =
      Prints (HoldEnds reads sight does stores_old stores_new given) unread unwritten old new
      status
  DoesWord (Release given) unread unwritten old new status =
      Prints (ReleaseEnds reads sight does stores_old stores_new given) unread unwritten old new
      status
  DoesWord (Delete given) unread unwritten old new status =
      Prints (DeleteEnds reads sight does stores_old stores_new given) unread unwritten old new
      status
  DoesWord (Import given) unread unwritten old new status =
      Prints (ImportEnds reads sight does stores_old stores_new given) unread unwritten old new
      status
  DoesWord (Sweep given) unread unwritten old new status =
      unread × DoesSweep reads sight does stores_old stores_new given
      (option_map (λ c. c.now) given.customer) unwritten old.output new.output status
  DoesWord (Migrate given) unread unwritten old new status =
      Prints (MigrateEnds does stores_old stores_new given) unread unwritten old new status

  -- what is done for what words ask, and the exit status; want of memory may come in place of what
  -- they ask
  abbrev pub Does : Result Words AllocError → Type 0 → Type 0 → Streams → Streams → ℕ → Type 0
  Does (Ok Builtin) unread unwritten old new status =
      Exits (RunEnds ServesBuiltin (unread × unwritten) old new) status
      × (stores_new ≡ stores_old)
  Does (Ok (OfWord asked)) unread unwritten old new status =
      DoesWord asked unread unwritten old new status
  Does (Ok (Shown text)) unread unwritten old new status =
      unread × (stores_new ≡ stores_old) × (status ≤ 1)
      × (status ≡ 0 → Appends old.output new.output (string_bytes text))
  Does (Ok (Refused text)) unread unwritten old new status = unread × unwritten
      × (stores_new ≡ stores_old) × (status ≡ 2)
  Does (Err error) unread unwritten old new status = unread × unwritten
      × (stores_new ≡ stores_old) × (status ≡ 1)

  -- The program does what its words ask for. Nothing is done at the network for words that serve no
  -- clients, and nothing with a log for words that have none.
  pub record Commands (words : List (List ℕ)) (unread unwritten : Type 0) (old new : Streams)
      (status : ℕ) : Type 0 where
    pub asked : Result Words AllocError
    pub says : IfOk asked (Says words)
    pub none : words ≡ [] → asked ≡ Ok Builtin
    pub does_so : Does asked unread unwritten old new status
    pub network : UnlessServed asked (net_new ≡ net_old)
    pub unlogged : UnlessLogged asked (logs_new ≡ logs_old)

-- What a server of the program does over a store of `sqlite`, however it ends.
use Rattle.std.specs.Global.{Global}
use Rattle.std.specs.Prelude.{◌≡◌, ◌⊎◌, ◌∷◌, [], ⊤, ℕ, List, map, Option, None, Some, option_map}
use Rattle.std.specs.Prelude.{Result, Ok, Err}
use Rattle.sqlite_trees.specs.declared.memory.MemStore.{MemStore}
use Rattle.hq_values.specs.declared.failure.Fail.TheVariants.{Fault as AsFault}
use Rattle.hq_values.specs.declared.failure.Fault.{Fault}
use Rattle.hq_tables.specs.Shelves.{Sight}
use Rattle.hq_sql_shelf.specs.Opened.{OverMemory}
use Rattle.hq_sql_shelf.specs.Stores.{Doing, OverStore}
use Rattle.hq_sql_shelf.specs.declared.shelf.SqlShelf.{SqlShelf}
use Rattle.hq_log.specs.Entries.{Telling}
use Rattle.hq_log.specs.Logs.{Logging, log_closed, log_opened}
use Rattle.hq_desk.specs.Desks.{host_of, on, shelf_of}
use Rattle.hq_desk.specs.declared.desk.Desk.{Desk}
use Rattle.hq_settings.specs.declared.settings.Settings.{Settings}
use Rattle.hq_settings.specs.Steps.{Reading}
use Rattle.hq_network.specs.Networks.{Networking, ended}
use Rattle.hq_serve.specs.Coming.{Serving, round_asks, round_replies}
use Rattle.hq_serve.specs.Rounds.{ServesRounds}
use Rattle.hq_serve.specs.declared.coming.ServiceEnd.{ServiceEnd}
use Rattle.hq_serve.specs.declared.coming.ServiceEnd.TheVariants as end
use Rattle.hq_together.specs.Sessions.{all_in}
use Rattle.hq_words.specs.Asked.{key_given}
use Rattle.hq_words.specs.declared.options.Serve.{Serve}
use Rattle.hq_settings.specs.SettingUp.{SetsUp}
use Rattle.hq_settings.specs.declared.trouble.Trouble.{Trouble}
use Rattle.hq_settings.specs.declared.trouble.Trouble.TheVariants.{Network, Clock}
use Rattle.hq_sql_server.specs.Stored.{memory, FromEmpty, IsUnopened}
use Rattle.hq_sql_server.specs.Listening.{IsListening, IsUnbound, limits_of}

-- why no more are served, as it is told
abbrev pub IsEndOf : ServiceEnd → Result ⊤ Trouble → Type 0
IsEndOf end.Done result = result ≡ Ok tt
IsEndOf end.Network result = result ≡ Err Network
IsEndOf end.Clock result = result ≡ Err Clock

-- the name of the log that words have
abbrev pub log_named : Serve → Option (List ℕ)
log_named given = option_map (λ l. l.now) given.log

-- What the program has of its network: what is done at it, from one state to another; what is done
-- with clients; that nobody came yet; and how many connections are left. What it has of its logs:
-- what is done with them, from one state to another, and what one is told.
module _ {N K G L : Type 0} (does : Networking N K) (serves : Serving K)
    (begins : K → Type 0) (connections : K → ℕ) (net_old net_new : N) (logs : Logging G L)
    (tells : Telling L) (logs_old logs_new : G) where
  -- nothing is done at the network, or with a log
  abbrev pub IsIdle : Type 0
  IsIdle = (net_new ≡ net_old) × (logs_new ≡ logs_old)

  -- no clients are served, for this reason
  abbrev pub IsUnheard : Serve → Type 0 → Option (List ℕ) → Option (List ℕ) → Result ⊤ Trouble →
      Type 0
  IsUnheard given unwritten out_old out_new (Ok _) = ⊥
  IsUnheard given unwritten out_old out_new (Err trouble) = (logs_new ≡ logs_old)
      × IsUnbound does given.listen.now (limits_of given) net_old net_new unwritten out_old out_new
      trouble

  -- The clients of the place that words name are served by a desk over this shelf, and `left` is
  -- the shelf after them. The log that words name is told of it, and is closed as it was told.
  -- Nothing else is done at the network, or with a log, and no client is sent more.
  pub record ServesPlace {S : Type 0} (sight : Sight S) (settings : Settings) (given : Serve)
      (out_old out_new : Option (List ℕ)) (result : Result ⊤ Trouble) (shelf left : S) : Type 0
    where
      pub clients : K
      pub net : N
      pub listening : IsListening does begins connections given.listen.now given.count
          (limits_of given) net_old net out_old out_new clients
      pub clients_after : K
      pub stopped : does net (ended clients_after ∷ []) net_new
      pub log : L
      pub log_after : L
      pub logged : logs logs_old (log_opened (log_named given) log ∷ log_closed log_after ∷ [])
          logs_new
      pub old : Desk S
      pub host_is : host_of old ≡ settings.host
      pub shelf_is : shelf_of old ≡ shelf
      pub new : Desk S
      pub left_is : shelf_of new ≡ left
      pub why : ServiceEnd
      pub served : ServesRounds ⊤ (on sight) settings.directory serves tells (connections clients)
          (connections clients_after) why clients clients_after log log_after old new
      pub ended_so : IsEndOf why result

  -- How a server ends over a shelf: no clients are served, and the shelf stays; or they are served
  -- so.
  abbrev pub ServedEnds : {S : Type 0} → Sight S → Settings → Serve → Type 0 → Option (List ℕ) →
      Option (List ℕ) → Result ⊤ Trouble → S → S → Type 0
  ServedEnds sight settings given unwritten out_old out_new result shelf left =
      (IsUnheard given unwritten out_old out_new result × (left ≡ shelf))
      ⊎ ServesPlace sight settings given out_old out_new result shelf left

  -- Over the store of a path, which is left as the last round left it; or it could not be opened,
  -- and nothing is written, or done at the network or with a log.
  abbrev pub StoreServerEnds : {M S : Type 0} → Sight S → Doing M S → List ℕ → M → M → Settings →
      Serve → Type 0 → Option (List ℕ) → Option (List ℕ) → Result ⊤ Trouble → Type 0
  StoreServerEnds sight opens path old new settings given unwritten out_old out_new result =
      OverStore sight opens path old new
      (ServedEnds sight settings given unwritten out_old out_new result)
      (λ fault. IsUnopened unwritten fault result × IsIdle)

  -- ---- in memory

  -- Clients are served by a desk over a shelf in memory, which began with empty tables: to each
  -- customer the desk is its own.
  pub record ServesEmpty (settings : Settings) (given : Serve) (out_old out_new : Option (List ℕ))
      (result : Result ⊤ Trouble) : Type 0 where
    pub shelf : SqlShelf MemStore Global
    pub left : SqlShelf MemStore Global
    pub over : ServesPlace memory settings given out_old out_new result shelf left
    pub from_empty : FromEmpty settings
        (all_in (map (round_asks settings.directory) over.served.rounds))
        (all_in (map round_replies over.served.rounds)) over.new

  abbrev pub MemoryServerEnds : Settings → Serve → Type 0 → Option (List ℕ) → Option (List ℕ) →
      Result ⊤ Trouble → Type 0
  MemoryServerEnds settings given unwritten out_old out_new result = OverMemory
      (IsUnheard given unwritten out_old out_new result
      ⊎ ServesEmpty settings given out_old out_new result)
      (λ fault. IsUnopened unwritten fault result × IsIdle)

  -- ---- as words have it

  module _ {M S : Type 0} (sight : Sight S) (opens : Doing M S) (old new : M) where
    -- Without a path the store is in memory, and nothing is done to any other; or it is that of the
    -- path.
    abbrev pub PathServerEnds : Option (List ℕ) → Settings → Serve → Type 0 → Option (List ℕ) →
        Option (List ℕ) → Result ⊤ Trouble → Type 0
    PathServerEnds None settings given unwritten out_old out_new result =
        MemoryServerEnds settings given unwritten out_old out_new result × (new ≡ old)
    PathServerEnds (Some path) settings given unwritten out_old out_new result =
        StoreServerEnds sight opens path old new settings given unwritten out_old out_new result

    -- with the settings that the words name; or with the trouble of these, and then nothing is
    -- printed, or done to a store, at the network or with a log
    abbrev pub SetServerEnds : Serve → Type 0 → Option (List ℕ) → Option (List ℕ) →
        Result Settings Trouble → Result ⊤ Trouble → Type 0
    SetServerEnds given unwritten out_old out_new (Err trouble) result = unwritten × (new ≡ old)
        × IsIdle × (result ≡ Err trouble)
    SetServerEnds given unwritten out_old out_new (Ok set) result =
        PathServerEnds (option_map (λ s. s.now) given.store) set given unwritten out_old out_new
        result

-- how a server ends for its words
abbrev pub ServeEnds : {N K G L M S : Type 0} → Reading → Networking N K → Serving K →
    (K → Type 0) → (K → ℕ) → N → N → Logging G L → Telling L → G → G → Sight S → Doing M S → M →
    M → Serve → Type 0 → Option (List ℕ) → Option (List ℕ) → Result ⊤ Trouble → Type 0
ServeEnds reads does serves begins connections net_old net_new logs tells logs_old logs_new sight
    opens old new given unwritten out_old out_new result = (set : Result Settings Trouble)
    × SetsUp reads given.host.now (key_given given.relay_key) given.directory.now
    (option_map (λ k. k.now) given.keys) set
    × SetServerEnds does serves begins connections net_old net_new logs tells logs_old logs_new
    sight opens old new given unwritten out_old out_new set result

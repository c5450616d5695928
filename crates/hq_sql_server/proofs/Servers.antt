-- What a server does over a shelf in memory that is empty.
use Rattle.std.specs.Global.{Global}
use Rattle.std.proofs.Common.{◌≡◌, ◌⊎◌, inl, inr, ℕ, List, Option, Result, map}
use Rattle.std.specs.Bool.{⊤}
use Rattle.sqlite.specs.Held.{state}
use Rattle.sqlite.specs.Steps.{over_memory}
use Rattle.sqlite_trees.specs.declared.memory.MemStore.{MemStore}
use Rattle.hq_tables.specs.Tables.{no_tables}
use Rattle.hq_sql.specs.Tables.{tables_in}
use Rattle.hq_sql_shelf.specs.Shelf.{IsOurs}
use Rattle.hq_sql_shelf.specs.declared.shelf.SqlShelf.{SqlShelf}
use Rattle.hq_serve.specs.Coming.{Serving, round_asks, round_replies}
use Rattle.hq_log.specs.Entries.{Telling}
use Rattle.hq_log.specs.Logs.{Logging}
use Rattle.hq_together.specs.Sessions.{all_in}
use Rattle.hq_settings.specs.declared.settings.Settings.{Settings}
use Rattle.hq_settings.specs.declared.trouble.Trouble.{Trouble}
use Rattle.hq_words.specs.declared.options.Serve.{Serve}
use Rattle.hq_network.specs.Networks.{Networking}
use Rattle.hq_sql_server.specs.Stored.{memory}
use Rattle.hq_sql_server.specs.Runs.{IsUnheard, ServedEnds, ServesEmpty, ServesPlace}
use Rattle.hq_sql_server.proofs.Memory.{from_empty}

module _ {N K G L : Type 0} (does : Networking N K) (serves : Serving K) (begins : K → Type 0)
    (connections : K → ℕ)
    (net_old net_new : N) (logs : Logging G L) (tells : Telling L) (logs_old logs_new : G)
    (settings : Settings) (given : Serve) (out_old out_new : Option (List ℕ))
    (result : Result ⊤ Trouble) (shelf left : SqlShelf MemStore Global)
    (ours : IsOurs (state over_memory shelf.conn))
    (none : tables_in (state over_memory shelf.conn).committed ≡ no_tables) where
  -- clients are served from empty tables
  serves_empty : ServesPlace does serves begins connections net_old net_new logs tells logs_old
      logs_new memory settings given out_old out_new result shelf left →
      ServesEmpty does serves begins connections net_old net_new logs tells logs_old logs_new
      settings given out_old out_new result
  serves_empty it = record {
    shelf = shelf;
    left = left;
    over = it;
    from_empty = from_empty settings shelf ours none it.old it.new it.host_is it.shelf_is
        (all_in (map (round_asks settings.directory) it.served.rounds))
        (all_in (map round_replies it.served.rounds)) it.served.desk.as_one it.served.desk.alone;
  }

  -- however a server ends over it
  pub memory_ends : (unwritten : Type 0) →
      ServedEnds does serves begins connections net_old net_new logs tells logs_old logs_new memory
      settings given unwritten out_old out_new result shelf left →
      IsUnheard does serves begins connections net_old net_new logs tells logs_old logs_new given
      unwritten out_old out_new result
      ⊎ ServesEmpty does serves begins connections net_old net_new logs tells logs_old logs_new
      settings given out_old out_new result
  memory_ends unwritten (inl unheard) = inl unheard.0
  memory_ends unwritten (inr served) = inr (serves_empty served)

-- What a batch over a shelf in memory does from empty tables.
use Rattle.std.specs.Global.{Global}
use Rattle.std.proofs.Common.{◌≡◌, ℕ, List, Option, refl, sym, ap}
use Rattle.std.proofs.Common.{◌∙◌, subst, map}
use Rattle.std.specs.Bool.{⊤}
use Rattle.sqlite.specs.Held.{Held, state}
use Rattle.sqlite.specs.Steps.{over_memory}
use Rattle.sqlite.proofs.Callers.{memory_is_clean}
use Rattle.sqlite_trees.specs.declared.memory.MemStore.{MemStore}
use Rattle.hq_tables.specs.Shelves.{OnOpenSound}
use Rattle.hq_tables.specs.Sound.{Sound}
use Rattle.hq_tables.specs.Tables.{no_tables}
use Rattle.hq_tables.proofs.Empty.{empty_sound}
use Rattle.hq_sql.specs.Tables.{tables_in}
use Rattle.hq_sql_open.specs.declared.transaction.Standing.{Standing}
use Rattle.hq_sql_open.specs.declared.transaction.Standing.TheVariants.{Open, Gone, InDoubt}
use Rattle.hq_sql_open.specs.declared.transaction.Standing.TheVariants.{Unasked, Lost}
use Rattle.hq_sql_shelf.specs.Shelf.{IsOurs, Stands}
use Rattle.hq_sql_shelf.specs.declared.shelf.SqlShelf.{SqlShelf}
use Rattle.hq_log.specs.Entries.{Telling}
use Rattle.hq_desk.specs.Desks.{on, host_of, shelf_of}
use Rattle.hq_desk.specs.declared.desk.Desk.{Desk}
use Rattle.hq_settings.specs.declared.settings.Settings.{Settings}
use Rattle.hq_wire.specs.Exchanges.{Ask, with_refusals}
use Rattle.hq_wire.specs.Replies.{SeenReply}
use Rattle.hq_wire.specs.Runs.{AllReplied, Alone}
use Rattle.hq_wire.proofs.Serving.{all_replied}
use Rattle.hq_lines.specs.Fields.{LineRequest}
use Rattle.hq_batch.specs.Batches.{ask_in}
use Rattle.hq_batch.specs.Runs.{ServesOver}
use Rattle.hq_sql_server.specs.Stored.{memory, FromEmpty, ServesFromEmpty}

-- a store in memory is always open
stands_in_memory : (standing : Standing) (c : Held MemStore) → Stands standing (state over_memory c)
stands_in_memory Open c = tt
stands_in_memory Gone c = tt
stands_in_memory InDoubt c = refl
stands_in_memory Unasked c = refl
stands_in_memory Lost c = refl

-- what a desk over a shelf in memory that is empty replied to
pub from_empty : (settings : Settings) (shelf : SqlShelf MemStore Global) →
    IsOurs (state over_memory shelf.conn) →
    tables_in (state over_memory shelf.conn).committed ≡ no_tables
    → (old new : Desk (SqlShelf MemStore Global)) → host_of old ≡ settings.host
    → shelf_of old ≡ shelf
    → (asks : List Ask) (replies : List SeenReply) →
    OnOpenSound (on memory).store old new
    (AllReplied (with_refusals ⊤ (on memory)).store.may_answer (host_of old) settings.directory
    ((on memory).store.tables old) asks replies ((on memory).store.tables new)) →
    OnOpenSound (on memory).store old new (Alone (host_of old) settings.directory asks replies
    ((on memory).store.tables old) ((on memory).store.tables new)) →
    FromEmpty settings asks replies new
from_empty settings shelf ours none old new named is asks replies together apart =
    let d = settings.directory in
    let empty = ap memory.tables is ∙ none in
    let after = (on memory).store.tables new in
    let sound = subst Sound (sym empty) empty_sound in
    let clean : (on memory).store.is_clean new = (
      memory_is_clean (shelf_of new).conn,
      stands_in_memory (shelf_of new).standing (shelf_of new).conn,
    ) in
    let owned = subst memory.is_ours (sym is) ours in
    record {
      replied = λ stays.
          let all = together clean owned stays sound in
          subst (λ n. AllReplied (with_refusals ⊤ (on memory)).store.may_answer n d no_tables asks
          replies after) named
          (subst (λ t. AllReplied (with_refusals ⊤ (on memory)).store.may_answer (host_of old) d t
          asks replies after) empty
          all);
      alone = λ stays.
          let alone = apart clean owned stays sound in
          subst (λ n. Alone n d asks replies no_tables after) named
          (subst (λ t. Alone (host_of old) d asks replies t after) empty alone);
    }

pub serves : {L : Type 0} (tells : Telling L) (log_old log_new : L) (settings : Settings)
    (shelf : SqlShelf MemStore Global) → IsOurs (state over_memory shelf.conn) →
    tables_in (state over_memory shelf.conn).committed ≡ no_tables
    → (asked : List (Option LineRequest)) (lines : List (List ℕ)) →
    ServesOver ⊤ memory settings tells log_old log_new shelf asked lines →
    ServesFromEmpty tells log_old log_new settings asked lines
serves tells log_old log_new settings shelf ours none asked lines it = record {
  shelf = shelf;
  over = it;
  from_empty = from_empty settings shelf ours none it.old it.new it.host_is it.shelf_is
      (map (ask_in settings.directory) asked) it.replied.0
      (all_replied (with_refusals ⊤ (on memory)) settings.directory it.old it.new
      (map (ask_in settings.directory) asked) it.replied.0 it.replied.2.each)
      it.replied.2.alone;
}

-- What a batch over plain lists does from empty tables.
use Rattle.std.proofs.Common.{◌≡◌, ℕ, false, List, Option, sym, ap, ◌∙◌, subst, refl, arith, lit<}
use Rattle.std.proofs.Common.{map}
use Rattle.std.specs.Bool.{⊤}
use Rattle.hq_values.specs.declared.failure.Fault.TheVariants.{WantOfMemory}
use Rattle.hq_lists.specs.Lists.{tables_of}
use Rattle.hq_tables.specs.Shelves.{Sight}
use Rattle.hq_tables.specs.Sound.{Sound}
use Rattle.hq_tables.specs.Tables.{no_tables}
use Rattle.hq_lists.specs.declared.list_rows.ListRows.{ListRows}
use Rattle.hq_tables.proofs.Empty.{empty_sound}
use Rattle.hq_desk.specs.Desks.{host_of, on, shelf_of}
use Rattle.hq_log.specs.Entries.{Telling}
use Rattle.hq_wire.specs.Exchanges.{with_refusals}
use Rattle.hq_wire.specs.Runs.{AllReplied, Alone}
use Rattle.hq_wire.proofs.Serving.{all_replied}
use Rattle.hq_lines.specs.Fields.{LineRequest}
use Rattle.hq_batch.specs.Batches.{ask_in}
use Rattle.hq_settings.specs.Seen.{settings_seen}
use Rattle.hq_settings.specs.declared.settings.Settings.{Settings}
use Rattle.hq_settings.specs.Builtin.{settings}
use Rattle.hq_batch.specs.Runs.{ServesOver}
use Rattle.hq_main.specs.Runs.{ServesBuiltin, want_alone}

-- what is seen of the shelf of plain lists
abbrev pub plain : Sight ListRows
plain = record {
  tables = tables_of;
  is_closed = λ _. false;
  fault_count = λ _. 0;
  is_clean = λ _. ⊤;
  is_ours = λ _. ⊤;
  may_answer = λ fault. (fault ≡ WantOfMemory) × ⊤;
  may_leave = λ _ _. ⊥;
  leaves_desk = λ _. ⊤;
  goes_back = λ _ _. ⊤;
}

pub serves : {L : Type 0} (tells : Telling L) (log_old log_new : L) (set : Settings) →
    settings_seen set ≡ settings → (shelf : ListRows) →
    tables_of shelf ≡ no_tables
    → (asked : List (Option LineRequest)) (lines : List (List ℕ)) →
    ServesOver ⊤ plain set tells log_old log_new shelf asked lines → ServesBuiltin asked lines
serves tells log_old log_new set builtin shelf none asked lines it =
    let d = set.directory in
    let old = it.old in
    let new = it.new in
    let p = it.replied in
    let empty = ap tables_of it.shelf_is ∙ none in
    let named = it.host_is in
    let after = tables_of (shelf_of new) in
    let asks = map (ask_in d) asked in
    let sound = subst Sound (sym empty) empty_sound in
    let all = all_replied (with_refusals ⊤ (on plain)) d old new asks p.0 p.2.each tt tt refl sound
    in
    let alone = p.2.alone tt tt refl sound in
    let few = p.2.counted (lit< tt) in
    record {
      set = set;
      is_builtin = builtin;
      replies = p.0;
      lines_are = p.1;
      tables = after;
      replied = subst (λ n. AllReplied want_alone n d no_tables asks p.0 after)
          named (subst (λ t. AllReplied want_alone (host_of old) d t asks p.0
          after) empty all);
      alone = subst (λ n. Alone n d asks p.0 no_tables after) named
          (subst (λ t. Alone (host_of old) d asks p.0 t after) empty alone);
      no_faults = omega (arith, few);
    }

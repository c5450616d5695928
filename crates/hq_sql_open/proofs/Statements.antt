-- The statements of a migration, one by one.
use Rattle.std.proofs.Common.{None, ◌≡◌, inr, ℕ, ℤ, pos, true, false, cond, List, [], ◌∷◌, Ok, Err}
use Rattle.std.proofs.Common.{Result, IsTrue, refl, sym, ap, ◌∙◌, subst}
use Rattle.sqlite.specs.declared.error.Error.{Error}
use Rattle.sqlite.specs.declared.types.Value.TheVariants.{Null, Int, Text}
use Rattle.sqlite.specs.Command.{Command}
use Rattle.sqlite.specs.Listing.{understood}
use Rattle.sqlite.specs.Order.{Row}
use Rattle.sqlite.specs.Program.{overlay}
use Rattle.sqlite.specs.Query.{IsAnswer}
use Rattle.sqlite.specs.Schema.{Schema}
use Rattle.sqlite.specs.State.{State, HasCleanDisk, Executes, Survives, CommitsBy, Writes}
use Rattle.sqlite.specs.State.{KeepsCommit}
use Rattle.sqlite.proofs.Callers.{command_of, runs_as}
use Rattle.sqlite_typed.proofs.TestLemmas.{then_value}
use Rattle.hq_keyed.specs.Values.{number}
use Rattle.hq_keyed.proofs.Left.{execute_left, left_keeps}
use Rattle.hq_keyed.proofs.Known.{keeps_commit}
use Rattle.hq_keyed.proofs.Stops.{may_end, write_leaves_no_more}
use Rattle.hq_keyed.proofs.Writes.{updated, cast_int}
use Rattle.hq_schema.specs.Schema.{version, holds, desk_schema}
use Rattle.hq_sql_open.specs.Making.{GoesOn}
use Rattle.hq_sql_open.specs.Transactions.{KeepsAll}
use Rattle.hq_sql_open.specs.Stores.{HasVersion}
use Rattle.hq_sql_open.specs.Migration.{HasEmptyHolds, Fills, Stamps}
use Rattle.hq_keyed.proofs.Filling.{filled, filled_schema}
use Rattle.hq_sql_open.proofs.Held.{reasons}
use Rattle.hq_sql_open.proofs.MigrationTexts.{fill_text, fill_query, fill_is, fill_plain}
use Rattle.hq_sql_open.proofs.MigrationTexts.{version_text}
use Rattle.hq_sql_open.proofs.MigrationTexts.{version_terms, version_is, version_plain}

pub goes_on : (old new : State) (command : Command) (text : List ℕ) (params : Row) (count : ℕ) →
    Writes old new None command text params count → GoesOn old new
goes_on old new command text params count w = record {
  was_open = λ _. w.shown.was_open;
  mode = w.shown.mode;
  committed = λ within. w.shown.committed_is ∙ ap (λ b. cond b old.committed new.now) within;
}

-- a statement in a transaction, whether it is made or fails
step_keeps : (old new : State) (schema : Schema) (text : List ℕ) (params : Row) (r : Result ℕ Error)
    → old.now.schema ≡ schema → may_end (command_of (understood schema text)) ≡ false
    → ((count : ℕ) → Executes text params old new (Ok count) → KeepsCommit old new)
    → IsTrue old.in_transaction → Survives old new (CommitsBy text params old) →
    (HasCleanDisk new → Executes text params old new r) → KeepsAll old new
step_keeps old new schema text params (Ok count) has goes made within survives h = record {
  kept = λ clean. made count (h clean);
  quiet = survives.clean;
  stops = write_leaves_no_more old new text params
      (subst (λ s. may_end (command_of (understood s text)) ≡ false) (sym has) goes) within
      survives;
}
step_keeps old new schema text params (Err e) has goes made within survives h = record {
  kept = λ clean. left_keeps old new (execute_left old new text params e (h clean));
  quiet = survives.clean;
  stops = write_leaves_no_more old new text params
      (subst (λ s. may_end (command_of (understood s text)) ≡ false) (sym has) goes) within
      survives;
}

-- ---- the rows of holds

module _ (old new : State) (reason : List ℕ) where
  pub filled_keeps : (r : Result ℕ Error) → old.now.schema ≡ desk_schema → IsTrue old.in_transaction
      → Survives old new (CommitsBy fill_text (Text reason ∷ []) old)
      → (HasCleanDisk new → Executes fill_text (Text reason ∷ []) old new r) → KeepsAll old new
  filled_keeps r has within survives h =
      step_keeps old new desk_schema fill_text (Text reason ∷ []) r has (ap may_end fill_is)
      (λ count e. keeps_commit desk_schema old new has fill_text (Text reason ∷ []) _
      (record { is = fill_is; plain = fill_plain }) refl count e within) within survives h

  pub filled_goes : (count : ℕ) → old.now.schema ≡ desk_schema →
      Executes fill_text (Text reason ∷ []) old new (Ok count) → (new.now.schema ≡ desk_schema)
      × GoesOn old new
  filled_goes count has h =
      let w = runs_as fill_text (Text reason ∷ []) old new desk_schema has _ fill_is fill_plain
      count h in (
        filled_schema desk_schema 7 (record holds { tree = 14 }) refl (λ olds news. refl) refl
            (record { lets = []; body = fill_query }) old new _ (Text reason ∷ []) count has w,
        goes_on old new _ _ _ count w,
      )

  pub fills : (count : ℕ) → HasEmptyHolds old.now →
      Executes fill_text (Text reason ∷ []) old new (Ok count) → Fills reason count old new
  fills count it h =
      let w = runs_as fill_text (Text reason ∷ []) old new desk_schema it.schema_is _ fill_is
      fill_plain count h in
      let f = filled desk_schema 7 (record holds { tree = 14 }) refl (λ olds news. refl) refl
      (record { lets = []; body = fill_query }) old new _ (Text reason ∷ []) count it.schema_is
      it.empty w in
      let a : IsAnswer fill_query (overlay old.now.trees []) (Text reason ∷ []) f.rows =
      f.answers.answer Null in
      let all = reasons reason old.now.trees it.messages f.rows a count (new.now.trees 14)
      f.sets.rows_are f.count_is in
      record {
        schema_is = f.sets.schema_is;
        holds = all.are;
        others = f.sets.others;
        found = all.found;
        count_is = all.count_is;
        goes = goes_on old new _ _ _ count w;
      }

-- ---- the version

abbrev version_row : ℤ × ℕ → Row
version_row k = Int k.0 ∷ number k.1 ∷ []

module _ (old new : State) where
  pub stamps : (version_was count : ℕ) → old.now.schema ≡ desk_schema →
      HasVersion old.now version_was → Executes version_text [] old new (Ok count) → Stamps old new
  stamps version_was count has it h =
      let w = runs_as version_text [] old new desk_schema has _ version_is version_plain count h in
      let xs : List (ℤ × ℕ) = (it.rowid, version_was) ∷ [] in
      let done = updated desk_schema version_row (λ k. refl) 0 (record version { tree = 0 }) refl
      (λ db. refl) (λ olds news. refl) [] version_terms old new _ [] count xs (λ k. true)
      (λ n. 3)
      (λ k. refl) (λ k. refl) (λ k. then_value (cast_int k.0) (then_value (cast_int (pos 3)) refl))
      (inr ((it.rowid, version_was), refl)) has it.row_is (tt, tt) w in
      record {
        schema_is = done.0.schema_is;
        version = record { rowid = it.rowid; row_is = done.0.rows_are };
        others = done.0.others;
        is_open = w.shown.is_open;
        goes = goes_on old new _ _ _ count w;
      }

  pub stamp_keeps : (r : Result ℕ Error) → old.now.schema ≡ desk_schema → IsTrue old.in_transaction
      → Survives old new (CommitsBy version_text [] old)
      → (HasCleanDisk new → Executes version_text [] old new r) → KeepsAll old new
  stamp_keeps r has within survives h =
      step_keeps old new desk_schema version_text [] r has (ap may_end version_is)
      (λ count e. keeps_commit desk_schema old new has version_text [] _
      (record { is = version_is; plain = version_plain }) refl count e within) within survives h

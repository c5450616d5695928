-- What CREATE TABLE does.
use Rattle.std.proofs.Common.{◌≡◌, ℕ, false, List, [], None, Ok, Result, IsTrue, refl, sym, ap, ◌∙◌}
use Rattle.std.proofs.Common.{subst}
use Rattle.sqlite.specs.Table.{Table}
use Rattle.sqlite.specs.Schema.{Schema}
use Rattle.sqlite.specs.Command.TheVariants.{CreateTable}
use Rattle.sqlite.specs.Compile.{table_defined_by}
use Rattle.sqlite.specs.Change.{created, next_tree, KeepsRows}
use Rattle.sqlite.specs.Does.{Tally, lacks_sequence}
use Rattle.sqlite.specs.Effect.{Database}
use Rattle.sqlite.specs.Listing.{understood}
use Rattle.sqlite.specs.State.{State, Executes, Writes}
use Rattle.sqlite.proofs.Callers.{IsPlain, command_of, statement_of, runs_as}
use Rattle.hq_keyed.specs.Made.{CreatesTable}
use Rattle.std.proofs.Common.{cond}
use Rattle.sqlite.specs.State.{KeepsCommit}
use Rattle.hq_keyed.proofs.Writes.{went, same_value}

pub makes : (old new : State) (s : Schema) (text : List ℕ) (table : Table) (count : ℕ) →
    old.now.schema ≡ s → table_defined_by text ≡ Ok table
    → command_of (understood s text) ≡ CreateTable → statement_of text (understood s text) ≡ text →
    IsPlain (understood s text) → lacks_sequence (created s table) ≡ false
    → Executes text [] old new (Ok count) → CreatesTable old new s table
makes old new s text table count has defined command whole plain uncounted h =
    let w = subst (λ t. Writes old new None CreateTable t [] count) whole
    (runs_as text [] old new s has CreateTable command plain count h) in
    let all = went w.changed in
    let first = went all.1 in
    let made = first.1 in
    let both : ◌≡◌ {A = Result Table _} (Ok made.table) (Ok table) = sym made.defined ∙ defined in
    let same : made.table ≡ table = same_value both in
    let schema : first.0.schema ≡ created s table = made.is ∙ ap (λ t. created t made.table) has
    ∙ ap (created s) same in
    let none : lacks_sequence first.0.schema ≡ false = ap lacks_sequence schema ∙ uncounted in
    let now : new.now ≡ first.0 = ap (λ (p : Tally × Database). p.1) (same_value all.2)
    ∙ same_value (rw none at first.2) in
    record {
      schema_is = ap (λ (d : Database). d.schema) now ∙ schema;
      empty = ap (λ (d : Database). d.trees (next_tree s)) now
          ∙ subst (λ t. first.0.trees (next_tree t) ≡ []) has made.empty;
      others = subst (λ (d : Database). KeepsRows s.tables old.now.trees d.trees) (sym now)
          (subst (λ t. KeepsRows t.tables old.now.trees first.0.trees) has made.others);
      shown = w.shown;
    }

pub kept_by : (old new : State) (text : List ℕ) (count : ℕ) →
    command_of (understood old.now.schema text) ≡ CreateTable →
    IsPlain (understood old.now.schema text) → IsTrue old.in_transaction →
    Executes text [] old new (Ok count) → KeepsCommit old new
kept_by old new text count command plain within h =
    let w = runs_as text [] old new old.now.schema refl CreateTable command plain count h in
    record {
      was_open = λ _. w.shown.was_open;
      committed = λ _. w.shown.committed_is
          ∙ ap (λ b. cond b old.committed new.now) within;
    }

-- What making tables in turn leaves and keeps.
use Rattle.std.proofs.Common.{◌≡◌, ℕ, List, [], ◌∷◌, ◌++◌, Result, Ok, Err, IsTrue, sym}
use Rattle.std.proofs.Common.{ap, ◌∙◌, subst, arith}
use Rattle.sqlite.specs.Command.TheVariants.{CreateTable}
use Rattle.sqlite.specs.Listing.{understood}
use Rattle.sqlite.specs.Schema.{Schema}
use Rattle.sqlite.specs.State.{State, HasCleanDisk, Executes, Survives, CommitsBy}
use Rattle.sqlite.specs.Table.{Table}
use Rattle.sqlite.specs.declared.error.Error.{Error}
use Rattle.sqlite_resolve.specs.declared.compiled.Compiled.{Compiled}
use Rattle.sqlite_resolve.specs.declared.error.CompileError.{CompileError}
use Rattle.sqlite.proofs.Callers.{IsPlain, command_of, statement_of}
use Rattle.hq_keyed.specs.Left.{IsQuiet}
use Rattle.hq_keyed.specs.Made.{CreatesTable}
use Rattle.hq_keyed.proofs.Left.{clean_before, execute_left, left_keeps, keeps_then}
use Rattle.hq_keyed.proofs.Making.{makes, kept_by}
use Rattle.hq_keyed.proofs.Stops.{may_end, write_leaves_no_more}
use Rattle.hq_sql_open.specs.Making.{IsCreate, MakesTable, GoesOn}
use Rattle.hq_sql_open.specs.Transactions.{KeepsAll}

-- ---- what a text that makes a table is

is_create : (text : List ℕ) (r : Result Compiled CompileError) → IsCreate text r →
    command_of r ≡ CreateTable
is_create text (Ok c) h = h.0
is_create text (Err e) h = absurd h

is_plain : (text : List ℕ) (r : Result Compiled CompileError) → IsCreate text r → IsPlain r
is_plain text (Ok c) h = (h.1, h.2)
is_plain text (Err e) h = absurd h

is_whole : (text : List ℕ) (r : Result Compiled CompileError) → IsCreate text r →
    statement_of text r ≡ text
is_whole text (Ok c) h = h.3
is_whole text (Err e) h = absurd h

module _ (old new : State) (s : Schema) (text : List ℕ) (table : Table)
    (it : MakesTable s text table) (has : old.now.schema ≡ s) where
  pub table_made : (count : ℕ) → Executes text [] old new (Ok count) → CreatesTable old new s table
  table_made count h = makes old new s text table count has it.defined
      (is_create text _ it.is_create) (is_whole text _ it.is_create) (is_plain text _ it.is_create)
      it.uncounted h

  makes_here : command_of (understood old.now.schema text) ≡ CreateTable
  makes_here = subst (λ x. command_of (understood x text) ≡ CreateTable) (sym has)
      (is_create text _ it.is_create)

  plain_here : IsPlain (understood old.now.schema text)
  plain_here = subst (λ x. IsPlain (understood x text)) (sym has) (is_plain text _ it.is_create)

  pub made_keeps : (r : Result ℕ Error) → IsTrue old.in_transaction →
      Survives old new (CommitsBy text [] old) → (HasCleanDisk new → Executes text [] old new r) →
      KeepsAll old new
  made_keeps (Ok count) within survives h = record {
    kept = λ clean. kept_by old new text count makes_here plain_here within (h clean);
    quiet = survives.clean;
    stops = write_leaves_no_more old new text [] (ap may_end makes_here) within survives;
  }
  made_keeps (Err e) within survives h = record {
    kept = λ clean. left_keeps old new (execute_left old new text [] e (h clean));
    quiet = survives.clean;
    stops = write_leaves_no_more old new text [] (ap may_end makes_here) within survives;
  }

-- ---- one after another

pub keeps_next : (a b c : State) → KeepsAll a b → IsQuiet b c → (HasCleanDisk b → KeepsAll b c) →
    KeepsAll a c
keeps_next a b c p quiet q = record {
  kept = λ clean. keeps_then a b c (p.kept (clean_before b c quiet clean))
      ((q (clean_before b c quiet clean)).kept clean);
  quiet = omega (arith, p.quiet, quiet);
  stops = λ clean db may. p.stops (clean_before b c quiet clean) db
      ((q (clean_before b c quiet clean)).stops clean db may);
}

pub keeps_itself : (a : State) → KeepsAll a a
keeps_itself a = record {
  kept = λ clean. Rattle.hq_keyed.proofs.Left.keeps_itself a;
  quiet = omega arith;
  stops = λ clean db may. may;
}

-- ---- no rows

pub goes_then : (a b c : State) → GoesOn a b → GoesOn b c → GoesOn a c
goes_then a b c p q = record {
  was_open = λ is. p.was_open (q.was_open is);
  mode = q.mode ∙ p.mode;
  committed = λ within. q.committed (p.mode ∙ within) ∙ p.committed within;
}

-- Tables made in turn, inside a transaction. `old` and `new` are what is seen of a connection
-- before and after.
-- Inner: it serves proofs alone, and no promise rests on it.
use Rattle.std.specs.Prelude.{◌≡◌, ⊤, ℕ, List, [], ◌∷◌, fold, None, Result, Ok, Err, false, IsTrue}
use Rattle.std.specs.List.{AllByRecursion}
use Rattle.sqlite.specs.Change.{created}
use Rattle.sqlite.specs.Command.TheVariants.{CreateTable}
use Rattle.sqlite.specs.Compile.{table_defined_by}
use Rattle.sqlite.specs.Does.{lacks_sequence}
use Rattle.sqlite.specs.Listing.{understood}
use Rattle.sqlite.specs.Schema.{Schema}
use Rattle.sqlite.specs.State.{State, text_of}
use Rattle.sqlite.specs.Table.{Table}
use Rattle.sqlite.specs.Tree.{Trees}
use Rattle.sqlite_resolve.specs.declared.compiled.Compiled.{Compiled}
use Rattle.sqlite_resolve.specs.declared.error.CompileError.{CompileError}

-- a text is understood as one that makes a table, as a whole
abbrev pub IsCreate : List ℕ → Result Compiled CompileError → Type 0
IsCreate text (Ok c) = (c.command ≡ CreateTable) × (c.returning ≡ None) × (c.formats ≡ [])
    × (text_of text c ≡ text)
IsCreate text (Err e) = ⊥

-- in a store with this schema the text makes the table
pub record MakesTable (s : Schema) (text : List ℕ) (table : Table) : Type 0 where
  pub defined : table_defined_by text ≡ Ok table
  pub is_create : IsCreate text (understood s text)
  pub uncounted : lacks_sequence (created s table) ≡ false

-- each text makes its table, in the schema that those before it left
abbrev pub MakeTables : Schema → List (List ℕ) → List Table → Type 0
MakeTables s [] [] = ⊤
MakeTables s (text ∷ texts) (table ∷ tables) = MakesTable s text table
    × MakeTables (created s table) texts tables
MakeTables s _ _ = ⊥

-- no table of the list has a row
abbrev pub AreEmpty : List Table → Trees → Type 0
AreEmpty tables trees = AllByRecursion (λ t. trees t.tree ≡ []) tables

-- the transaction goes on
pub record GoesOn (old new : State) : Type 0 where
  pub was_open : IsTrue new.is_open → IsTrue old.is_open
  pub mode : new.in_transaction ≡ old.in_transaction
  pub committed : IsTrue old.in_transaction → new.committed ≡ old.committed

-- beside the tables of a schema these are there, and no table has a row
pub record HasMade (s : Schema) (tables : List Table) (old new : State) : Type 0 where
  pub schema_is : new.now.schema ≡ fold created s tables
  pub empty : AreEmpty new.now.schema.tables new.now.trees
  pub goes : GoesOn old new

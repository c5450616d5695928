-- What an INSERT .. SELECT makes of a table with no row.
-- Inner: it serves proofs alone, and no promise rests on it.
use Rattle.std.specs.Prelude.{◌≡◌, ℕ, ℤ, List, [], ◌∷◌, ◌++◌, map, length}
use Rattle.sqlite.specs.Cast.{cast_row}
use Rattle.sqlite.specs.Edit.{put_all, numbered}
use Rattle.sqlite.specs.Effect.{Answers}
use Rattle.sqlite.specs.Order.{Row}
use Rattle.sqlite.specs.Rowids.TheVariants.{Chosen}
use Rattle.sqlite.specs.Rows.{stamped}
use Rattle.sqlite.specs.Schema.{Schema}
use Rattle.sqlite.specs.State.{State}
use Rattle.sqlite.specs.Table.{Table}
use Rattle.sqlite_keyed.specs.Keyed.{next_key}
use Rattle.sqlite_schema.specs.declared.program.Program.{Program}
use Rattle.hq_keyed.specs.Changed.{Sets}

-- the typed rows with these behind them, each under the next rowid
abbrev pub added : {X : Type 0} → List (ℤ × X) → List X → List (ℤ × X)
added xs [] = xs
added xs (y ∷ ys) = added (xs ++ (next_key (λ (k : ℤ × _). k.0) xs, y) ∷ []) ys

-- the table has the rows that the query answered, each under the next rowid, and their count is
-- told
pub record Filled (schema : Schema) (table : Table) (query : Program) (params : Row) (count : ℕ)
    (old new : State) : Type 0 where
  pub rows : List Row
  pub answers : Answers (record old.now { schema = schema }) query (stamped table params) rows
  pub sets : Sets schema old.now new.now table.tree
      (put_all [] (numbered Chosen [] (map (cast_row table) rows)))
  pub count_is : count ≡ length rows

-- What an opening finds where the process or its machine stopped: trees.
use Rattle.std.specs.Prelude.{◌≡◌}
use Rattle.sqlite.specs.Effect.{Database, IsDatabase}
use Rattle.sqlite.specs.Tree.{Trees}
use Rattle.hq_schema.specs.Schema.{desk_schema}
use Rattle.hq_tables.specs.Tables.{Tables}
use Rattle.hq_sql.specs.Tables.{IsDesk, tables_in}

-- a store with these trees, and the schema of a desk
abbrev pub desk_with : Trees → Database
desk_with trees = record { schema = desk_schema; trees = trees }

-- its tables
abbrev pub tables_with : Trees → Tables
tables_with trees = tables_in (desk_with trees)

-- The trees are those of a desk with the tables t: they list its schema and obey it, and each row
-- is a value of its type.
pub record HoldDesk (trees : Trees) (t : Tables) : Type 0 where
  pub sound : IsDatabase (desk_with trees)
  pub desk : IsDesk (desk_with trees)
  pub tables : tables_with trees ≡ t

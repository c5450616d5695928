-- The tables and the indexes that shapes stand for.
-- Inner: it serves proofs alone, and no promise rests on it.
use Rattle.std.specs.Prelude.{map}
use Rattle.sqlite_schema.specs.declared.schema.Index.{Index}
use Rattle.sqlite_schema.specs.declared.schema.Table.{Table}
use Rattle.hq_schema.specs.Schema.{column, table, unique_index}
use Rattle.hq_schema.specs.declared.shape.IndexShape.{IndexShape}
use Rattle.hq_schema.specs.declared.shape.TableShape.{TableShape}

abbrev pub table_of : TableShape → Table
table_of s = record (table s.name.now (map (λ c. column c.0.now c.1) s.columns.now) s.primary.now
    (map (λ p. p.now) s.uniques.now)) { tree = s.tree }

abbrev pub index_of : IndexShape → Index
index_of s = unique_index s.name.now s.tree s.table s.places.now

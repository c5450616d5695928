-- What the statements on lines leave.
-- Inner: it serves proofs alone, and no promise rests on it.
use Rattle.std.specs.Prelude.{ℕ, List, [], ◌∷◌}
use Rattle.std.specs.FinMap.{insert, remove}
use Rattle.sqlite.specs.declared.types.Value.TheVariants.{Text}
use Rattle.sqlite.specs.Order.{Row}
use Rattle.hq_kept.specs.Patterns.{class_name}
use Rattle.hq_kept.specs.declared.pattern.Class.{Class}
use Rattle.hq_kept.specs.declared.pattern.Line.{Line}
use Rattle.hq_rows.specs.declared.rows.LineRow.{LineRow}
use Rattle.hq_rows.specs.Listed.{line_row_key, line_row_value}
use Rattle.hq_tables.specs.Tables.{Tables}

abbrev pub line_row : List ℕ → Line → LineRow
line_row customer line = record { customer = customer; line = line }

-- the line stands at its pattern
abbrev pub tables_with_line : LineRow → Tables → Tables
tables_with_line r t = record t { lines = insert t.lines (line_row_key r) (line_row_value r) }

-- no line stands at the pattern
abbrev pub tables_without_line : List ℕ × (Class × List ℕ) → Tables → Tables
tables_without_line key t = record t { lines = remove t.lines key }

-- the columns of a key
abbrev pub line_key_columns : List ℕ × (Class × List ℕ) → Row
line_key_columns key = Text key.0 ∷ Text (class_name key.1.0) ∷ Text key.1.1 ∷ []

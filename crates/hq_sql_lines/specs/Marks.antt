-- What the statements on marks leave.
-- Inner: it serves proofs alone, and no promise rests on it.
use Rattle.std.specs.Prelude.{ℕ, pos, List, [], ◌∷◌}
use Rattle.std.specs.FinMap.{insert, remove}
use Rattle.sqlite.specs.declared.types.Value.TheVariants.{Text}
use Rattle.sqlite.specs.Order.{Row}
use Rattle.hq_kept.specs.declared.mark.Mark.{Mark}
use Rattle.hq_rows.specs.declared.rows.MarkRow.{MarkRow}
use Rattle.hq_rows.specs.Listed.{mark_key, mark_value}
use Rattle.hq_tables.specs.Tables.{Tables}
use Rattle.hq_sql_lines.specs.declared.bind.MarkNumbers.{MarkNumbers}

abbrev pub mark_row : List ℕ → Mark → MarkRow
mark_row customer mark = record { customer = customer; mark = mark }

-- the mark stands at its label
abbrev pub with_mark : MarkRow → Tables → Tables
with_mark r t = record t { marks = insert t.marks (mark_key r) (mark_value r) }

-- no mark stands at the label
abbrev pub without_mark : List ℕ × List ℕ → Tables → Tables
without_mark key t = record t { marks = remove t.marks key }

-- the columns of a key
abbrev pub mark_key_columns : List ℕ × List ℕ → Row
mark_key_columns key = Text key.0 ∷ Text key.1 ∷ []

-- the numbers of a mark as columns take them
abbrev pub mark_numbers : Mark → MarkNumbers
mark_numbers mark = record {
  added = pos mark.added;
  changed = pos mark.changed;
  same = pos mark.same;
}

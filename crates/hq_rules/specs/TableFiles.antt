-- Access tables as CSV: rows of class, pattern and action under the header `class,pattern,action`.
-- Patterns and actions are those of access(5); the form of the file and the order of its faults are
-- this product's own.
use Rattle.std.specs.Prelude.{ℕ, ◌+◌, Bool, true, false, ◌&&◌, not, ◌==◌, nat_le, List, [], ◌∷◌}
use Rattle.std.specs.Prelude.{◌++◌, length, codes}
use Rattle.std.specs.Prelude.{option_and_then, Result, Ok}
use Rattle.std.specs.List.{list_any}
use Rattle.hq_values.specs.Readers.{◌>>=◌, guard, or_refuse}
use Rattle.hq_values.specs.declared.failure.Refusal.{Refusal}
use Rattle.hq_values.specs.declared.failure.Refusal.TheVariants.{BadCsv, DoubledPattern}
use Rattle.hq_kept.specs.Actions.{action_in}
use Rattle.hq_kept.specs.Patterns.{class_in, pattern_in}
use Rattle.hq_kept.specs.declared.pattern.Class.{Class}
use Rattle.hq_kept.specs.declared.pattern.Class.TheVariants.{SenderSide, RecipientSide}
use Rattle.hq_kept.specs.declared.pattern.Line.{Line}
use Rattle.hq_kept.specs.Customers.{is_same_text}
use Rattle.hq_rules.specs.Fields.{text_field, refused_as}
use Rattle.hq_rules.specs.Records.{Record, most_rows, rows_in}

-- the line of a row: three texts, which are a class, a pattern of that class, and an action
unfoldable pub line_in : Refusal → Record → Result Line Refusal
line_in bad fields = do
  three ← guard (length fields == 3) bad
  class ← or_refuse bad (option_and_then class_in (text_field 0 fields))
  pattern ← or_refuse bad (text_field 1 fields)
  action ← or_refuse bad (text_field 2 fields)
  key ← refused_as bad (pattern_in class pattern)
  verb ← refused_as bad (action_in action)
  Ok (record { pattern = key; action = verb })

abbrev pub is_same_class : Class → Class → Bool
is_same_class SenderSide SenderSide = true
is_same_class SenderSide RecipientSide = false
is_same_class RecipientSide SenderSide = false
is_same_class RecipientSide RecipientSide = true

-- two lines of one class whose patterns have one text; patterns are folded, so their spelling does
-- not count
abbrev pub is_same_pattern : Class × List ℕ → Line → Bool
is_same_pattern pattern line = is_same_class pattern.0 line.pattern.0
    && is_same_text pattern.1 line.pattern.1

-- a line's pattern stands in an earlier row
abbrev pub is_repeated_line : List Line → Line → Bool
is_repeated_line earlier line = list_any (is_same_pattern line.pattern) earlier

-- no two lines are of one class and one pattern
abbrev pub patterns_apart : List Line → Bool
patterns_apart [] = true
patterns_apart (line ∷ lines) = not (is_repeated_line lines line) && patterns_apart lines

-- The line of the row under these lines, of which there is one per row, or what is wrong with that
-- row: there are too many, or it is bad; or else its pattern is doubled.
unfoldable pub next_line : List Line → Record → Result Line Refusal
next_line earlier fields =
    let number = length earlier + 1 in do
      few ← guard (nat_le number most_rows) (BadCsv number)
      line ← line_in (BadCsv number) fields
      new ← guard (not (is_repeated_line earlier line)) (DoubledPattern number)
      Ok line

-- these lines and those of the rows under them, or what is wrong with the first row that is not
-- good
unfoldable pub lines_under : List Line → List Record → Result (List Line) Refusal
lines_under earlier [] = Ok earlier
lines_under earlier (row ∷ rows) = next_line earlier row >>=
    (λ line. lines_under (earlier ++ line ∷ []) rows)

abbrev pub table_header : Record
table_header = codes "class" ∷ codes "pattern" ∷ codes "action" ∷ []

-- The lines of an access table, in the order of its rows, or its first fault: 50 at row 0 is the
-- header or the whole file.
unfoldable pub table_lines : List ℕ → Result (List Line) Refusal
table_lines file = rows_in table_header (BadCsv 0) file >>= lines_under []

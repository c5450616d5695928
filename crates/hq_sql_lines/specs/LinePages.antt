-- What the statements on pages of lines find.
-- Inner: it serves proofs alone, and no promise rests on it.
use Rattle.std.specs.Prelude.{ℕ, List, [], ◌∷◌, map}
use Rattle.sqlite.specs.declared.types.Value.TheVariants.{Text}
use Rattle.sqlite.specs.Order.{Row}
use Rattle.hq_kept.specs.Patterns.{class_name}
use Rattle.hq_kept.specs.declared.pattern.Class.{Class}
use Rattle.hq_kept.specs.declared.pattern.Line.{Line}
use Rattle.hq_keyed.specs.Values.{number}
use Rattle.hq_sql.specs.Rows.{line_shown}

-- the line of a row of an answer
abbrev pub page_line : Row → Line
page_line r = (line_shown r).line

-- the lines of an answer
abbrev pub page_lines : List Row → List Line
page_lines rows = map page_line rows

-- what the first page is asked with
abbrev pub first_columns : List ℕ → ℕ → Row
first_columns customer limit = Text customer ∷ number limit ∷ []

-- what the page after a pattern is asked with
abbrev pub after_columns : List ℕ → Class × List ℕ → ℕ → Row
after_columns customer last limit = Text customer ∷ Text (class_name last.0) ∷ Text last.1
    ∷ number limit ∷ []

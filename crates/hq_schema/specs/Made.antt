-- What the texts make.
use Rattle.std.specs.Prelude.{◌≡◌, List, ℕ, [], ◌∷◌, ◌++◌, Ok, fold}
use Rattle.sqlite.specs.Compile.{table_defined_by}
use Rattle.sqlite_catalog.specs.Change.{created}
use Rattle.sqlite_schema.specs.declared.schema.Schema.{Schema}
use Rattle.sqlite_schema.specs.declared.schema.Table.{Table}
use Rattle.hq_schema.specs.Schema.{version_text, heads_text, messages_text, recipients_text}
use Rattle.hq_schema.specs.Schema.{lines_text, notices_text, marks_text, holds_text, ends_text}
use Rattle.hq_schema.specs.Schema.{no_schema, version, heads, messages, recipients, lines, notices}
use Rattle.hq_schema.specs.Schema.{marks, holds, ends}

-- the tables of a desk of version 1, in the order in which they are made
abbrev pub first_tables : List Table
first_tables = version ∷ heads ∷ messages ∷ recipients ∷ lines ∷ notices ∷ marks ∷ []

-- those of a desk of version 2
abbrev pub second_tables : List Table
second_tables = first_tables ++ holds ∷ []

-- the tables of a desk, in the order in which they are made
abbrev pub desk_tables : List Table
desk_tables = second_tables ++ ends ∷ []

-- the text of each
abbrev pub desk_texts : List (List ℕ)
desk_texts = version_text ∷ heads_text ∷ messages_text ∷ recipients_text ∷ lines_text ∷ notices_text
    ∷ marks_text ∷ holds_text ∷ ends_text ∷ []

-- the text defines this table, as `sqlite` reads it
abbrev pub Defines : List ℕ → Table → Type 0
Defines text table = table_defined_by text ≡ Ok table

-- the schema after these tables were made, one after another, in a store in which nothing was made
-- yet
abbrev pub all_made : List Table → Schema
all_made = fold created no_schema

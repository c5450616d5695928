-- What the desk answers and changes on an import of lines of the access tables: a file is taken
-- once for its label, whole or not at all. It is this product's own.
use Rattle.std.specs.Prelude.{ℕ, ◌+◌, Bool, true, false, nat_lt, List, [], ◌∷◌, ◌++◌, map}
use Rattle.std.specs.Prelude.{if◌then◌else◌, Option, None, Some, Result, Ok, Err}
use Rattle.std.specs.List.{count_by, flat_map}
use Rattle.std.specs.Str.{bytes_eq}
use Rattle.sha2.specs.Sha256.{sha256}
use Rattle.hq_values.specs.declared.failure.Refusal.{Refusal}
use Rattle.hq_values.specs.declared.failure.Refusal.TheVariants.{LabelUsed, QuotaLines}
use Rattle.hq_kept.specs.declared.action.Action.{Action}
use Rattle.hq_kept.specs.declared.pattern.Line.{Line}
use Rattle.hq_rules.specs.TableFiles.{table_lines}
use Rattle.hq_tables.specs.Readings.{Readings}
use Rattle.hq_tables.specs.declared.change.Change.{Change}
use Rattle.hq_tables.specs.declared.change.Change.TheVariants.{PutLine, PutMark}
use Rattle.hq_kept.specs.declared.mark.Mark.{Mark}
use Rattle.hq_rules.specs.AccessLines.{same_action}
use Rattle.hq_rules.specs.Answering.{tell, refuse}
use Rattle.hq_rules.specs.declared.answer.Answer.TheVariants as answer
use Rattle.hq_rules.specs.declared.answer.ImportCounts.{ImportCounts}
use Rattle.hq_rules.specs.declared.answer.LinePut.{LinePut}
use Rattle.hq_rules.specs.declared.answer.LinePut.TheVariants.{Added, Changed, Same}
use Rattle.hq_rules.specs.declared.decision.Decision.{Decision}

-- ---- a row beside the customer's lines

-- what setting an action does, beside the one that its pattern has
abbrev pub beside : Action → Option Action → LinePut
beside action None = Added
beside action (Some known) = if same_action known action then Same else Changed

-- what a row does to the lines before the import
abbrev pub meets : Readings → Line → LinePut
meets readings line = beside line.action (readings.line line.pattern.0 line.pattern.1)

abbrev pub line_met : Readings → Line → Line × LinePut
line_met readings line = (line, meets readings line)

-- ---- what is counted and kept

abbrev pub is_put : LinePut → LinePut → Bool
is_put Added Added = true
is_put Changed Changed = true
is_put Same Same = true
is_put _ _ = false

-- how many rows did this
abbrev pub rows_that : LinePut → List (Line × LinePut) → ℕ
rows_that put rows = count_by (λ (row : Line × LinePut). is_put put row.1) rows

abbrev pub counts_of : List (Line × LinePut) → ImportCounts
counts_of rows = record {
  added = rows_that Added rows;
  changed = rows_that Changed rows;
  same = rows_that Same rows;
}

abbrev pub mark_of : List ℕ → List ℕ → ImportCounts → Mark
mark_of label digest counts = record {
  label = label;
  digest = digest;
  added = counts.added;
  changed = counts.changed;
  same = counts.same;
}

-- the lines that a row changes are set; then the mark is put
abbrev pub set_by : Line × LinePut → List Change
set_by (line, Same) = []
set_by (line, _) = PutLine line ∷ []

abbrev pub changes_of : List ℕ → List ℕ → List (Line × LinePut) → List Change
changes_of label digest rows = flat_map set_by rows
    ++ PutMark (mark_of label digest (counts_of rows)) ∷ []

-- ---- the import

-- a label that was used: the same file again is told its counts, and any other is refused
abbrev pub repeated : List ℕ → Mark → Decision
repeated digest mark = if bytes_eq digest mark.digest
    then tell (answer.Imported (record {
      added = mark.added;
      changed = mark.changed;
      same = mark.same;
    }))
    else refuse LabelUsed

-- rows that are taken, where the customer then has as many lines as its quota or fewer
abbrev pub taken : ℕ → ℕ → List ℕ → List ℕ → List (Line × LinePut) → Decision
taken quota count label digest rows = if nat_lt quota (count + rows_that Added rows) then
    refuse QuotaLines
    else record {
      answer = answer.Imported (counts_of rows);
      changes = changes_of label digest rows;
    }

-- a label that is new: the first bad row of the file is refused before the quota is looked at
abbrev pub first_import : ℕ → Readings → List ℕ → List ℕ → Result (List Line) Refusal → Decision
first_import quota readings label digest (Err refusal) = refuse refusal
first_import quota readings label digest (Ok lines) =
    taken quota readings.counts.lines label digest (map (line_met readings) lines)

-- two files of one SHA-256 digest count as one
abbrev pub import : ℕ → Readings → List ℕ → List ℕ → Option Mark → Decision
import quota readings label file (Some mark) = repeated (sha256 file) mark
import quota readings label file None =
    first_import quota readings label (sha256 file) (table_lines file)

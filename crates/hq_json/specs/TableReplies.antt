-- What is told of access tables: lines, lookups, imports, and who is refused. Members stand in the
-- order of their names.
use Rattle.std.specs.Prelude.{ℕ, Bool, List, [], ◌∷◌, map, codes, Option, None, Some}
use Rattle.serde_json.specs.Data.{Data, null, boolean, string, array}
use Rattle.serde_json.specs.View.{items_of}
use Rattle.hq_values.specs.Senders.{sender_text}
use Rattle.hq_kept.specs.Actions.{action_text}
use Rattle.hq_kept.specs.Patterns.{class_name}
use Rattle.hq_kept.specs.declared.action.Action.{Action}
use Rattle.hq_kept.specs.declared.pattern.Line.{Line}
use Rattle.hq_rules.specs.declared.verdict.Refused.{Refused}
use Rattle.hq_rules.specs.declared.answer.ImportCounts.{ImportCounts}
use Rattle.hq_rules.specs.declared.answer.LinePut.{LinePut}
use Rattle.hq_rules.specs.declared.answer.LinePut.TheVariants.{Added, Changed, Same}
use Rattle.hq_json.specs.Objects.{having, count, texts}

-- a sender or a recipient that is refused; the null sender is the empty text
abbrev pub refused_entry : Refused → Data
refused_entry r = having (
    (codes "address", string (sender_text r.address)) ∷
    (codes "code", count r.code) ∷
    (codes "text", string r.text) ∷
    [])

abbrev pub refused_list : List Refused → Data
refused_list rs = array (items_of (map refused_entry rs))

-- a line, with its action as it is written
abbrev pub line_entry : Line → Data
line_entry l = having (
    (codes "action", string (action_text l.action)) ∷
    (codes "class", string (class_name l.pattern.0)) ∷
    (codes "pattern", string l.pattern.1) ∷
    [])

unfoldable pub lines_listed : List Line → Bool → Data
lines_listed ls more = having (
    (codes "lines", array (items_of (map line_entry ls))) ∷
    (codes "more", boolean more) ∷
    [])

abbrev pub put_name : LinePut → List ℕ
put_name Added = codes "added"
put_name Changed = codes "changed"
put_name Same = codes "same"

abbrev pub line_put : LinePut → Data
line_put done = having ((codes "put", string (put_name done)) ∷ [])

abbrev pub line_dropped : Data
line_dropped = having ((codes "dropped", count 1) ∷ [])

-- the action that was found, or null
abbrev pub action_found : Option (List ℕ × Action) → Data
action_found None = null
action_found (Some found) = string (action_text found.1)

-- the pattern of its line, or null
abbrev pub pattern_found : Option (List ℕ × Action) → Data
pattern_found None = null
pattern_found (Some found) = string found.0

unfoldable pub check_json : List (List ℕ) → Option (List ℕ × Action) → Data
check_json keys found = having (
    (codes "action", action_found found) ∷
    (codes "keys", texts keys) ∷
    (codes "pattern", pattern_found found) ∷
    [])

abbrev pub import_json : ImportCounts → Data
import_json counts = having (
    (codes "added", count counts.added) ∷
    (codes "changed", count counts.changed) ∷
    (codes "same", count counts.same) ∷
    [])

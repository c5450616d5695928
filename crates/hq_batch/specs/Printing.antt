-- What is printed, and how calls of an administrator are told.
use Rattle.std.specs.Prelude.{ℕ, ◌≡◌, ◌≢◌, ◌≤◌, ◌==◌, ⊤, Bool, List, [], map, max, Option, Result}
use Rattle.std.specs.Prelude.{Ok, Err, if◌then◌else◌}
use Rattle.std.specs.Io.KnownBytes.{Appends}
use Rattle.std.specs.List.{concat, list_all}
use Rattle.hq_lines.specs.Written.{AppendsPart}
use Rattle.hq_rules.specs.declared.render.Rendered.{Rendered}
use Rattle.hq_batch.specs.Runs.{status}
use Rattle.hq_settings.specs.declared.trouble.Trouble.{Trouble}
use Rattle.hq_settings.specs.declared.trouble.Trouble.TheVariants.{Output}

-- A text is written to the output. Or the output fails, which is told, and a beginning of the text
-- was written.
abbrev pub IsPut : List ℕ → Option (List ℕ) → Option (List ℕ) → Result ⊤ Trouble → Type 0
IsPut text old new (Ok _) = Appends old new text
IsPut text old new (Err trouble) = (trouble ≡ Output) × AppendsPart old new text

-- An answer that is no refusal is written to the output, and the exit status is 0; or the output
-- fails, it is 1, and a beginning of the answer was written. For a refusal or a fault nothing is
-- written there, and it is 1.
abbrev pub IsPrinted : Result Rendered Trouble → Type 0 → Option (List ℕ) → Option (List ℕ) → ℕ →
    Type 0
IsPrinted (Ok rendered) unwritten old new status =
    (rendered.number ≢ 0 → unwritten × (status ≡ 1))
    × (rendered.number ≡ 0 → (status ≤ 1) × (status ≡ 0 → Appends old new rendered.bytes.items)
    × AppendsPart old new rendered.bytes.items)
IsPrinted (Err trouble) unwritten old new status = unwritten × (status ≡ 1)

-- An answer that is no refusal is written to the output, and the exit status is 0; of a refusal
-- nothing is written, and it is 1. Or the output fails, which is told, and a beginning of the
-- answer was written.
abbrev pub IsShown : Rendered → Type 0 → Option (List ℕ) → Option (List ℕ) → Result ℕ Trouble →
    Type 0
IsShown rendered unwritten old new (Ok exit_status) =
    (rendered.number ≢ 0 → unwritten × (exit_status ≡ 1))
    × (rendered.number ≡ 0 → (exit_status ≡ 0) × Appends old new rendered.bytes.items)
IsShown rendered unwritten old new (Err trouble) = (rendered.number ≡ 0) × (trouble ≡ Output)
    × AppendsPart old new rendered.bytes.items

-- whether a call was answered, and not refused
abbrev pub is_answered : Rendered → Bool
is_answered rendered = rendered.number == 0

-- what is written to the output of a call: its answer, and nothing of a refusal
abbrev pub answer_of : Rendered → List ℕ
answer_of rendered = if is_answered rendered then rendered.bytes.items else []

abbrev pub answers_of : List Rendered → List ℕ
answers_of told = concat (map answer_of told)

-- the exit status of calls whose answers are on the output
abbrev pub calls_status : List Rendered → ℕ
calls_status told = if list_all is_answered told then 0 else 1

-- Answers are written to the output in their order; or the output fails, which is told, and a
-- beginning of them was written.
abbrev pub AreShown : List Rendered → Option (List ℕ) → Option (List ℕ) → Result ℕ Trouble → Type 0
AreShown told old new (Ok exit_status) = (exit_status ≡ calls_status told)
    × Appends old new (answers_of told)
AreShown told old new (Err trouble) = (trouble ≡ Output) × AppendsPart old new (answers_of told)

-- Answers are written to the output in their order, and the exit status is 0 exactly where none of
-- the calls was refused. Or the output fails, it is 1, and a beginning of them was written.
pub record ArePrinted (told : List Rendered) (old new : Option (List ℕ)) (exit_status : ℕ) : Type 0
  where
    pub wrote : Result ⊤ Trouble
    pub written : IsPut (answers_of told) old new wrote
    pub status_is : exit_status ≡ max (calls_status told) (status wrote)

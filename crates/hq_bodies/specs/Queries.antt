-- The bodies of the relay's calls that read: {"after"} and {"before"}, from where on a list goes,
-- null for the start; {"id"} and {"number"}, what is shown; {"from"}, the first customer that a
-- call of all asks, null for the first of the directory.
use Rattle.std.specs.Prelude.{ℕ, List, [], ◌∷◌, codes, Option, Some, None, Bool, true, false}
use Rattle.std.specs.Prelude.{option_and_then, Result, Ok, if◌then◌else◌}
use Rattle.serde_json.specs.Data.{Data, null, boolean, number, string, array, object}
use Rattle.serde_json.specs.Find.{get, as_object}
use Rattle.hq_values.specs.Readers.{◌>>=◌, guard, or_refuse, seen_by}
use Rattle.hq_values.specs.Serials.{serial_in}
use Rattle.hq_values.specs.declared.failure.Refusal.{Refusal}
use Rattle.hq_values.specs.declared.failure.Refusal.TheVariants.{BadJson, BadField}
use Rattle.hq_bodies.specs.Reading.{json_of, has_only_members, text_at, number_at}

-- the greatest number of a notice that a call names: 13 digits
abbrev pub last_notice : ℕ
last_notice = 9999999999999

-- an object of this member and no other
unfoldable pub value_with : List ℕ → List ℕ → Result Data Refusal
value_with name bytes = do
  d ← or_refuse BadJson (json_of bytes)
  known ← guard (has_only_members (name ∷ []) (as_object d)) BadField
  Ok d

abbrev pub null_in : Option Data → Bool
null_in None = false
null_in (Some null) = true
null_in (Some (boolean b)) = false
null_in (Some (number n)) = false
null_in (Some (string text)) = false
null_in (Some (array ds)) = false
null_in (Some (object ms)) = false

-- a member is there, and null
abbrev pub is_null_at : List ℕ → Data → Bool
is_null_at name d = null_in (get name d)

-- a member that is a queue ID
abbrev pub id_at : List ℕ → Data → Result ℕ Refusal
id_at name d = or_refuse BadField (option_and_then serial_in (text_at name d))

-- a member that is the number of a notice
abbrev pub notice_at : List ℕ → Data → Result ℕ Refusal
notice_at name d = or_refuse BadField (number_at name 1 last_notice d)

-- the member `after`, null for the start
abbrev pub after_in : (List ℕ → Data → Result ℕ Refusal) → Data → Result (Option ℕ) Refusal
after_in read d = if is_null_at (codes "after") d then Ok None else
    seen_by Some (read (codes "after") d)

-- the member `before`: null, or a number
abbrev pub before_at : Data → Result (Option ℕ) Refusal
before_at d = if is_null_at (codes "before") d then Ok None else
    seen_by Some (notice_at (codes "before") d)

-- the member `from`: null, or a text
abbrev pub from_at : Data → Result (Option (List ℕ)) Refusal
from_at d = if is_null_at (codes "from") d then Ok None else
    seen_by Some (or_refuse BadField (text_at (codes "from") d))

-- the name of the customer to begin at, or none for the first
unfoldable pub read_from : List ℕ → Result (Option (List ℕ)) Refusal
read_from bytes = do
  d ← value_with (codes "from") bytes
  from_at d

-- the serial after which to go on, or none for the start
unfoldable pub read_message_after : List ℕ → Result (Option ℕ) Refusal
read_message_after bytes = do
  d ← value_with (codes "after") bytes
  after_in id_at d

-- the serial of the message
unfoldable pub read_message_id : List ℕ → Result ℕ Refusal
read_message_id bytes = do
  d ← value_with (codes "id") bytes
  id_at (codes "id") d

-- the number after which to go on, or none for the start
unfoldable pub read_notice_after : List ℕ → Result (Option ℕ) Refusal
read_notice_after bytes = do
  d ← value_with (codes "after") bytes
  after_in notice_at d

-- the number before which to go on, or none for the newest
unfoldable pub read_history_before : List ℕ → Result (Option ℕ) Refusal
read_history_before bytes = do
  d ← value_with (codes "before") bytes
  before_at d

-- the number of the notice
unfoldable pub read_notice_number : List ℕ → Result ℕ Refusal
read_notice_number bytes = do
  d ← value_with (codes "number") bytes
  notice_at (codes "number") d

-- The bodies that speak of lines of an access table: of a pattern {"class", "pattern"}, alone or
-- with from where on to look {"after"} or {"before"}, of a line {"class", "pattern", "action"}, of
-- an address to look up {"class", "address"}, and of a file of lines {"label", "csv"}.
use Rattle.std.specs.Prelude.{ℕ, List, [], ◌∷◌, codes, Option}
use Rattle.std.specs.Prelude.{Some, None, option_and_then, Result, Ok, if◌then◌else◌}
use Rattle.serde_json.specs.Data.{Data}
use Rattle.serde_json.specs.Find.{as_object}
use Rattle.hq_values.specs.Readers.{◌>>=◌, guard, or_refuse, seen_by}
use Rattle.hq_values.specs.declared.failure.Refusal.{Refusal}
use Rattle.hq_values.specs.declared.failure.Refusal.TheVariants.{BadJson, BadField}
use Rattle.hq_values.specs.Addresses.{address_in}
use Rattle.hq_values.specs.Senders.{sender_in}
use Rattle.hq_values.specs.Words.{label_in}
use Rattle.hq_values.specs.declared.address.Sender.{Sender}
use Rattle.hq_values.specs.declared.address.Sender.TheVariants.{From}
use Rattle.hq_kept.specs.Actions.{action_in}
use Rattle.hq_kept.specs.Patterns.{class_in, pattern_in}
use Rattle.hq_kept.specs.declared.pattern.Class.{Class}
use Rattle.hq_kept.specs.declared.pattern.Class.TheVariants.{SenderSide, RecipientSide}
use Rattle.hq_kept.specs.declared.pattern.Line.{Line}
use Rattle.hq_bodies.specs.Queries.{after_in, before_at, id_at}
use Rattle.hq_bodies.specs.Reading.{json_of, has_only_members, text_at}

-- a member that is the name of a class
abbrev pub class_at : Data → Option Class
class_at d = option_and_then class_in (text_at (codes "class") d)

-- who an address is: on the side of senders the empty text is the null sender
abbrev pub party_in : Class → List ℕ → Result Sender Refusal
party_in SenderSide text = sender_in text
party_in RecipientSide text = seen_by (λ address. From address) (address_in text)

-- each reading: JSON, then every member of its kind and no other, then the values in the order of
-- the members
unfoldable pub read_pattern : List ℕ → Result (Class × List ℕ) Refusal
read_pattern bytes = do
  d ← or_refuse BadJson (json_of bytes)
  known ← guard (has_only_members (codes "class" ∷ codes "pattern" ∷ []) (as_object d)) BadField
  class ← or_refuse BadField (class_at d)
  pattern ← or_refuse BadField (text_at (codes "pattern") d)
  pattern_in class pattern

-- the serial after which to go on, or none for the start, and the pattern that is for the messages
unfoldable pub read_find : List ℕ → Result (Option ℕ × (Class × List ℕ)) Refusal
read_find bytes = do
  d ← or_refuse BadJson (json_of bytes)
  known ← guard (has_only_members (codes "class" ∷ codes "pattern" ∷ codes "after" ∷ [])
      (as_object d)) BadField
  class ← or_refuse BadField (class_at d)
  pattern ← or_refuse BadField (text_at (codes "pattern") d)
  after ← after_in id_at d
  key ← pattern_in class pattern
  Ok (after, key)

-- a pattern, and the number before which a search goes on, null for the newest
unfoldable pub read_search : List ℕ → Result ((Class × List ℕ) × Option ℕ) Refusal
read_search bytes = do
  d ← or_refuse BadJson (json_of bytes)
  known ← guard (has_only_members (codes "class" ∷ codes "pattern" ∷ codes "before" ∷ [])
      (as_object d)) BadField
  class ← or_refuse BadField (class_at d)
  pattern ← or_refuse BadField (text_at (codes "pattern") d)
  before ← before_at d
  key ← pattern_in class pattern
  Ok (key, before)

unfoldable pub read_line : List ℕ → Result Line Refusal
read_line bytes = do
  d ← or_refuse BadJson (json_of bytes)
  known ← guard (has_only_members (codes "class" ∷ codes "pattern" ∷ codes "action" ∷ [])
      (as_object d)) BadField
  class ← or_refuse BadField (class_at d)
  pattern ← or_refuse BadField (text_at (codes "pattern") d)
  action ← or_refuse BadField (text_at (codes "action") d)
  key ← pattern_in class pattern
  verb ← action_in action
  Ok (record { pattern = key; action = verb })

unfoldable pub read_check : List ℕ → Result (Class × Sender) Refusal
read_check bytes = do
  d ← or_refuse BadJson (json_of bytes)
  known ← guard (has_only_members (codes "class" ∷ codes "address" ∷ []) (as_object d)) BadField
  class ← or_refuse BadField (class_at d)
  address ← or_refuse BadField (text_at (codes "address") d)
  who ← party_in class address
  Ok (class, who)

-- the file is the UTF-8 bytes of its text
unfoldable pub read_import : List ℕ → Result (List ℕ × List ℕ) Refusal
read_import bytes = do
  d ← or_refuse BadJson (json_of bytes)
  known ← guard (has_only_members (codes "label" ∷ codes "csv" ∷ []) (as_object d)) BadField
  label ← or_refuse BadField (text_at (codes "label") d)
  file ← or_refuse BadField (text_at (codes "csv") d)
  name ← label_in label
  Ok (name, file)

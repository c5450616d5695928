-- Tables that were kept before reasons were, and what a migration makes of them.
use Rattle.std.specs.Prelude.{ℕ, Bool, ⊤, List, [], map, filter, if◌then◌else◌}
use Rattle.std.specs.FinMap.{FinMap, entries, from_entries}
use Rattle.hq_values.specs.Words.{earlier_hold}
use Rattle.hq_kept.specs.Messages.{is_on_hold}
use Rattle.hq_kept.specs.declared.message.Message.{Message}
use Rattle.hq_tables.specs.Tables.{State, Tables, Row, message_cmp}
use Rattle.hq_tables.specs.Sound.{SoundBy}
use Rattle.hq_owned.specs.Owned.{map_values}

-- a message on hold gets that reason, and any other none
abbrev pub lifted : Message → Message
lifted m = record m { reason = if is_on_hold m.state then earlier_hold else [] }

-- a customer's state, so lifted
abbrev pub lift : State → State
lift s = record s { messages = map_values (λ _ m. lifted m) s.messages }

abbrev pub on_hold : (List ℕ × ℕ) × Row → Bool
on_hold e = is_on_hold e.1.state

-- this reason for each message on hold, and for no other
unfoldable pub holds_for : List ℕ → FinMap message_cmp Row → FinMap message_cmp (List ℕ)
holds_for reason messages = from_entries (map (λ e. (e.0, reason))
    (filter on_hold (entries messages)))

-- the tables, so lifted: all stay but the reasons
abbrev pub lifted_tables : Tables → Tables
lifted_tables t = record t { holds = holds_for earlier_hold t.messages }

-- sound tables, whatever the reasons of messages are: those that were kept before reasons were have
-- none
abbrev pub FirstSound : Tables → Type 0
FirstSound = SoundBy (λ m. ⊤)

-- What the statements on messages find and leave.
-- Inner: it serves proofs alone, and no promise rests on it.
use Rattle.std.specs.Prelude.{◌≡◌, ℕ, ℤ, pos, negsuc, Bool, true, false, not, ◌&&◌, nat_le}
use Rattle.std.specs.Prelude.{List, [], ◌∷◌}
use Rattle.std.specs.Prelude.{Option, None, Some, Result, IfOk}
use Rattle.std.specs.Ordering.{eq_by_cmp}
use Rattle.std.specs.FinMap.{insert, remove}
use Rattle.sqlite.specs.declared.types.Value.TheVariants.{Text, Int}
use Rattle.sqlite.specs.Order as sqlite
use Rattle.sqlite.specs.declared.error.Error.{Error}
use Rattle.sqlite.specs.State.{State, HasCleanDisk}
use Rattle.hq_sql.specs.Tables.{IsDesk, Leaves, tables_in}
use Rattle.hq_keyed.specs.Values.{number}
use Rattle.hq_kept.specs.Messages.{is_on_hold}
use Rattle.hq_kept.specs.declared.message.Message.{Message}
use Rattle.hq_tables.specs.Tables.{Tables, Row, text_cmp, row_of, message_of}
use Rattle.hq_rows.specs.Listed.{message_value}
use Rattle.hq_rows.specs.Lookups.{is_after}
use Rattle.hq_sql.specs.Rows.{message_shown}

-- the row of the message stands at its key
abbrev pub with_row : List ℕ → Message → Tables → Tables
with_row customer m t = record t { messages = insert t.messages (customer, m.serial) (row_of m) }

-- What an UPDATE of a message of this size leaves, by whether it tells of one: `before` is the size
-- that it had, `t` are the tables before.
pub record UpdatedSize (there : Bool) (old new : State) (before : Option ℕ) (size : ℕ)
    (t after : Tables) : Type 0 where
  pub made : there ≡ true → Leaves old new after
  pub same : there ≡ true → before ≡ Some size
  pub untouched : there ≡ false → Leaves old new t

-- An UPDATE of a message of this size tells whether there is one, and leaves `f` of the tables
-- before where there is.
abbrev pub UpdatesSize : State → State → Result Bool Error → (Tables → Option ℕ) → ℕ →
    (Tables → Tables) → Type 0
UpdatesSize old new result at size f = HasCleanDisk new → IsDesk old.now →
    IfOk result (λ there. UpdatedSize there old new (at (tables_in old.now)) size
    (tables_in old.now) (f (tables_in old.now)))

-- no row stands at the key
abbrev pub without_row : List ℕ × ℕ → Tables → Tables
without_row key t = record t { messages = remove t.messages key }

-- the number that each serial of a page is above: -1 lets all pass
abbrev pub above_number : Option ℕ → ℤ
above_number None = negsuc 0
above_number (Some n) = pos n

-- what a page is asked with
abbrev pub message_page_columns : List ℕ → Option ℕ → ℕ → sqlite.Row
message_page_columns customer after limit = Text customer ∷ Int (above_number after) ∷ number limit
    ∷ []

-- and a page of messages that may be tried by a moment
abbrev pub due_page_columns : List ℕ → ℕ → Option ℕ → ℕ → sqlite.Row
due_page_columns customer at after limit = Text customer ∷ Int (above_number after) ∷ number at
    ∷ number limit ∷ []

-- what a spool name is asked with
abbrev pub spool_columns : List ℕ → List ℕ → sqlite.Row
spool_columns customer spool = Text customer ∷ Text spool ∷ []

-- a message of the customer after a serial, or any of its messages
abbrev pub is_on_page : List ℕ → Option ℕ → (List ℕ × ℕ) × Row → Bool
is_on_page customer after e = eq_by_cmp text_cmp customer e.0.0 && is_after after e.0.1

-- the row of a message that may be tried by a moment
abbrev pub row_is_due : ℕ → Row → Bool
row_is_due at r = not (is_on_hold r.state) && nat_le r.next_try at

-- and such a message of the customer after a serial, or any such
abbrev pub is_on_due_page : List ℕ → ℕ → Option ℕ → (List ℕ × ℕ) × Row → Bool
is_on_due_page customer at after e = eq_by_cmp text_cmp customer e.0.0
    && (is_after after e.0.1 && row_is_due at e.1)

-- a message of the customer with a spool name
abbrev pub has_spool_name : List ℕ → List ℕ → (List ℕ × ℕ) × Row → Bool
has_spool_name customer spool e = eq_by_cmp text_cmp customer e.0.0
    && eq_by_cmp text_cmp spool e.1.spool

-- the message of a row of an answer, without reason and recipients
abbrev pub bare : sqlite.Row → Message
bare r = message_of (message_shown r).serial (message_value (message_shown r)) [] []

-- the message of an entry, without reason and recipients
abbrev pub bare_entry : (List ℕ × ℕ) × Row → Message
bare_entry e = message_of e.0.1 e.1 [] []

-- What the statements on all messages of a customer find and leave.
-- Inner: it serves proofs alone, and no promise rests on it.
use Rattle.std.specs.Prelude.{◌≡◌, ℕ, Bool, true, false, not, ◌&&◌, cond, List, [], ◌∷◌, map}
use Rattle.std.specs.Prelude.{filter, Result, IfOk}
use Rattle.std.specs.Ordering.{eq_by_cmp}
use Rattle.std.specs.FinMap.{entries, retain_keys}
use Rattle.sqlite.specs.declared.types.Value.TheVariants.{Text}
use Rattle.sqlite.specs.Order as sqlite
use Rattle.sqlite.specs.declared.error.Error.{Error}
use Rattle.sqlite.specs.State.{State, HasCleanDisk}
use Rattle.hq_keyed.specs.Values.{number}
use Rattle.hq_kept.specs.Messages.{is_on_hold}
use Rattle.hq_kept.specs.declared.message.QueueState.TheVariants.{Deferred, Hold}
use Rattle.hq_owned.specs.Owned.{map_values}
use Rattle.hq_tables.specs.Tables.{Tables, Row, text_cmp}
use Rattle.hq_sql.specs.Tables.{IsDesk, Leaves, tables_in}
use Rattle.hq_sql_messages.specs.Holds.{with_holds}

-- a row that is on hold, or one that is not
abbrev pub is_standing : Bool → Row → Bool
is_standing true r = is_on_hold r.state
is_standing false r = not (is_on_hold r.state)

-- the serials of a customer's messages that are on hold, or of those that are not
abbrev pub standing_serials : List ℕ → Bool → Tables → List ℕ
standing_serials customer on_hold t =
    map (λ (e : (List ℕ × ℕ) × Row). e.0.1)
    (filter (λ (e : (List ℕ × ℕ) × Row). eq_by_cmp text_cmp customer e.0.0
    && is_standing on_hold e.1) (entries t.messages))

abbrev pub held_row : Row → Row
held_row r = record r { state = Hold }

abbrev pub released_row : ℕ → Row → Row
released_row at r = record r { state = Deferred; next_try = at }

-- every row of the customer that passes, changed
abbrev pub all_set : List ℕ → Bool → (Row → Row) → Tables → Tables
all_set customer on_hold f t = record t {
  messages = map_values (λ (k : List ℕ × ℕ) (r : Row).
      cond (eq_by_cmp text_cmp customer k.0 && is_standing on_hold r) (f r) r) t.messages;
}

-- all messages of the customer are on hold
abbrev pub all_held : List ℕ → Tables → Tables
all_held customer t = all_set customer false held_row t

-- those on hold are deferred, to be tried from a moment on
abbrev pub all_released : List ℕ → ℕ → Tables → Tables
all_released customer at t = all_set customer true (released_row at) t

-- no message of the customer stands
abbrev pub without_messages : List ℕ → Tables → Tables
without_messages customer t = record t {
  messages = retain_keys t.messages (λ (k : List ℕ × ℕ). not (eq_by_cmp text_cmp customer k.0));
}

-- no reason of the customer's messages stands
abbrev pub without_holds : List ℕ → Tables → Tables
without_holds customer t = record t {
  holds = retain_keys t.holds (λ (k : List ℕ × ℕ). not (eq_by_cmp text_cmp customer k.0));
}

-- the reason stands at each message of the customer that is not on hold
abbrev pub with_queued_held : List ℕ → List ℕ → Tables → Tables
with_queued_held customer reason t =
    with_holds customer reason (standing_serials customer false t) t

-- What an INSERT of many rows leaves, by whether it tells that a unique key was taken: `t` and
-- `after` are what it leaves where one was, and where none was.
pub record AddedAll (there : Bool) (old new : State) (t after : Tables) : Type 0 where
  pub untouched : there ≡ true → Leaves old new t
  pub made : there ≡ false → Leaves old new after

-- An INSERT of many rows leaves `f` of the tables before, or it tells that a unique key was taken,
-- and leaves all as it was.
abbrev pub AddsAll : State → State → Result Bool Error → (Tables → Tables) → Type 0
AddsAll old new result f = HasCleanDisk new → IsDesk old.now →
    IfOk result (λ there. AddedAll there old new (tables_in old.now) (f (tables_in old.now)))

-- what all rows of a customer are asked with
abbrev pub customer_columns : List ℕ → sqlite.Row
customer_columns customer = Text customer ∷ []

-- what those on hold are released with
abbrev pub released_columns : List ℕ → ℕ → sqlite.Row
released_columns customer at = Text customer ∷ number at ∷ []

-- what those that are not on hold are given a reason with
abbrev pub reasoned_columns : List ℕ → List ℕ → sqlite.Row
reasoned_columns customer reason = Text customer ∷ Text reason ∷ []

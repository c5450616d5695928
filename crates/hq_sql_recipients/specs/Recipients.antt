-- What the statements on recipients leave.
-- Inner: it serves proofs alone, and no promise rests on it.
use Rattle.std.specs.Prelude.{◌≡◌, ℕ, Bool, true, not, List, [], ◌∷◌, Option, None, Result, OnOk}
use Rattle.std.specs.Ordering.{eq_by_cmp}
use Rattle.std.specs.FinMap.{insert, retain_keys}
use Rattle.sqlite.specs.declared.types.Value.TheVariants.{Text}
use Rattle.sqlite.specs.declared.error.Error.{Error}
use Rattle.sqlite.specs.Order.{Row}
use Rattle.sqlite.specs.State.{State, HasCleanDisk}
use Rattle.hq_keyed.specs.Values.{number}
use Rattle.hq_kept.specs.declared.message.Pending.{Pending}
use Rattle.hq_rows.specs.declared.rows.RecipientRow.{RecipientRow}
use Rattle.hq_rows.specs.Listed.{recipient_key, recipient_value}
use Rattle.hq_tables.specs.Tables.{Tables, text_cmp, deal}
use Rattle.hq_sql.specs.Tables.{IsDesk, Leaves, tables_in}
use Rattle.hq_sql_recipients.specs.Places.{is_beside}

-- the row of a recipient at a place of a customer's message
abbrev pub recipient_row : List ℕ → ℕ → ℕ → Pending → RecipientRow
recipient_row customer serial place pending = record {
  customer = customer;
  serial = serial;
  place = place;
  pending = pending;
}

-- the recipient stands at its place
abbrev pub with_recipient : RecipientRow → Tables → Tables
with_recipient r t = record t {
  recipients = insert t.recipients (recipient_key r) (recipient_value r);
}

-- no recipient of the message stands at a place that is none of 1 to n
abbrev pub without_beside : List ℕ → ℕ → ℕ → Tables → Tables
without_beside customer serial n t = record t {
  recipients = retain_keys t.recipients (λ k. not (is_beside customer serial n k));
}

-- no recipient of the customer's messages stands
abbrev pub without_all : List ℕ → Tables → Tables
without_all customer t = record t {
  recipients = retain_keys t.recipients
      (λ (k : List ℕ × (ℕ × ℕ)). not (eq_by_cmp text_cmp customer k.0));
}

-- the message has these recipients, at the places 1, 2, .., and no other
abbrev pub with_pending : List ℕ → ℕ → List Pending → Tables → Tables
with_pending customer serial pending t = record t {
  recipients = deal customer serial pending t.recipients;
}

-- the parameters of a statement on all recipients of a customer
abbrev pub owner_columns : List ℕ → Row
owner_columns customer = Text customer ∷ []

-- what those at no place of 1 to n are asked with
abbrev pub range_columns : List ℕ → ℕ → ℕ → Row
range_columns customer serial n = Text customer ∷ number serial ∷ number n ∷ []

-- A put that succeeds leaves `f` of the tables before; where the key is told to be free, nothing is
-- to stand at it.
abbrev pub Puts : {X V : Type 0} → State → State → Result X Error → Bool → (Tables → Option V) →
    (Tables → Tables) → Type 0
Puts old new result is_free at f = HasCleanDisk new → IsDesk old.now →
    (is_free ≡ true → at (tables_in old.now) ≡ None) →
    OnOk result (Leaves old new (f (tables_in old.now)))

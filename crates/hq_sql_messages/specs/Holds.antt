-- What the statements on holds leave.
-- Inner: it serves proofs alone, and no promise rests on it.
use Rattle.std.specs.Prelude.{ℕ, List, [], ◌∷◌}
use Rattle.std.specs.FinMap.{FinMap, insert, remove}
use Rattle.hq_rows.specs.declared.rows.HoldRow.{HoldRow}
use Rattle.hq_rows.specs.Listed.{hold_key, hold_value}
use Rattle.hq_tables.specs.Tables.{Tables, message_cmp, give_reason}

abbrev pub hold_row : List ℕ → ℕ → List ℕ → HoldRow
hold_row customer serial reason = record { customer = customer; serial = serial; reason = reason }

-- the reason stands at its message
abbrev pub with_hold : HoldRow → Tables → Tables
with_hold r t = record t { holds = insert t.holds (hold_key r) (hold_value r) }

-- no reason stands at the message
abbrev pub without_hold : List ℕ × ℕ → Tables → Tables
without_hold key t = record t { holds = remove t.holds key }

-- the reason stands there, if it is not empty
abbrev pub with_reason : List ℕ → ℕ → List ℕ → Tables → Tables
with_reason customer serial reason t = record t {
  holds = give_reason customer serial reason t.holds;
}

-- the reason stands at each of these messages of the customer
abbrev pub hold_each : List ℕ → List ℕ → List ℕ → FinMap message_cmp (List ℕ) →
    FinMap message_cmp (List ℕ)
hold_each customer reason [] hs = hs
hold_each customer reason (serial ∷ serials) hs =
    hold_each customer reason serials (insert hs (customer, serial) reason)

abbrev pub with_holds : List ℕ → List ℕ → List ℕ → Tables → Tables
with_holds customer reason serials t = record t {
  holds = hold_each customer reason serials t.holds;
}

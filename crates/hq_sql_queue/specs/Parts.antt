-- What rows of recipients and of reasons give to the messages of a page.
-- Inner: it serves proofs alone, and no promise rests on it.
use Rattle.std.specs.Prelude.{ℕ, List, [], ◌∷◌, ◌++◌, Bool, ◌&&◌, unwrap_or}
use Rattle.std.specs.FinMap.{get}
use Rattle.std.specs.Ordering.{eq_by_cmp}
use Rattle.sqlite.specs.Order.{Row}
use Rattle.hq_kept.specs.Limits.{is_within}
use Rattle.hq_kept.specs.declared.message.Message.{Message}
use Rattle.hq_kept.specs.declared.message.Pending.{Pending}
use Rattle.hq_rows.specs.Listed.{recipient_value, hold_value}
use Rattle.hq_tables.specs.Tables.{Tables, text_cmp, pending_of}
use Rattle.hq_sql.specs.Rows.{recipient_shown, hold_shown}

-- an entry of the customer's messages from one serial to another
abbrev pub is_between : {K V : Type 0} → (K → ℕ) → List ℕ → ℕ → ℕ → (List ℕ × K) × V → Bool
is_between serial customer low high e = eq_by_cmp text_cmp customer e.0.0
    && is_within low high (serial e.0.1)

-- the message with one recipient more
abbrev pub put_recipient : Pending → Message → Message
put_recipient recipient m = record m { pending = m.pending ++ recipient ∷ [] }

abbrev pub give_row_recipient : Row → Message → Message
give_row_recipient r = put_recipient (recipient_value (recipient_shown r))

-- the message with all its recipients behind those that it has
abbrev pub with_dealt : List ℕ → Tables → Message → Message
with_dealt customer t m = record m {
  pending = m.pending
      ++ pending_of customer m.serial t.recipients;
}

-- the message with this reason
abbrev pub put_reason : List ℕ → Message → Message
put_reason reason m = record m { reason = reason }

abbrev pub give_row_reason : Row → Message → Message
give_row_reason r = put_reason (hold_value (hold_shown r))

-- the message with its reason, where there is one
abbrev pub with_held : List ℕ → Tables → Message → Message
with_held customer t m = put_reason (unwrap_or (get t.holds (customer, m.serial)) m.reason) m

-- with its recipients behind those that it has, and its reason
abbrev pub with_parts : List ℕ → Tables → Message → Message
with_parts customer t m = with_held customer t (with_dealt customer t m)

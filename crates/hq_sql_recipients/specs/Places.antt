-- Places of recipients.
-- Inner: it serves proofs alone, and no promise rests on it.
use Rattle.std.specs.Prelude.{◌≡◌, ◌+◌, ℕ, Bool, ◌&&◌, ◌||◌, nat_lt, List, Some, option_map}
use Rattle.std.specs.Prelude.{slice_get}
use Rattle.std.specs.Ordering.{nat_cmp, eq_by_cmp}
use Rattle.hq_kept.specs.declared.message.Pending.{Pending}
use Rattle.hq_tables.specs.Tables.{text_cmp}
use Rattle.hq_rows.specs.Listed.{recipient_value}
use Rattle.hq_sql.specs.Rows.{recipient_shown}
use Rattle.sqlite.specs.Order.{Row}

-- a place that is none of 1 to n
abbrev pub is_far : ℕ → ℕ → Bool
is_far n place = nat_lt place 1 || nat_lt n place

-- a recipient of the message at no place of 1 to n
abbrev pub is_beside : List ℕ → ℕ → ℕ → List ℕ × (ℕ × ℕ) → Bool
is_beside customer serial n k = (eq_by_cmp text_cmp customer k.0 && eq_by_cmp nat_cmp serial k.1.0)
    && is_far n k.1.1

-- a recipient of the message
abbrev pub is_of : List ℕ → ℕ → (List ℕ × (ℕ × ℕ)) × Pending → Bool
is_of customer serial e = eq_by_cmp text_cmp customer e.0.0 && eq_by_cmp nat_cmp serial e.0.1.0

-- the place and the recipient of a row of an answer
abbrev pub placed : Row → ℕ × Pending
placed r = ((recipient_shown r).place, recipient_value (recipient_shown r))

-- the recipient stands at the place after the first so many rows
abbrev pub StandsAfter : List Row → ℕ → Pending → Type 0
StandsAfter rows last pending = option_map placed (slice_get rows last) ≡ Some (last + 1, pending)

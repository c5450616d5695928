-- What the statements on the row of one message leave, when it is moved.
-- Inner: it serves proofs alone, and no promise rests on it.
use Rattle.std.specs.Prelude.{ℕ, cond, List, [], ◌∷◌}
use Rattle.std.specs.Ordering.{eq_by_cmp}
use Rattle.sqlite.specs.declared.types.Value.TheVariants.{Text}
use Rattle.sqlite.specs.Order as sqlite
use Rattle.hq_keyed.specs.Values.{number}
use Rattle.hq_owned.specs.Owned.{map_values}
use Rattle.hq_tables.specs.Tables.{Tables, Row, message_cmp}
use Rattle.hq_sql_messages.specs.Moves.{held_row, released_row}

-- the row at a key, changed; nothing, where there is none
abbrev pub row_set : List ℕ × ℕ → (Row → Row) → Tables → Tables
row_set key f t = record t {
  messages = map_values (λ (k : List ℕ × ℕ) (r : Row).
      cond (eq_by_cmp message_cmp key k) (f r) r) t.messages;
}

abbrev pub one_held : List ℕ × ℕ → Tables → Tables
one_held key t = row_set key held_row t

-- deferred, to be tried from a moment on
abbrev pub one_released : List ℕ × ℕ → ℕ → Tables → Tables
one_released key at t = row_set key (released_row at) t

-- the parameters of the release of one message
abbrev pub one_released_columns : List ℕ × ℕ → ℕ → sqlite.Row
one_released_columns key at = Text key.0 ∷ number key.1 ∷ number at ∷ []

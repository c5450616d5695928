-- What the statements on the row of one message do, when it is moved.
use Rattle.std.proofs.Common.{◌≡◌, Bool, cond, ℕ, ℤ, pos, List, [], ◌∷◌, drop, Ok}
use Rattle.std.proofs.Common.{refl}
use Rattle.std.specs.Ordering.{eq_by_cmp}
use Rattle.sqlite.specs.Term.{eval_all}
use Rattle.sqlite.specs.Cast.{cast_row}
use Rattle.sqlite.specs.State.{State, Executes}
use Rattle.sqlite_typed.proofs.TestLemmas.{then_value}
use Rattle.hq_keyed.specs.Values.{number}
use Rattle.hq_keyed.proofs.Writes.{cast_int}
use Rattle.hq_schema.specs.Schema as schema
use Rattle.hq_rows.specs.declared.rows.MessageRow.{MessageRow}
use Rattle.hq_rows.specs.Listed.{message_key}
use Rattle.hq_tables.specs.Tables.{message_cmp}
use Rattle.hq_sql.specs.Bound.{message_key_columns}
use Rattle.hq_sql.specs.Rows.{message_stored}
use Rattle.hq_sql.specs.Tables.{IsDesk, Leaves, tables_in}
use Rattle.hq_sql_messages.specs.Moves.{held_row, released_row}
use Rattle.hq_sql_messages.specs.OneMove.{one_held, one_released, one_released_columns}
use Rattle.hq_sql_messages.proofs.Backs.{message_back}
use Rattle.hq_sql_messages.proofs.MessageTexts as message
use Rattle.hq_sql_messages.proofs.MoveTexts as text
use Rattle.hq_sql_messages.proofs.OnMessages.{messages_table, key_tests}
use Rattle.hq_sql_messages.proofs.OnMoves.{held, released, hold_row, sender_back, value_set}
use Rattle.hq_sql_messages.proofs.SetAll.{sets_all}

abbrev is_at : List ℕ × ℕ → MessageRow → Bool
is_at q r = eq_by_cmp message_cmp q (message_key r)

pub one_was_held : (old new : State) (q : List ℕ × ℕ) (count : ℕ) → IsDesk old.now →
    Executes text.hold_one_text (message_key_columns q) old new (Ok count) →
    Leaves old new (one_held q (tables_in old.now))
one_was_held old new q count desk h =
    sets_all messages_table old new desk text.hold_one_text message.message_key text.hold_row
    text.hold_one_known (message_key_columns q) count (is_at q) held
    (λ k r. cond (eq_by_cmp message_cmp q k) (held_row r) r) (λ x. refl)
    (λ x. value_set (is_at q x) x held held_row refl)
    (λ k back. message_back (held k.1) k.0 (sender_back k back)) (λ k. key_tests q k [])
    (λ k. refl) (hold_row (message_key_columns q)) h

release_row : (q : List ℕ × ℕ) (at : ℕ) (k : ℤ × MessageRow) →
    cast_row (record schema.messages { tree = 3 })
    (drop 1 (eval_all text.release_one_row (one_released_columns q at ∷ message_stored k ∷ []))) ≡
    message_stored (k.0, released at k.1)
release_row q at k =
    then_value (cast_int k.0) (then_value refl
    (then_value (cast_int (pos k.1.serial))
    (then_value refl (then_value refl (then_value (cast_int (pos k.1.size))
    (then_value (cast_int (pos k.1.arrival))
    (then_value (cast_int (pos 1))
    (then_value (cast_int (pos at))
    (then_value (cast_int (pos k.1.attempts)) (then_value (cast_int _) refl))))))))))

pub one_was_released : (old new : State) (q : List ℕ × ℕ) (at : ℕ) (count : ℕ) → IsDesk old.now →
    Executes text.release_one_text (one_released_columns q at) old new (Ok count) →
    Leaves old new (one_released q at (tables_in old.now))
one_was_released old new q at count desk h =
    sets_all messages_table old new desk text.release_one_text message.message_key
    text.release_one_row text.release_one_known (one_released_columns q at) count (is_at q)
    (released at) (λ k r. cond (eq_by_cmp message_cmp q k) (released_row at r) r) (λ x. refl)
    (λ x. value_set (is_at q x) x (released at) (released_row at) refl)
    (λ k back. message_back (released at k.1) k.0 (sender_back k back))
    (λ k. key_tests q k (number at ∷ [])) (λ k. refl) (release_row q at) h

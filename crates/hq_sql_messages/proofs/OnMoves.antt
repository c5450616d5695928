-- What the statements on all messages of a customer do.
use Rattle.std.proofs.Common.{◌≡◌, ◌&&◌, Bool, true, false, cond, ℕ, ℤ, pos, List, [], ◌∷◌, map}
use Rattle.std.proofs.Common.{drop, Ok, nat_cmp, refl, sym, ap, ◌∙◌}
use Rattle.std.specs.List.{list_all}
use Rattle.std.specs.Ordering.{eq_by_cmp}
use Rattle.sqlite.specs.declared.types.Value.TheVariants.{Text}
use Rattle.sqlite.specs.Order.{Row}
use Rattle.sqlite.specs.Term.{holds, eval_all}
use Rattle.sqlite.specs.Cast.{cast_row}
use Rattle.sqlite.specs.State.{State, Executes, Shown}
use Rattle.sqlite_value.proofs.OrderLemmas.{value_cmp-Text}
use Rattle.sqlite_keyed.proofs.ListLemmas.{map-map}
use Rattle.sqlite_typed.proofs.TestLemmas.{then_term, last_term, then_value, then_key, last_key}
use Rattle.hq_keyed.specs.Values.{number}
use Rattle.hq_keyed.proofs.Terms.{text_is, number_is, number_below, number_order}
use Rattle.hq_keyed.proofs.Writes.{cast_int}
use Rattle.hq_kept.specs.Messages.{is_on_hold}
use Rattle.hq_kept.specs.declared.message.QueueState.{QueueState}
use Rattle.hq_kept.specs.declared.message.QueueState.TheVariants.{Incoming, Deferred, Hold}
use Rattle.hq_schema.specs.Schema as schema
use Rattle.hq_rows.specs.declared.rows.MessageRow.{MessageRow}
use Rattle.hq_rows.specs.Listed.{message_key, message_value}
use Rattle.hq_tables.specs.Tables as store
use Rattle.hq_tables.specs.Tables.{text_cmp}
use Rattle.hq_values.specs.Senders.{sender_text}
use Rattle.hq_sql.specs.Rows.{sender_of}
use Rattle.hq_sql.specs.Rows.{state_code, message_stored, message_read, message_shown}
use Rattle.hq_sql.specs.Tables.{IsDesk, Leaves, tables_in}
use Rattle.hq_sql.proofs.Statements.{lists_entries, drops}
use Rattle.hq_sql_messages.specs.Moves.{is_standing, standing_serials, held_row}
use Rattle.hq_sql_messages.specs.Moves.{released_row, all_held, all_released, without_holds}
use Rattle.hq_sql_messages.specs.Moves.{without_messages}
use Rattle.hq_sql_messages.specs.Moves.{customer_columns, released_columns}
use Rattle.hq_sql_messages.proofs.Backs.{message_back}
use Rattle.hq_sql_messages.proofs.OnHolds.{holds_table}
use Rattle.hq_sql_messages.proofs.OnMessages.{messages_table, pairs, state_below}
use Rattle.hq_sql_messages.proofs.SetAll.{sets_all}
use Rattle.hq_sql_messages.proofs.MoveTexts as text

abbrev Key : Type 0
Key = List ℕ × ℕ

-- a message of the customer that is on hold, or one that is not
abbrev pub stands : List ℕ → Bool → Key × store.Row → Bool
stands c on_hold e = eq_by_cmp text_cmp c e.0.0 && is_standing on_hold e.1

abbrev pub stands_so : List ℕ → Bool → MessageRow → Bool
stands_so c on_hold r = stands c on_hold (message_key r, message_value r)

state_held : (s : QueueState) → eq_by_cmp nat_cmp 2 (state_code s) ≡ is_on_hold s
state_held Incoming = refl
state_held Deferred = refl
state_held Hold = refl

held_tests : (c : List ℕ) (more : Row) (k : ℤ × MessageRow) →
    list_all (holds ((Text c ∷ more) ∷ message_stored k ∷ [])) text.held_terms ≡ stands_so c true
    k.1
held_tests c more k = then_term (text_is k.1.customer c)
    (last_term (number_is (state_code k.1.state) 2 ∙ state_held k.1.state))

pub queued_tests : (c : List ℕ) (more : Row) (k : ℤ × MessageRow) →
    list_all (holds ((Text c ∷ more) ∷ message_stored k ∷ [])) text.queued_terms ≡ stands_so c
    false k.1
queued_tests c more k = then_term (text_is k.1.customer c)
    (last_term (number_below (state_code k.1.state) 2 ∙ state_below k.1.state))

-- ---- reading

-- the serials of the rows of an answer
serials_are : (rows : List Row) (found : List (Key × store.Row)) → pairs rows ≡ found →
    map (λ r. (message_shown r).serial) rows ≡ map (λ (e : Key × store.Row). e.0.1) found
serials_are rows found h =
    let serial = λ (e : Key × store.Row). e.0.1 in
    sym (map-map serial (λ r. (message_key (message_shown r), message_value (message_shown r)))
    rows)
    ∙ ap (map serial) (sym (map-map (λ (r : MessageRow). (message_key r, message_value r))
    message_shown rows)) ∙ ap (map serial) h

pub held_shown : (old new : State) (c : List ℕ) (rows : List Row) → IsDesk old.now →
    Shown text.held_text (customer_columns c) old new rows
    → map (λ r. (message_shown r).serial) rows ≡ standing_serials c true (tables_in old.now)
held_shown old new c rows desk h =
    serials_are rows _ (lists_entries messages_table old new desk text.held_text _ _
    text.held_known refl refl refl (customer_columns c) message_shown (λ k. refl)
    (stands c true) (held_tests c [])
    (λ j k. then_key (value_cmp-Text j.1.customer k.1.customer)
    (last_key (number_order j.1.serial k.1.serial))) (λ xs. refl) rows h)

pub queued_shown : (old new : State) (c : List ℕ) (rows : List Row) → IsDesk old.now →
    Shown text.queued_text (customer_columns c) old new rows
    → map (λ r. (message_shown r).serial) rows ≡ standing_serials c false (tables_in old.now)
queued_shown old new c rows desk h =
    serials_are rows _ (lists_entries messages_table old new desk text.queued_text _ _
    text.queued_known refl refl refl (customer_columns c) message_shown (λ k. refl)
    (stands c false) (queued_tests c [])
    (λ j k. then_key (value_cmp-Text j.1.customer k.1.customer)
    (last_key (number_order j.1.serial k.1.serial))) (λ xs. refl) rows h)

-- ---- writing

abbrev pub held : MessageRow → MessageRow
held r = record r { state = Hold }

abbrev pub released : ℕ → MessageRow → MessageRow
released at r = record r { state = Deferred; next_try = at }

pub hold_row : (params : Row) (k : ℤ × MessageRow) →
    cast_row (record schema.messages { tree = 3 })
    (drop 1 (eval_all text.hold_row (params ∷ message_stored k ∷ []))) ≡ message_stored
    (k.0, held k.1)
hold_row params k =
    then_value (cast_int k.0) (then_value refl
    (then_value (cast_int (pos k.1.serial))
    (then_value refl (then_value refl (then_value (cast_int (pos k.1.size))
    (then_value (cast_int (pos k.1.arrival))
    (then_value (cast_int (pos 2))
    (then_value (cast_int (pos k.1.next_try))
    (then_value (cast_int (pos k.1.attempts)) (then_value (cast_int _) refl))))))))))

release_row : (c : List ℕ) (at : ℕ) (k : ℤ × MessageRow) →
    cast_row (record schema.messages { tree = 3 })
    (drop 1 (eval_all text.release_row (released_columns c at ∷ message_stored k ∷ []))) ≡
    message_stored (k.0, released at k.1)
release_row c at k =
    then_value (cast_int k.0) (then_value refl
    (then_value (cast_int (pos k.1.serial))
    (then_value refl (then_value refl (then_value (cast_int (pos k.1.size))
    (then_value (cast_int (pos k.1.arrival))
    (then_value (cast_int (pos 1))
    (then_value (cast_int (pos at))
    (then_value (cast_int (pos k.1.attempts)) (then_value (cast_int _) refl))))))))))

pub value_set : (b : Bool) (x : MessageRow) (f : MessageRow → MessageRow)
    (g : store.Row → store.Row) → message_value (f x) ≡ g (message_value x) →
    message_value (cond b (f x) x) ≡ cond b (g (message_value x)) (message_value x)
value_set true x f g e = e
value_set false x f g e = refl

-- the sender of a row that can be read back can be read
pub sender_back : (k : ℤ × MessageRow) → message_read (message_stored k) ≡ k.1 →
    sender_of (sender_text k.1.sender) ≡ k.1.sender
sender_back k h = ap (λ (r : MessageRow). r.sender) h

pub all_were_held : (old new : State) (c : List ℕ) (count : ℕ) → IsDesk old.now →
    Executes text.hold_text (customer_columns c) old new (Ok count) →
    Leaves old new (all_held c (tables_in old.now))
all_were_held old new c count desk h =
    sets_all messages_table old new desk text.hold_text text.queued_terms text.hold_row
    text.hold_known (customer_columns c) count (stands_so c false) held
    (λ k r. cond (stands c false (k, r)) (held_row r) r) (λ x. refl)
    (λ x. value_set (stands_so c false x) x held held_row refl)
    (λ k back. message_back (held k.1) k.0 (sender_back k back)) (queued_tests c [])
    (λ k. refl) (hold_row (customer_columns c)) h

pub all_were_released : (old new : State) (c : List ℕ) (at : ℕ) (count : ℕ) → IsDesk old.now →
    Executes text.release_text (released_columns c at) old new (Ok count) →
    Leaves old new (all_released c at (tables_in old.now))
all_were_released old new c at count desk h =
    sets_all messages_table old new desk text.release_text text.held_terms text.release_row
    text.release_known (released_columns c at) count (stands_so c true) (released at)
    (λ k r. cond (stands c true (k, r)) (released_row at r) r) (λ x. refl)
    (λ x. value_set (stands_so c true x) x (released at) (released_row at) refl)
    (λ k back. message_back (released at k.1) k.0 (sender_back k back))
    (held_tests c (number at ∷ [])) (λ k. refl) (release_row c at) h

pub reasons_deleted : (old new : State) (c : List ℕ) (count : ℕ) → IsDesk old.now →
    Executes text.reasons_text (customer_columns c) old new (Ok count) →
    Leaves old new (without_holds c (tables_in old.now))
reasons_deleted old new c count desk h =
    drops holds_table old new desk text.reasons_text text.own_terms text.reasons_known
    (customer_columns c) count (λ k. eq_by_cmp text_cmp c k.0)
    (λ k. last_term (text_is k.1.customer c)) h

pub messages_deleted : (old new : State) (c : List ℕ) (count : ℕ) → IsDesk old.now →
    Executes text.delete_text (customer_columns c) old new (Ok count) →
    Leaves old new (without_messages c (tables_in old.now))
messages_deleted old new c count desk h =
    drops messages_table old new desk text.delete_text text.own_terms text.delete_known
    (customer_columns c) count (λ k. eq_by_cmp text_cmp c k.0)
    (λ k. last_term (text_is k.1.customer c)) h

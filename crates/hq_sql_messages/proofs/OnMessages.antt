-- What the statements on `messages` do.
use Rattle.std.proofs.Common.{◌≡◌, ◌&&◌, Bool, true, false, true≢false, T, inl, inr, subst, ℕ, ℤ}
use Rattle.std.proofs.Common.{pos, negsuc, List, [], ◌∷◌, map, filter, take, drop, slice_get}
use Rattle.std.proofs.Common.{option_map, not, Option, Some, None, Ok, nat_cmp, refl, sym, ap, ◌∙◌}
use Rattle.std.specs.Prelude.{nat_eq, nat_lt, int_lt}
use Rattle.std.specs.List.{list_all}
use Rattle.std.specs.Ordering.{eq_by_cmp}
use Rattle.std.specs.Cmp.{tied_then}
use Rattle.std.specs.FinMap.{get, entries, insert}
use Rattle.sqlite.specs.declared.types.Value.TheVariants.{Null, Text}
use Rattle.sqlite.specs.Order.{Row}
use Rattle.sqlite.specs.Term.{holds, eval_all}
use Rattle.sqlite.specs.Cast.{cast_row}
use Rattle.sqlite.specs.State.{State, Executes, Shown}
use Rattle.sqlite_typed.proofs.TestLemmas.{then_term, last_term, then_value}
use Rattle.hq_keyed.specs.Values.{number}
use Rattle.hq_keyed.proofs.Terms.{text_is, number_is}
use Rattle.hq_keyed.proofs.Writes.{cast_null, cast_int}
use Rattle.hq_schema.specs.Schema as schema
use Rattle.hq_sql.specs.Kept.{Updated}
use Rattle.hq_sql.specs.Tables.{IsDesk, Leaves, tables_in}
use Rattle.hq_sql.proofs.Statements.{got, pages_entries, puts, drops_at, sets}
use Rattle.hq_sql.proofs.Tables.{DeskTable}
use Rattle.sqlite.specs.declared.types.Value.TheVariants.{Int}
use Rattle.sqlite_value.proofs.OrderLemmas.{value_cmp-Text}
use Rattle.sqlite_keyed.proofs.ListLemmas.{map-map}
use Rattle.sqlite_typed.proofs.TestLemmas.{then_key, last_key}
use Rattle.hq_keyed.proofs.Terms.{number_above, number_below, number_to, number_order}
use Rattle.hq_keyed.proofs.Terms.{above_none, above_some}
use Rattle.hq_owned.specs.Rows.{pairs_of}
use Rattle.hq_rows.specs.declared.rows.MessageRow.{MessageRow}
use Rattle.hq_kept.specs.Messages.{is_on_hold}
use Rattle.hq_kept.specs.declared.message.QueueState.{QueueState}
use Rattle.hq_kept.specs.declared.message.QueueState.TheVariants.{Incoming, Deferred, Hold}
use Rattle.hq_tables.specs.Tables as store
use Rattle.hq_tables.specs.Tables.{text_cmp, message_cmp}
use Rattle.hq_rows.specs.Listed.{message_key, message_value}
use Rattle.hq_rows.specs.Lookups.{is_after}
use Rattle.hq_tables.proofs.Orders.{message_total, message_exact}
use Rattle.hq_sql.specs.Rows.{state_code, message_columns, message_stored, message_read}
use Rattle.hq_sql.specs.Rows.{message_shown}
use Rattle.hq_sql_messages.proofs.Backs.{IsReadable, message_back}
use Rattle.hq_sql_messages.specs.Messages.{without_row, message_page_columns, spool_columns}
use Rattle.hq_sql_messages.specs.Messages.{above_number, is_on_page, is_on_due_page}
use Rattle.hq_sql_messages.specs.Messages.{due_page_columns}
use Rattle.hq_sql_messages.specs.Messages.{has_spool_name, bare, bare_entry}
use Rattle.hq_sql.specs.Bound.{message_key_columns}
use Rattle.std.proofs.lemmas.Map.Lookups.{exact_unsigned}
use Rattle.hq_owned.proofs.Cases.{equal}
use Rattle.hq_sql_messages.specs.Messages.{UpdatedSize}
use Rattle.hq_sql_messages.proofs.SetWhere.{sets_where}
use Rattle.hq_sql_messages.proofs.MessageTexts as text

abbrev Key : Type 0
Key = List ℕ × ℕ

abbrev pub messages_table : DeskTable MessageRow Key store.Row
messages_table = record {
  kind = record {
    encode = message_stored;
    decode = message_read;
    order = message_cmp;
    total =
        message_total;
    exact = message_exact;
    key = message_key;
    val = message_value;
    numbered =
        λ k. refl;
  };
  place = record {
    at = 2;
    table = record schema.messages { tree = 3 };
    listed = refl;
    plain =
        λ db. refl;
    unlinked = λ olds news. refl;
    uncounted = refl;
  };
  stored = λ db desk. desk.messages;
  fits = λ rows s. s;
  at = λ t. t.messages;
  put = λ t m. record t { messages = m };
  at_put = λ t m. refl;
  put_put = λ t m n. refl;
  set = λ db rows. refl;
}

pub key_tests : (q : Key) (k : ℤ × MessageRow) (more : Row) →
    list_all (holds ((Text q.0 ∷ number q.1 ∷ more) ∷ message_stored k ∷ [])) text.message_key ≡
    eq_by_cmp message_cmp q (message_key k.1)
key_tests q k more = then_term (text_is k.1.customer q.0) (last_term (number_is k.1.serial q.1))
    ∙ tied_then (text_cmp q.0 k.1.customer) (nat_cmp q.1 k.1.serial)

-- ---- reading

pub message_got : (old new : State) (q : Key) (rows : List Row) → IsDesk old.now →
    Shown text.message_read_text (message_key_columns q) old new rows
    → option_map (λ r. message_value (message_shown r)) (slice_get rows 0) ≡ get
    (tables_in old.now).messages q
message_got old new q rows desk h =
    got messages_table old new desk text.message_read_text text.message_key text.message_columns _
    text.message_read_known (message_key_columns q) message_shown (λ k. refl) (λ xs. refl) q
    (λ k. key_tests q k []) rows h

abbrev pub pairs : List Row → List ((List ℕ × ℕ) × store.Row)
pairs rows = pairs_of message_key message_value (map message_shown rows)

-- the first so many of the customer's messages after a serial, or of all
page_tests : (c : List ℕ) (after : Option ℕ) (limit : ℕ) (k : ℤ × MessageRow)
    → list_all (holds (message_page_columns c after limit ∷ message_stored k ∷ [])) text.page_terms
    ≡
    (eq_by_cmp text_cmp c k.1.customer && is_after after k.1.serial)
page_tests c None limit k =
    then_term (text_is k.1.customer c) (last_term (number_above k.1.serial (negsuc 0)
    ∙ above_none k.1.serial))
page_tests c (Some n) limit k =
    then_term (text_is k.1.customer c) (last_term (number_above k.1.serial (pos n)
    ∙ above_some n k.1.serial))

pub page_shown : (old new : State) (c : List ℕ) (after : Option ℕ) (limit : ℕ) (rows : List Row) →
    IsDesk old.now → Shown text.message_page_text (message_page_columns c after limit) old new rows
    → pairs rows ≡ take limit (filter (is_on_page c after) (entries (tables_in old.now).messages))
page_shown old new c after limit rows desk h =
    pages_entries messages_table old new desk text.message_page_text _ _ text.message_page_known
    refl refl refl (message_page_columns c after limit) message_shown (λ k. refl)
    (is_on_page c after)
    (page_tests c after limit)
    (λ j k. then_key (value_cmp-Text j.1.customer k.1.customer)
    (last_key (number_order j.1.serial k.1.serial))) limit (λ xs. refl) rows h

-- and of those that may be tried by a moment
pub state_below : (s : QueueState) → nat_lt (state_code s) 2 ≡ not (is_on_hold s)
state_below Incoming = refl
state_below Deferred = refl
state_below Hold = refl

serial_after : (after : Option ℕ) (x : ℕ) → int_lt (above_number after) (pos x) ≡ is_after after x
serial_after None x = above_none x
serial_after (Some n) x = above_some n x

due_tests : (c : List ℕ) (at : ℕ) (after : Option ℕ) (limit : ℕ) (k : ℤ × MessageRow)
    → list_all (holds (due_page_columns c at after limit ∷ message_stored k ∷ [])) text.due_terms
    ≡ is_on_due_page c at after (message_key k.1, message_value k.1)
due_tests c at after limit k =
    then_term (text_is k.1.customer c)
    (then_term (number_above k.1.serial (above_number after) ∙ serial_after after k.1.serial)
    (then_term (number_below (state_code k.1.state) 2 ∙ state_below k.1.state)
    (last_term (number_to k.1.next_try at))))

pub due_shown : (old new : State) (c : List ℕ) (at : ℕ) (after : Option ℕ) (limit : ℕ)
    (rows : List Row) → IsDesk old.now →
    Shown text.message_due_text (due_page_columns c at after limit) old new rows →
    pairs rows ≡ take limit
    (filter (is_on_due_page c at after) (entries (tables_in old.now).messages))
due_shown old new c at after limit rows desk h =
    pages_entries messages_table old new desk text.message_due_text _ _ text.message_due_known
    refl refl refl (due_page_columns c at after limit) message_shown (λ k. refl)
    (is_on_due_page c at after)
    (due_tests c at after limit)
    (λ j k. then_key (value_cmp-Text j.1.customer k.1.customer)
    (last_key (number_order j.1.serial k.1.serial))) limit (λ xs. refl) rows h

-- the rows of a page, without their recipients
pub page_bare : (rows : List Row) (found : List ((List ℕ × ℕ) × store.Row)) → pairs rows ≡ found →
    map bare rows ≡ map bare_entry found
page_bare rows found h =
    sym (map-map bare_entry (λ r. (message_key (message_shown r), message_value (message_shown r)))
    rows)
    ∙ ap (map bare_entry) (sym (map-map (λ (r : MessageRow). (message_key r, message_value r))
    message_shown rows)) ∙ ap (map bare_entry) h

-- the first message with a spool name
pub spool_shown : (old new : State) (c p : List ℕ) (rows : List Row) → IsDesk old.now →
    Shown text.spool_read_text (spool_columns c p) old new rows
    → pairs rows ≡ take 1 (filter (has_spool_name c p) (entries (tables_in old.now).messages))
spool_shown old new c p rows desk h =
    pages_entries messages_table old new desk text.spool_read_text _ _ text.spool_read_known refl
    refl refl (spool_columns c p) message_shown (λ k. refl) (has_spool_name c p)
    (λ k. then_term (text_is k.1.customer c) (last_term (text_is k.1.spool p)))
    (λ j k. then_key (value_cmp-Text j.1.customer k.1.customer)
    (last_key (number_order j.1.serial k.1.serial))) 1 (λ xs. refl) rows h

-- ---- writing

abbrev pub with_message : MessageRow → store.Tables → store.Tables
with_message r t = record t { messages = insert t.messages (message_key r) (message_value r) }

-- the row with the other columns of r
abbrev set_to : MessageRow → MessageRow → MessageRow
set_to r x = record r { customer = x.customer; serial = x.serial }

set_row : (r : MessageRow) (k : ℤ × MessageRow) →
    cast_row (record schema.messages { tree = 3 })
    (drop 1 (eval_all text.message_updated (message_columns r ∷ message_stored k ∷ []))) ≡
    message_stored (k.0, set_to r k.1)
set_row r k =
    then_value (cast_int k.0) (then_value refl
    (then_value (cast_int (pos k.1.serial))
    (then_value refl (then_value refl (then_value (cast_int (pos r.size))
    (then_value (cast_int (pos r.arrival))
    (then_value (cast_int (pos (state_code r.state)))
    (then_value (cast_int (pos r.next_try))
    (then_value (cast_int (pos r.attempts)) (then_value (cast_int _) refl))))))))))

and_assoc : (a b c : Bool) → (a && (b && c)) ≡ ((a && b) && c)
and_assoc true b c = refl
and_assoc false b c = refl

abbrev has_size : ℕ → MessageRow → Bool
has_size size x = eq_by_cmp nat_cmp size x.size

sized_tests : (r : MessageRow) (k : ℤ × MessageRow) →
    list_all (holds (message_columns r ∷ message_stored k ∷ [])) text.sized_key ≡
    (eq_by_cmp message_cmp (message_key r) (message_key k.1) && has_size r.size k.1)
sized_tests r k =
    then_term (text_is k.1.customer r.customer)
    (then_term (number_is k.1.serial r.serial) (last_term (number_is k.1.size r.size)))
    ∙ and_assoc (eq_by_cmp text_cmp r.customer k.1.customer) _ _
    ∙ ap (λ b. b && has_size r.size k.1)
    (tied_then (text_cmp r.customer k.1.customer) (nat_cmp r.serial k.1.serial))

size_is : (size : ℕ) (x : MessageRow) → has_size size x ≡ true → x.size ≡ size
size_is size x h = sym (exact_unsigned size x.size
    (equal (nat_cmp size x.size) (subst T (sym h) tt)))

no_count : (count : ℕ) → count ≡ 0 → not (nat_eq count 0) ≡ true → ⊥
no_count count none there = true≢false (sym there ∙ ap (λ n. not (nat_eq n 0)) none)

one_count : (count : ℕ) → count ≡ 1 → not (nat_eq count 0) ≡ false → ⊥
one_count count one absent = true≢false (sym (ap (λ n. not (nat_eq n 0)) one) ∙ absent)

new_row : (r : MessageRow) (n : ℤ) → Int n
    ∷ drop 1 (cast_row (record schema.messages { tree = 3 }) (Null ∷ message_columns r)) ≡
    message_stored (n, r)
new_row r n =
    then_value refl (then_value refl (then_value (cast_int (pos r.serial))
    (then_value refl (then_value refl (then_value (cast_int (pos r.size))
    (then_value (cast_int (pos r.arrival))
    (then_value (cast_int (pos (state_code r.state)))
    (then_value (cast_int (pos r.next_try))
    (then_value (cast_int (pos r.attempts)) (then_value (cast_int _) refl))))))))))

module _ (old new : State) (r : MessageRow) (readable : IsReadable r) (count : ℕ)
    (desk : IsDesk old.now) where
  pub message_updated : Executes text.message_update_text (message_columns r) old new (Ok count)
      → Updated (not (nat_eq count 0)) old new (get (tables_in old.now).messages (message_key r))
      (tables_in old.now) (with_message r (tables_in old.now))
  message_updated h =
      sets messages_table old new desk text.message_update_text text.message_key
      text.message_updated text.message_update_known (message_columns r) count (message_key r)
      (set_to r) (message_value r) (λ x. refl) (λ x. refl)
      (λ k. message_back (set_to r k.1) k.0 readable)
      (λ k. key_tests (message_key r) k (drop 2 (message_columns r))) (λ k. refl) (set_row r) h

  pub sized_updated : Executes text.sized_update_text (message_columns r) old new (Ok count)
      → UpdatedSize (not (nat_eq count 0)) old new
      (option_map (λ (x : store.Row). x.size)
      (get (tables_in old.now).messages (message_key r))) r.size (tables_in old.now)
      (with_message r (tables_in old.now))
  sized_updated h =
      elim (sets_where messages_table old new desk text.sized_update_text text.sized_key
      text.message_updated text.sized_update_known (message_columns r) count (message_key r)
      (has_size r.size) (set_to r) (message_value r) (λ x. refl) (λ x. refl)
      (λ k. message_back (set_to r k.1) k.0 readable) (sized_tests r) (λ k. refl) (set_row r) h) [
        | inl none ↦ record {
          made = λ there. absurd (no_count count none.0 there);
          same =
              λ there. absurd (no_count count none.0 there);
          untouched = λ absent. none.1;
        }
        | inr some ↦ record {
          made = λ there. some.1.3;
          same = λ there. ap (option_map (λ (x : store.Row). x.size)) some.1.1
              ∙ ap Some (size_is r.size some.1.0 some.1.2);
          untouched = λ absent. absurd (one_count count some.0 absent);
        }
      ]

  pub message_inserted : get (tables_in old.now).messages (message_key r) ≡ None →
      Executes text.message_insert_text (message_columns r) old new (Ok count) →
      Leaves old new (with_message r (tables_in old.now))
  message_inserted free h =
      puts messages_table old new desk text.message_insert_text text.message_inserted 11
      text.message_insert_known (message_columns r) (Null ∷ message_columns r) count r refl
      cast_null (new_row r) (λ n. message_back r n readable) free h

pub message_deleted : (old new : State) (q : Key) (count : ℕ) → IsDesk old.now →
    Executes text.message_delete_text (message_key_columns q) old new (Ok count) →
    Leaves old new (without_row q (tables_in old.now))
message_deleted old new q count desk h =
    drops_at messages_table old new desk text.message_delete_text text.message_key
    text.message_delete_known (message_key_columns q) count q (λ k. key_tests q k []) h

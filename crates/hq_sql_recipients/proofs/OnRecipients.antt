-- What the statements on `recipients` do.
use Rattle.std.proofs.Common.{◌≡◌, ◌&&◌, ℕ, ℤ, pos, Bool, true, false, List, [], ◌∷◌, map, filter}
use Rattle.std.proofs.Common.{drop, not, None, Ok, nat_cmp, refl, sym, ap, ◌∙◌}
use Rattle.std.specs.Prelude.{nat_eq}
use Rattle.std.specs.List.{list_all}
use Rattle.std.specs.Ordering.{eq_by_cmp}
use Rattle.std.specs.Cmp.{tied_then}
use Rattle.std.specs.FinMap.{get, entries}
use Rattle.sqlite.specs.declared.types.Value.TheVariants.{Null, Text}
use Rattle.sqlite.specs.Order.{Row}
use Rattle.sqlite.specs.Term.{holds, eval_all}
use Rattle.sqlite.specs.Cast.{cast_row}
use Rattle.sqlite.specs.State.{State, Executes, Shown}
use Rattle.sqlite_typed.proofs.TestLemmas.{then_term, last_term, then_value}
use Rattle.hq_keyed.specs.Values.{number}
use Rattle.hq_keyed.proofs.Terms.{text_is, number_is}
use Rattle.hq_keyed.proofs.Writes.{cast_null, cast_int}
use Rattle.hq_schema.specs.Schema as schema
use Rattle.hq_sql.specs.Kept.{Updated}
use Rattle.hq_sql.specs.Tables.{IsDesk, Leaves, tables_in}
use Rattle.hq_sql.proofs.Statements.{lists_entries, puts, drops, sets}
use Rattle.hq_sql.proofs.Tables.{DeskTable}
use Rattle.std.proofs.Common.{cond}
use Rattle.std.specs.Cmp.{nat_cmp_total}
use Rattle.std.specs.Cmp.Lexicographic.{nat_list_cmp_total}
use Rattle.sqlite_value.proofs.OrderLemmas.{value_cmp-Text}
use Rattle.sqlite_typed.proofs.TestLemmas.{then_key, last_key}
use Rattle.sqlite_keyed.proofs.ListLemmas.{map-map}
use Rattle.hq_keyed.proofs.Terms.{number_beside, number_order}
use Rattle.hq_kept.specs.declared.message.Pending.{Pending}
use Rattle.hq_owned.specs.Rows.{pairs_of}
use Rattle.hq_owned.specs.Owned.{by_both, rows_of}
use Rattle.hq_owned.proofs.Parts.{entries_part}
use Rattle.hq_rows.specs.declared.rows.RecipientRow.{RecipientRow}
use Rattle.hq_tables.specs.Tables.{text_cmp, recipient_cmp, pending_of}
use Rattle.hq_rows.specs.Listed.{recipient_key, recipient_value}
use Rattle.hq_sql.specs.Rows.{status_read, status_column, recipient_columns, recipient_stored}
use Rattle.hq_sql.specs.Rows.{recipient_read, recipient_shown}
use Rattle.hq_sql_recipients.specs.Places.{is_of, is_beside}
use Rattle.hq_sql_recipients.specs.Recipients.{with_recipient, without_beside, range_columns}
use Rattle.hq_sql_recipients.specs.Recipients.{without_all, owner_columns}
use Rattle.hq_sql_recipients.proofs.InPlace.{Recipients, recipient_total, recipient_exact}
use Rattle.hq_sql_recipients.proofs.Texts as text

abbrev Key : Type 0
Key = List ℕ × (ℕ × ℕ)

abbrev pub recipients_table : DeskTable RecipientRow Key Pending
recipients_table = record {
  kind = record {
    encode = recipient_stored;
    decode = recipient_read;
    order = recipient_cmp;
    total = recipient_total;
    exact = recipient_exact;
    key = recipient_key;
    val = recipient_value;
    numbered = λ k. refl;
  };
  place = record {
    at = 3;
    table = record schema.recipients { tree = 6 };
    listed = refl;
    plain = λ db. refl;
    unlinked = λ olds news. refl;
    uncounted = refl;
  };
  stored = λ db desk. desk.recipients;
  fits = λ rows s. s;
  at = λ t. t.recipients;
  put = λ t m. record t { recipients = m };
  at_put = λ t m. refl;
  put_put = λ t m n. refl;
  set = λ db rows. refl;
}

-- ---- reading

-- the message's recipients, in the order of their places
pub recipients_shown : (old new : State) (c : List ℕ) (serial : ℕ) (rows : List Row) →
    IsDesk old.now → Shown text.recipients_read_text (Text c ∷ number serial ∷ []) old new rows
    → pairs_of recipient_key recipient_value (map recipient_shown rows) ≡ filter (is_of c serial)
    (entries (tables_in old.now).recipients)
recipients_shown old new c serial rows desk h =
    lists_entries recipients_table old new desk text.recipients_read_text _ _
    text.recipients_read_known refl refl refl (Text c ∷ number serial ∷ []) recipient_shown
    (λ k. refl) (is_of c serial)
    (λ k. then_term (text_is k.1.customer c) (last_term (number_is k.1.serial serial)))
    (λ j k. then_key (value_cmp-Text j.1.customer k.1.customer)
    (then_key (number_order j.1.serial k.1.serial)
    (last_key (number_order j.1.place k.1.place)))) (λ xs. refl) rows h

-- one message's entries are its recipients
abbrev Entry : Type 0
Entry = (List ℕ × (ℕ × ℕ)) × Pending

own_entries : (c : List ℕ) (serial : ℕ) (es : List Entry) →
    map (λ (e : ℕ × Pending). e.1) (rows_of nat_cmp serial (rows_of text_cmp c es)) ≡ map
    (λ (e : Entry). e.1) (filter (is_of c serial) es)
own_entries c serial [] = refl
own_entries c serial (e ∷ es) =
    let rest = own_entries c serial es in
    let left = rows_of text_cmp c es in
    let passing = filter (is_of c serial) es in
    elim (eq_by_cmp text_cmp c e.0.0) as (λ b. map (λ (x : ℕ × Pending). x.1)
    (rows_of nat_cmp serial (cond b ((e.0.1, e.1) ∷ left) left)) ≡ map (λ (x : Entry). x.1)
    (cond (b && eq_by_cmp nat_cmp serial e.0.1.0) (e ∷ passing) passing)) [
      | true ↦ elim (eq_by_cmp nat_cmp serial e.0.1.0) as (λ b. map (λ (x : ℕ × Pending). x.1)
          (cond b ((e.0.1.1, e.1) ∷ rows_of nat_cmp serial left) (rows_of nat_cmp serial left)) ≡
          map (λ (x : Entry). x.1) (cond b (e ∷ passing) passing)) [
            | true ↦ ap (λ xs. e.1 ∷ xs) rest
            | false ↦ rest
          ]
      | false ↦ rest
    ]

pub pending_is : (c : List ℕ) (serial : ℕ) (rs : Recipients) →
    pending_of c serial rs ≡ map (λ (e : Entry). e.1) (filter (is_of c serial) (entries rs))
unfolding pending_of
pending_is c serial rs =
    ap (map (λ (e : ℕ × Pending). e.1)) (entries_part nat_cmp nat_cmp_total serial _
    ∙ ap (rows_of nat_cmp serial)
    (entries_part (by_both nat_cmp nat_cmp) nat_list_cmp_total c rs))
    ∙ own_entries c serial (entries rs)

-- rows of an answer, read as recipients
pub pending_shown : (c : List ℕ) (serial : ℕ) (rs : Recipients) (rows : List Row) →
    pairs_of recipient_key recipient_value (map recipient_shown rows) ≡ filter (is_of c serial)
    (entries rs)
    → map (λ r. recipient_value (recipient_shown r)) rows ≡ pending_of c serial rs
pending_shown c serial rs rows h =
    sym (map-map (λ (e : Entry). e.1)
    (λ r. (recipient_key (recipient_shown r), recipient_value (recipient_shown r))) rows)
    ∙ ap (map (λ (e : Entry). e.1))
    (sym (map-map (λ (r : RecipientRow). (recipient_key r, recipient_value r)) recipient_shown
    rows) ∙ h)
    ∙ sym (pending_is c serial rs)

-- ---- values

pub recipient_back : (r : RecipientRow) (n : ℤ) →
    status_read (status_column r.pending.status) ≡ r.pending.status →
    recipient_read (recipient_stored (n, r)) ≡ r
recipient_back r n status = λ i. record {
  customer = r.customer;
  serial = r.serial;
  place = r.place;
  pending = record { address = r.pending.address; status = status i; text = r.pending.text };
}

-- ---- writing

key_tests : (q : Key) (k : ℤ × RecipientRow) (more : Row) →
    list_all (holds ((Text q.0 ∷ number q.1.0 ∷ number q.1.1 ∷ more) ∷ recipient_stored k ∷ []))
    text.recipient_key ≡ eq_by_cmp recipient_cmp q (recipient_key k.1)
key_tests q k more =
    then_term (text_is k.1.customer q.0)
    (then_term (number_is k.1.serial q.1.0) (last_term (number_is k.1.place q.1.1)))
    ∙ ap (λ b. eq_by_cmp text_cmp q.0 k.1.customer && b)
    (tied_then (nat_cmp q.1.0 k.1.serial) (nat_cmp q.1.1 k.1.place))
    ∙ tied_then (text_cmp q.0 k.1.customer) (by_both nat_cmp nat_cmp q.1 (k.1.serial, k.1.place))

-- the row with the recipient of r
abbrev set_to : RecipientRow → RecipientRow → RecipientRow
set_to r x = record {
  customer = x.customer;
  serial = x.serial;
  place = x.place;
  pending = r.pending;
}

set_row : (r : RecipientRow) (k : ℤ × RecipientRow) →
    cast_row (record schema.recipients { tree = 6 })
    (drop 1 (eval_all text.recipient_updated (recipient_columns r ∷ recipient_stored k ∷ []))) ≡
    recipient_stored (k.0, set_to r k.1)
set_row r k = then_value (cast_int k.0)
    (then_value refl (then_value (cast_int (pos k.1.serial))
    (then_value (cast_int (pos k.1.place)) refl)))

module _ (old new : State) (r : RecipientRow) (count : ℕ) (desk : IsDesk old.now)
    (status : status_read (status_column r.pending.status) ≡ r.pending.status) where
  pub recipient_updated : Executes text.recipient_update_text (recipient_columns r) old new
      (Ok count)
      → Updated (not (nat_eq count 0)) old new
      (get (tables_in old.now).recipients (recipient_key r)) (tables_in old.now)
      (with_recipient r (tables_in old.now))
  recipient_updated h =
      sets recipients_table old new desk text.recipient_update_text text.recipient_key
      text.recipient_updated text.recipient_update_known (recipient_columns r) count
      (recipient_key r) (set_to r) r.pending (λ x. refl) (λ x. refl)
      (λ k. recipient_back (set_to r k.1) k.0 status)
      (λ k. key_tests (recipient_key r) k (drop 3 (recipient_columns r))) (λ k. refl)
      (set_row r) h

  pub recipient_inserted : get (tables_in old.now).recipients (recipient_key r) ≡ None →
      Executes text.recipient_insert_text (recipient_columns r) old new (Ok count) →
      Leaves old new (with_recipient r (tables_in old.now))
  recipient_inserted free h =
      puts recipients_table old new desk text.recipient_insert_text text.recipient_inserted 7
      text.recipient_insert_known (recipient_columns r) (Null ∷ recipient_columns r) count r
      refl cast_null
      (λ n. then_value refl (then_value refl
      (then_value (cast_int (pos r.serial)) (then_value (cast_int (pos r.place)) refl))))
      (λ n. recipient_back r n status) free h

and_assoc : (a b c : Bool) → (a && (b && c)) ≡ ((a && b) && c)
and_assoc true b c = refl
and_assoc false b c = refl

beside_tests : (c : List ℕ) (serial n : ℕ) (k : ℤ × RecipientRow) →
    list_all (holds (range_columns c serial n ∷ recipient_stored k ∷ [])) text.beside_terms ≡
    is_beside c serial n (recipient_key k.1)
beside_tests c serial n k =
    then_term (text_is k.1.customer c)
    (then_term (number_is k.1.serial serial) (last_term (number_beside k.1.place n)))
    ∙ and_assoc (eq_by_cmp text_cmp c k.1.customer) _ _

pub beside_dropped : (old new : State) (c : List ℕ) (serial n count : ℕ) → IsDesk old.now →
    Executes text.beside_text (range_columns c serial n) old new (Ok count) →
    Leaves old new (without_beside c serial n (tables_in old.now))
beside_dropped old new c serial n count desk h =
    drops recipients_table old new desk text.beside_text text.beside_terms text.beside_known
    (range_columns c serial n) count (is_beside c serial n) (beside_tests c serial n) h

pub all_dropped : (old new : State) (c : List ℕ) (count : ℕ) → IsDesk old.now →
    Executes text.own_text (owner_columns c) old new (Ok count) →
    Leaves old new (without_all c (tables_in old.now))
all_dropped old new c count desk h =
    drops recipients_table old new desk text.own_text text.own_terms text.own_known
    (owner_columns c) count (λ k. eq_by_cmp text_cmp c k.0)
    (λ k. last_term (text_is k.1.customer c)) h

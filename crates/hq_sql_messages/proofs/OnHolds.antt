-- What the statements on `holds` do.
use Rattle.std.proofs.Common.{◌≡◌, ℕ, ℤ, pos, Bool, List, [], ◌∷◌, slice_get, option_map, Ok}
use Rattle.std.proofs.Common.{nat_cmp, refl, ◌∙◌, subst}
use Rattle.std.specs.List.{list_all}
use Rattle.std.specs.Ordering.{eq_by_cmp}
use Rattle.std.specs.Cmp.{tied_then}
use Rattle.std.specs.FinMap.{get}
use Rattle.sqlite.specs.declared.types.Value.TheVariants.{Null, Text}
use Rattle.sqlite.specs.Order.{Row}
use Rattle.sqlite.specs.Term.{holds}
use Rattle.sqlite.specs.State.{State, Executes, Shown}
use Rattle.sqlite_value.specs.Keys.{first_key, plain}
use Rattle.sqlite_typed.proofs.TestLemmas.{then_term, last_term, then_value}
use Rattle.hq_keyed.specs.Values.{number}
use Rattle.hq_keyed.proofs.Terms.{text_is, number_is}
use Rattle.hq_keyed.proofs.Unique.{Guard}
use Rattle.hq_keyed.proofs.Writes.{cast_null, cast_int}
use Rattle.hq_schema.specs.Schema as schema
use Rattle.hq_rows.specs.declared.rows.HoldRow.{HoldRow}
use Rattle.hq_tables.specs.Tables.{text_cmp, message_cmp}
use Rattle.hq_rows.specs.Listed.{hold_key, hold_value}
use Rattle.hq_tables.proofs.Orders.{message_total, message_exact}
use Rattle.hq_sql.specs.Bound.{message_key_columns}
use Rattle.hq_sql.specs.Rows.{hold_columns, hold_stored, hold_read, hold_shown}
use Rattle.hq_sql_messages.specs.Holds.{with_hold, without_hold}
use Rattle.hq_sql.specs.Tables.{IsDesk, Leaves, tables_in}
use Rattle.hq_sql.specs.Kept.{HasTried, Updated}
use Rattle.hq_sql.proofs.Statements.{got, adds, drops_at}
use Rattle.hq_sql.proofs.Tables.{DeskTable}
use Rattle.hq_sql_messages.proofs.HoldTexts as text

abbrev Key : Type 0
Key = List ℕ × ℕ

abbrev pub holds_table : DeskTable HoldRow Key (List ℕ)
holds_table = record {
  kind = record {
    encode = hold_stored;
    decode = hold_read;
    order = message_cmp;
    total = message_total;
    exact = message_exact;
    key = hold_key;
    val = hold_value;
    numbered = λ k. refl;
  };
  place = record {
    at = 7;
    table = record schema.holds { tree = 14 };
    listed = refl;
    plain = λ db. refl;
    unlinked = λ olds news. refl;
    uncounted = refl;
  };
  stored = λ db desk. desk.holds;
  fits = λ rows s. s;
  at = λ t. t.holds;
  put = λ t m. record t { holds = m };
  at_put = λ t m. refl;
  put_put = λ t m n. refl;
  set = λ db rows. refl;
}

key_tests : (q : Key) (k : ℤ × HoldRow) (more : Row) →
    list_all (holds ((Text q.0 ∷ number q.1 ∷ more) ∷ hold_stored k ∷ [])) text.hold_key ≡ eq_by_cmp
    message_cmp q (hold_key k.1)
key_tests q k more = then_term (text_is k.1.customer q.0) (last_term (number_is k.1.serial q.1))
    ∙ tied_then (text_cmp q.0 k.1.customer) (nat_cmp q.1 k.1.serial)

pub hold_got : (old new : State) (q : Key) (rows : List Row) → IsDesk old.now →
    Shown text.hold_read_text (message_key_columns q) old new rows
    → option_map (λ r. hold_value (hold_shown r)) (slice_get rows 0) ≡ get (tables_in old.now).holds
    q
hold_got old new q rows desk h =
    got holds_table old new desk text.hold_read_text text.hold_key text.hold_columns _
    text.hold_read_known (message_key_columns q) hold_shown (λ k. refl) (λ xs. refl) q
    (λ k. key_tests q k []) rows h

pub holds_guard : Guard schema.desk_schema holds_table.place holds_table.kind
unfolding first_key
holds_guard = record {
  order = plain;
  places = 1 ∷ 2 ∷ [];
  alone = λ db row. refl;
  agrees = λ a b. key_tests (hold_key b.1) a [];
}

pub hold_added : (old new : State) (r : HoldRow) (there : Bool) (params : Row) → IsDesk old.now →
    params ≡ hold_columns r → HasTried text.hold_insert_text params old new (Ok there) →
    Updated there old new (get (tables_in old.now).holds (hold_key r))
    (with_hold r (tables_in old.now)) (tables_in old.now)
hold_added old new r there params desk are h =
    adds holds_table old new desk holds_guard text.hold_insert_text text.hold_inserted 4
    text.hold_insert_known (hold_columns r) (Null ∷ hold_columns r) r refl cast_null
    (λ n. then_value refl (then_value refl (then_value (cast_int (pos r.serial)) refl))) (λ n. refl)
    there (subst (λ p. HasTried text.hold_insert_text p old new (Ok there)) are h)

pub hold_deleted : (old new : State) (q : Key) (count : ℕ) → IsDesk old.now →
    Executes text.hold_delete_text (message_key_columns q) old new (Ok count) →
    Leaves old new (without_hold q (tables_in old.now))
hold_deleted old new q count desk h =
    drops_at holds_table old new desk text.hold_delete_text text.hold_key text.hold_delete_known
    (message_key_columns q) count q (λ k. key_tests q k []) h

-- What the statements on `heads` do.
use Rattle.std.proofs.Common.{◌≡◌, ℕ, ℤ, pos, List, [], ◌∷◌, drop, slice_get, option_map, not, None}
use Rattle.std.proofs.Common.{Ok, refl}
use Rattle.std.specs.Prelude.{nat_eq}
use Rattle.std.specs.List.{list_all}
use Rattle.std.specs.Ordering.{eq_by_cmp}
use Rattle.std.specs.FinMap.{get}
use Rattle.std.specs.Cmp.Lexicographic.{nat_list_cmp_total}
use Rattle.std.proofs.lemmas.Map.Lookups.{exact_bytes}
use Rattle.sqlite.specs.declared.types.Value.TheVariants.{Null, Text}
use Rattle.sqlite.specs.declared.types.Value.TheVariants as value
use Rattle.sqlite.specs.Order.{Row}
use Rattle.sqlite.specs.Term.{holds, eval_all}
use Rattle.sqlite.specs.Cast.{cast_row}
use Rattle.sqlite.specs.State.{State, Executes, Shown}
use Rattle.sqlite_typed.proofs.TestLemmas.{last_term, then_value}
use Rattle.hq_keyed.proofs.Terms.{text_is}
use Rattle.hq_keyed.proofs.Writes.{cast_null, cast_int}
use Rattle.hq_schema.specs.Schema as schema
use Rattle.hq_tables.specs.declared.account.Account.{Account}
use Rattle.hq_rows.specs.declared.rows.HeadRow.{HeadRow}
use Rattle.hq_tables.specs.Tables.{text_cmp}
use Rattle.hq_rows.specs.Listed.{head_key, head_value}
use Rattle.hq_sql.specs.Rows.{head_columns, head_stored, head_read, head_shown}
use Rattle.hq_sql.specs.Tables.{IsDesk, Leaves, tables_in}
use Rattle.hq_sql.specs.Heads.{with_account}
use Rattle.hq_sql.specs.Kept.{Updated}
use Rattle.hq_sql.proofs.Statements.{got, puts, sets}
use Rattle.hq_sql.proofs.Tables.{DeskTable}
use Rattle.hq_sql.proofs.Texts as text

abbrev heads_table : DeskTable HeadRow (List ℕ) Account
heads_table = record {
  kind = record {
    encode = head_stored;
    decode = head_read;
    order = text_cmp;
    total = nat_list_cmp_total;
    exact = exact_bytes;
    key = head_key;
    val = head_value;
    numbered = λ k. refl;
  };
  place = record {
    at = 1;
    table = record schema.heads { tree = 1 };
    listed = refl;
    plain = λ db. refl;
    unlinked = λ olds news. refl;
    uncounted = refl;
  };
  stored = λ db desk. desk.heads;
  fits = λ rows s. s;
  at = λ t. t.heads;
  put = λ t m. record t { heads = m };
  at_put = λ t m. refl;
  put_put = λ t m n. refl;
  set = λ db rows. refl;
}

key_tests : (c : List ℕ) (k : ℤ × HeadRow) (more : Row) →
    list_all (holds ((Text c ∷ more) ∷ head_stored k ∷ [])) text.head_key ≡ eq_by_cmp text_cmp c
    (head_key k.1)
key_tests c k more = last_term (text_is k.1.customer c)

pub account_got : (old new : State) (c : List ℕ) (rows : List Row) → IsDesk old.now →
    Shown text.head_read_text (Text c ∷ []) old new rows
    → option_map (λ r. head_value (head_shown r)) (slice_get rows 0) ≡ get (tables_in old.now).heads
    c
account_got old new c rows desk h =
    got heads_table old new desk text.head_read_text text.head_key text.head_columns _
    text.head_read_known (Text c ∷ []) head_shown (λ k. refl) (λ xs. refl) c (λ k. key_tests c k [])
    rows h

-- the row with the other columns of r
abbrev set_to : HeadRow → HeadRow → HeadRow
set_to r x = record r { customer = x.customer }

set_row : (r : HeadRow) (k : ℤ × HeadRow) →
    cast_row (record schema.heads { tree = 1 })
    (drop 1 (eval_all text.head_updated (head_columns r ∷ head_stored k ∷ []))) ≡ head_stored (
      k.0,
      set_to r k.1,
    )
set_row r k =
    then_value (cast_int k.0) (then_value refl
    (then_value (cast_int (pos r.account.head.next_serial))
    (then_value (cast_int (pos r.account.head.next_notice))
    (then_value (cast_int (pos r.account.head.tally.accepted))
    (then_value (cast_int (pos r.account.head.tally.delivered))
    (then_value (cast_int (pos r.account.head.tally.failed))
    (then_value (cast_int (pos r.account.head.tally.deleted))
    (then_value (cast_int (pos r.account.head.tally.expired))
    (then_value (cast_int (pos r.account.counts.messages))
    (then_value (cast_int (pos r.account.counts.bytes))
    (then_value (cast_int (pos r.account.counts.lines)) refl)))))))))))

new_row : (r : HeadRow) (n : ℤ) → value.Int n
    ∷ drop 1 (cast_row (record schema.heads { tree = 1 }) (Null ∷ head_columns r)) ≡ head_stored (
      n,
      r,
    )
new_row r n =
    then_value refl (then_value refl
    (then_value (cast_int (pos r.account.head.next_serial))
    (then_value (cast_int (pos r.account.head.next_notice))
    (then_value (cast_int (pos r.account.head.tally.accepted))
    (then_value (cast_int (pos r.account.head.tally.delivered))
    (then_value (cast_int (pos r.account.head.tally.failed))
    (then_value (cast_int (pos r.account.head.tally.deleted))
    (then_value (cast_int (pos r.account.head.tally.expired))
    (then_value (cast_int (pos r.account.counts.messages))
    (then_value (cast_int (pos r.account.counts.bytes))
    (then_value (cast_int (pos r.account.counts.lines)) refl)))))))))))

module _ (old new : State) (r : HeadRow) (count : ℕ) (desk : IsDesk old.now) where
  pub head_updated : Executes text.head_update_text (head_columns r) old new (Ok count)
      → Updated (not (nat_eq count 0)) old new (get (tables_in old.now).heads r.customer)
      (tables_in old.now) (with_account r.customer r.account (tables_in old.now))
  head_updated h =
      sets heads_table old new desk text.head_update_text text.head_key text.head_updated
      text.head_update_known (head_columns r) count r.customer (set_to r) r.account (λ x. refl)
      (λ x. refl) (λ k. refl)
      (λ k. key_tests r.customer k (drop 1 (head_columns r))) (λ k. refl) (set_row r) h

  pub head_inserted : get (tables_in old.now).heads r.customer ≡ None →
      Executes text.head_insert_text (head_columns r) old new (Ok count) →
      Leaves old new (with_account r.customer r.account (tables_in old.now))
  head_inserted free h =
      puts heads_table old new desk text.head_insert_text text.head_inserted 12
      text.head_insert_known (head_columns r) (Null ∷ head_columns r) count r refl cast_null
      (new_row r) (λ n. refl) free h

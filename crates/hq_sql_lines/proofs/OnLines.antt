-- What the statements on `lines` do.
use Rattle.std.proofs.Common.{◌≡◌, ◌&&◌, ℕ, ℤ, List, [], ◌∷◌, drop, slice_get, option_map, not}
use Rattle.std.proofs.Common.{None, Ok, refl, ap, ◌∙◌}
use Rattle.std.specs.Prelude.{nat_eq}
use Rattle.std.specs.List.{list_all}
use Rattle.std.specs.Ordering.{eq_by_cmp}
use Rattle.std.specs.Cmp.{tied_then}
use Rattle.std.specs.FinMap.{get}
use Rattle.sqlite.specs.declared.types.Value.TheVariants.{Null, Text}
use Rattle.sqlite.specs.Order.{Row}
use Rattle.sqlite.specs.Term.{holds}
use Rattle.sqlite.specs.State.{State, Executes, Shown}
use Rattle.sqlite_typed.proofs.TestLemmas.{then_term, last_term, then_value}
use Rattle.hq_keyed.proofs.Terms.{text_is}
use Rattle.hq_keyed.proofs.Writes.{cast_null, cast_int}
use Rattle.hq_schema.specs.Schema as schema
use Rattle.hq_kept.specs.Patterns.{class_name}
use Rattle.hq_kept.specs.declared.action.Action.{Action}
use Rattle.hq_kept.specs.declared.pattern.Class.{Class}
use Rattle.hq_rows.specs.declared.rows.LineRow.{LineRow}
use Rattle.hq_tables.specs.Tables.{text_cmp, class_cmp, line_cmp, lines_cmp}
use Rattle.hq_rows.specs.Listed.{line_row_key, line_row_value}
use Rattle.hq_tables.proofs.Orders.{lines_total, lines_exact}
use Rattle.hq_sql.specs.Rows.{line_columns, line_stored, line_read, line_shown}
use Rattle.hq_sql_lines.specs.Lines.{tables_with_line, tables_without_line, line_key_columns}
use Rattle.hq_sql_lines.proofs.Backs.{line_back}
use Rattle.hq_sql.specs.Kept.{Updated}
use Rattle.hq_sql.specs.Tables.{IsDesk, Leaves, tables_in}
use Rattle.hq_sql.proofs.Statements.{got, puts, drops_at, sets}
use Rattle.hq_sql.proofs.Tables.{DeskTable}
use Rattle.hq_sql_lines.proofs.Texts as text

abbrev Key : Type 0
Key = List ℕ × (Class × List ℕ)

abbrev pub lines_table : DeskTable LineRow Key Action
lines_table = record {
  kind = record {
    encode = line_stored;
    decode = line_read;
    order = lines_cmp;
    total = lines_total;
    exact = lines_exact;
    key = line_row_key;
    val = line_row_value;
    numbered = λ k. refl;
  };
  place = record {
    at = 4;
    table = record schema.lines { tree = 8 };
    listed = refl;
    plain = λ db. refl;
    unlinked = λ olds news. refl;
    uncounted = refl;
  };
  stored = λ db desk. desk.lines;
  fits = λ rows s. s;
  at = λ t. t.lines;
  put = λ t m. record t { lines = m };
  at_put = λ t m. refl;
  put_put = λ t m n. refl;
  set = λ db rows. refl;
}

key_tests : (q : Key) (k : ℤ × LineRow) (more : Row) →
    list_all (holds ((Text q.0 ∷ Text (class_name q.1.0) ∷ Text q.1.1 ∷ more) ∷ line_stored k ∷ []))
    text.line_key ≡ eq_by_cmp lines_cmp q (line_row_key k.1)
key_tests q k more =
    then_term (text_is k.1.customer q.0)
    (then_term (text_is (class_name k.1.line.pattern.0) (class_name q.1.0))
    (last_term (text_is k.1.line.pattern.1 q.1.1)))
    ∙ ap (λ b. eq_by_cmp text_cmp q.0 k.1.customer && b)
    (tied_then (class_cmp q.1.0 k.1.line.pattern.0) (text_cmp q.1.1 k.1.line.pattern.1))
    ∙ tied_then (text_cmp q.0 k.1.customer) (line_cmp q.1 k.1.line.pattern)

pub line_got : (old new : State) (q : Key) (rows : List Row) → IsDesk old.now →
    Shown text.line_read_text (line_key_columns q) old new rows
    → option_map (λ r. line_row_value (line_shown r)) (slice_get rows 0) ≡ get
    (tables_in old.now).lines q
line_got old new q rows desk h =
    got lines_table old new desk text.line_read_text text.line_key text.line_columns _
    text.line_read_known (line_key_columns q) line_shown (λ k. refl) (λ xs. refl) q
    (λ k. key_tests q k []) rows h

-- the row with the action of r
abbrev set_to : LineRow → LineRow → LineRow
set_to r x = record {
  customer = x.customer;
  line = record { pattern = x.line.pattern; action = r.line.action };
}

module _ (old new : State) (r : LineRow) (count : ℕ) (desk : IsDesk old.now) where
  pub line_updated : Executes text.line_update_text (line_columns r) old new (Ok count)
      → Updated (not (nat_eq count 0)) old new (get (tables_in old.now).lines (line_row_key r))
      (tables_in old.now) (tables_with_line r (tables_in old.now))
  line_updated h =
      sets lines_table old new desk text.line_update_text text.line_key text.line_updated
      text.line_update_known (line_columns r) count (line_row_key r) (set_to r) r.line.action
      (λ x. refl) (λ x. refl) (λ k. line_back (set_to r k.1) k.0)
      (λ k. key_tests (line_row_key r) k (drop 3 (line_columns r))) (λ k. refl)
      (λ k. then_value (cast_int k.0) refl) h

  pub line_inserted : get (tables_in old.now).lines (line_row_key r) ≡ None →
      Executes text.line_insert_text (line_columns r) old new (Ok count) →
      Leaves old new (tables_with_line r (tables_in old.now))
  line_inserted free h =
      puts lines_table old new desk text.line_insert_text text.line_inserted 5
      text.line_insert_known (line_columns r) (Null ∷ line_columns r) count r refl cast_null
      (λ n. refl) (λ n. line_back r n) free h

pub line_deleted : (old new : State) (q : Key) (count : ℕ) → IsDesk old.now →
    Executes text.line_delete_text (line_key_columns q) old new (Ok count) →
    Leaves old new (tables_without_line q (tables_in old.now))
line_deleted old new q count desk h =
    drops_at lines_table old new desk text.line_delete_text text.line_key text.line_delete_known
    (line_key_columns q) count q (λ k. key_tests q k []) h

-- What the statements on `marks` do.
use Rattle.std.proofs.Common.{◌≡◌, ℕ, ℤ, pos, Bool, List, [], ◌∷◌, slice_get, option_map, Ok, refl}
use Rattle.std.proofs.Common.{◌∙◌, subst}
use Rattle.std.specs.List.{list_all}
use Rattle.std.specs.Ordering.{eq_by_cmp}
use Rattle.std.specs.Cmp.{tied_then}
use Rattle.std.specs.FinMap.{get}
use Rattle.sqlite.specs.declared.types.Value.TheVariants.{Null, Text}
use Rattle.sqlite.specs.Order.{Row}
use Rattle.sqlite.specs.Term.{holds}
use Rattle.sqlite.specs.State.{State, Executes, Shown}
use Rattle.sqlite_value.specs.Keys.{first_key, plain}
use Rattle.sqlite_typed.proofs.TestLemmas.{then_term, last_term, then_value}
use Rattle.hq_keyed.proofs.Terms.{text_is}
use Rattle.hq_keyed.proofs.Unique.{Guard}
use Rattle.hq_keyed.proofs.Writes.{cast_null, cast_int}
use Rattle.hq_schema.specs.Schema as schema
use Rattle.hq_kept.specs.declared.mark.Mark.{Mark}
use Rattle.hq_rows.specs.declared.rows.MarkRow.{MarkRow}
use Rattle.hq_tables.specs.Tables.{text_cmp, mark_cmp}
use Rattle.hq_rows.specs.Listed.{mark_key, mark_value}
use Rattle.hq_tables.proofs.Orders.{mark_total, mark_exact}
use Rattle.hq_sql.specs.Rows.{mark_columns, mark_stored, mark_read, mark_shown}
use Rattle.hq_sql_lines.specs.Marks.{with_mark, without_mark, mark_key_columns}
use Rattle.hq_sql.specs.Tables.{IsDesk, Leaves, tables_in}
use Rattle.hq_sql.specs.Kept.{HasTried, Updated}
use Rattle.hq_sql.proofs.Statements.{got, adds, drops_at}
use Rattle.hq_sql.proofs.Tables.{DeskTable}
use Rattle.hq_sql_lines.proofs.MarkTexts as text

abbrev Key : Type 0
Key = List ℕ × List ℕ

abbrev pub marks_table : DeskTable MarkRow Key Mark
marks_table = record {
  kind = record {
    encode = mark_stored;
    decode = mark_read;
    order = mark_cmp;
    total = mark_total;
    exact = mark_exact;
    key = mark_key;
    val = mark_value;
    numbered = λ k. refl;
  };
  place = record {
    at = 6;
    table = record schema.marks { tree = 12 };
    listed = refl;
    plain = λ db. refl;
    unlinked = λ olds news. refl;
    uncounted = refl;
  };
  stored = λ db desk. desk.marks;
  fits = λ rows s. s;
  at = λ t. t.marks;
  put = λ t m. record t { marks = m };
  at_put = λ t m. refl;
  put_put = λ t m n. refl;
  set = λ db rows. refl;
}

key_tests : (q : Key) (k : ℤ × MarkRow) (more : Row) →
    list_all (holds ((Text q.0 ∷ Text q.1 ∷ more) ∷ mark_stored k ∷ [])) text.mark_key ≡ eq_by_cmp
    mark_cmp q (mark_key k.1)
key_tests q k more = then_term (text_is k.1.customer q.0) (last_term (text_is k.1.mark.label q.1))
    ∙ tied_then (text_cmp q.0 k.1.customer) (text_cmp q.1 k.1.mark.label)

pub mark_got : (old new : State) (q : Key) (rows : List Row) → IsDesk old.now →
    Shown text.mark_read_text (mark_key_columns q) old new rows
    → option_map (λ r. mark_value (mark_shown r)) (slice_get rows 0) ≡ get (tables_in old.now).marks
    q
mark_got old new q rows desk h =
    got marks_table old new desk text.mark_read_text text.mark_key text.mark_columns _
    text.mark_read_known (mark_key_columns q) mark_shown (λ k. refl) (λ xs. refl) q
    (λ k. key_tests q k []) rows h

marks_guard : Guard schema.desk_schema marks_table.place marks_table.kind
unfolding first_key
marks_guard = record {
  order = plain;
  places = 1 ∷ 2 ∷ [];
  alone = λ db row. refl;
  agrees = λ a b. key_tests (mark_key b.1) a [];
}

pub mark_added : (old new : State) (r : MarkRow) (there : Bool) (params : Row) → IsDesk old.now →
    params ≡ mark_columns r → HasTried text.mark_insert_text params old new (Ok there) →
    Updated there old new (get (tables_in old.now).marks (mark_key r))
    (with_mark r (tables_in old.now)) (tables_in old.now)
mark_added old new r there params desk are h =
    adds marks_table old new desk marks_guard text.mark_insert_text text.mark_inserted 7
    text.mark_insert_known (mark_columns r) (Null ∷ mark_columns r) r refl cast_null
    (λ n. then_value refl (then_value refl
    (then_value refl (then_value refl
    (then_value (cast_int (pos r.mark.added))
    (then_value (cast_int (pos r.mark.changed))
    (then_value (cast_int (pos r.mark.same)) refl))))))) (λ n. refl) there
    (subst (λ p. HasTried text.mark_insert_text p old new (Ok there)) are h)

pub mark_deleted : (old new : State) (q : Key) (count : ℕ) → IsDesk old.now →
    Executes text.mark_delete_text (mark_key_columns q) old new (Ok count) →
    Leaves old new (without_mark q (tables_in old.now))
mark_deleted old new q count desk h =
    drops_at marks_table old new desk text.mark_delete_text text.mark_key text.mark_delete_known
    (mark_key_columns q) count q (λ k. key_tests q k []) h

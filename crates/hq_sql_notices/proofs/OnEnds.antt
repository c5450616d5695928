-- What the statements on `ends` do.
use Rattle.std.proofs.Common.{◌≡◌, ◌&&◌, ℕ, ℤ, pos, Bool, true, false, List, [], ◌∷◌, map, filter}
use Rattle.std.proofs.Common.{take, not, Option, Some, None, Ok, Ordering, subst, arith}
use Rattle.std.proofs.Common.{refl, sym, ap, ◌∙◌}
use Rattle.std.specs.Prelude.{nat_le, nat_lt}
use Rattle.std.specs.List.{list_all}
use Rattle.std.specs.Ordering.{eq_by_cmp}
use Rattle.std.specs.FinMap.{get, retain_keys}
use Rattle.std.proofs.lemmas.Bool.Decides.{nat_tests}
use Rattle.std.proofs.lemmas.List.{take-map}
use Rattle.sqlite.specs.Collation.TheVariants.{Binary}
use Rattle.sqlite.specs.declared.types.Value.TheVariants.{Null}
use Rattle.sqlite.specs.Order.{Row}
use Rattle.sqlite.specs.Term.{holds}
use Rattle.sqlite.specs.State.{State, Executes, Shown}
use Rattle.sqlite_sql.specs.Ops.{binary}
use Rattle.sqlite_sql.specs.declared.ops.BinaryOp.TheVariants.{Compare}
use Rattle.sqlite_sql.specs.declared.ops.CompareOp.TheVariants.{Gt, Le}
use Rattle.sqlite_value.proofs.OrderLemmas.{value_cmp-Text}
use Rattle.sqlite_typed.proofs.TestLemmas.{then_term, last_term, then_value, at_ints, truth_or}
use Rattle.sqlite_typed.proofs.TestLemmas.{then_key, last_key}
use Rattle.sqlite_keyed.specs.Lists.{sort_by}
use Rattle.sqlite_keyed.proofs.ListLemmas.{map-map}
use Rattle.hq_keyed.specs.Values.{number}
use Rattle.hq_keyed.proofs.Terms.{text_is, number_below, number_order}
use Rattle.hq_keyed.proofs.Writes.{cast_null, cast_int}
use Rattle.hq_schema.specs.Schema as schema
use Rattle.hq_kept.specs.declared.outcome.Fate.{Fate}
use Rattle.hq_kept.specs.declared.outcome.Fate.TheVariants.{Delivered, Failed, Deleted, Expired}
use Rattle.hq_kept.specs.declared.end.End.{End}
use Rattle.hq_rows.specs.declared.rows.EndRow.{EndRow}
use Rattle.hq_tables.specs.Tables.{Past, text_cmp, end_cmp, end_of}
use Rattle.hq_tables.specs.Readings.{read_tables, before_end}
use Rattle.hq_tables.proofs.Orders.{end_total, end_exact}
use Rattle.hq_rows.specs.Listed.{end_key, end_value}
use Rattle.hq_rows.specs.Lookups.{is_before, AreUniqueEnds, end_rows_with}
use Rattle.hq_rows.proofs.EndPages.{end_pages, before_is}
use Rattle.hq_rows.proofs.Pages.{sorted_found}
use Rattle.hq_sql.specs.Rows.{fate_code, fate_of, end_columns, end_stored, end_read, end_shown}
use Rattle.hq_sql.specs.Tables.{IsDesk, Leaves, tables_in}
use Rattle.hq_sql.proofs.Statements.{pages, puts, drops}
use Rattle.hq_sql.proofs.Tables.{DeskTable}
use Rattle.hq_sql_notices.specs.Numbered.{number_key_columns}
use Rattle.hq_sql_notices.specs.Ends.{with_end, without_above, without_to}
use Rattle.hq_sql_notices.specs.Ends.{newest_columns, page_columns, ends_in, AreReadable}
use Rattle.hq_sql_notices.proofs.EndTexts as text

abbrev Key : Type 0
Key = List ℕ × ℕ

abbrev pub ends_table : DeskTable EndRow Key Past
ends_table = record {
  kind = record {
    encode = end_stored;
    decode = end_read;
    order = end_cmp;
    total = end_total;
    exact = end_exact;
    key = end_key;
    val = end_value;
    numbered = λ k. refl;
  };
  place = record {
    at = 8;
    table = record schema.ends { tree = 16 };
    listed = refl;
    plain = λ db. refl;
    unlinked = λ olds news. refl;
    uncounted = refl;
  };
  stored = λ db desk. desk.ends;
  fits = λ rows s. s;
  at = λ t. t.ends;
  put = λ t m. record t { ends = m };
  at_put = λ t m. refl;
  put_put = λ t m n. refl;
  set = λ db rows. refl;
}

fate_back : (f : Fate) → fate_of (fate_code f) ≡ f
fate_back Delivered = refl
fate_back Failed = refl
fate_back Deleted = refl
fate_back Expired = refl

end_back : (r : EndRow) (n : ℤ) → AreReadable r.end.ended → end_read (end_stored (n, r)) ≡ r
end_back r n readable = λ i. record {
  customer = r.customer;
  end = record {
    number = r.end.number;
    at = r.end.at;
    ended = record {
      serial = r.end.ended.serial;
      sender = readable.0 i;
      recipient = r.end.ended.recipient;
      fate = fate_back r.end.ended.fate i;
      status = readable.1 i;
      text = r.end.ended.text;
    };
  };
}

-- ---- writing

pub end_inserted : (old new : State) (r : EndRow) (count : ℕ) → AreReadable r.end.ended →
    IsDesk old.now → get (tables_in old.now).ends (end_key r) ≡ None →
    Executes text.end_insert_text (end_columns r) old new (Ok count) →
    Leaves old new (with_end r (tables_in old.now))
end_inserted old new r count readable desk free h =
    puts ends_table old new desk text.end_insert_text text.end_inserted 10
    text.end_insert_known (end_columns r) (Null ∷ end_columns r) count r refl cast_null
    (λ n. then_value refl (then_value refl
    (then_value (cast_int (pos r.end.number))
    (then_value (cast_int (pos r.end.at))
    (then_value (cast_int (pos r.end.ended.serial))
    (then_value refl (then_value refl
    (then_value (cast_int (pos (fate_code r.end.ended.fate))) refl))))))))
    (λ n. end_back r n readable) free h

-- ---- the drop of those above a number

-- column > parameter
number_above : (x n : ℕ) → truth_or false (binary (Compare Gt Binary) (number x) (number n)) ≡
    nat_lt n x
number_above x n = at_ints false Gt (pos x) (pos n)

-- an end of the customer above the number
abbrev is_above : Key → List ℕ × ℕ → Bool
is_above q k = eq_by_cmp text_cmp q.0 k.0 && nat_lt q.1 k.1

above_tests : (q : Key) (k : ℤ × EndRow) →
    list_all (holds (number_key_columns q ∷ end_stored k ∷ [])) text.above_terms ≡ is_above q
    (end_key k.1)
above_tests q k =
    then_term (text_is k.1.customer q.0) (last_term (number_above k.1.end.number q.1))

above_is : (x n : ℕ) → nat_lt n x ≡ not (nat_le x n)
above_is x n = grind (arith, nat_tests)

pub above_deleted : (old new : State) (q : Key) (count : ℕ) → IsDesk old.now →
    Executes text.above_text (number_key_columns q) old new (Ok count) →
    Leaves old new (without_above q.0 q.1 (tables_in old.now))
above_deleted old new q count desk h =
    subst (λ m. Leaves old new (record (tables_in old.now) { ends = m }))
    (λ i. retain_keys (tables_in old.now).ends (λ k. not (eq_by_cmp text_cmp q.0 k.0
    && above_is k.1 q.1 i)))
    (drops ends_table old new desk text.above_text text.above_terms text.above_known
    (number_key_columns q) count (is_above q) (above_tests q) h)

-- ---- the drop of old ones

-- column <= parameter
number_to : (x n : ℕ) → truth_or false (binary (Compare Le Binary) (number x) (number n)) ≡
    nat_le x n
number_to x n = at_ints false Le (pos x) (pos n)

-- an end of the customer up to the number
abbrev is_to : Key → List ℕ × ℕ → Bool
is_to q k = eq_by_cmp text_cmp q.0 k.0 && nat_le k.1 q.1

to_tests : (q : Key) (k : ℤ × EndRow) →
    list_all (holds (number_key_columns q ∷ end_stored k ∷ [])) text.to_terms ≡ is_to q
    (end_key k.1)
to_tests q k = then_term (text_is k.1.customer q.0) (last_term (number_to k.1.end.number q.1))

to_is : (x n : ℕ) → nat_le x n ≡ not (nat_lt n x)
to_is x n = grind (arith, nat_tests)

pub to_deleted : (old new : State) (q : Key) (count : ℕ) → IsDesk old.now →
    Executes text.to_text (number_key_columns q) old new (Ok count) →
    Leaves old new (without_to q.0 q.1 (tables_in old.now))
to_deleted old new q count desk h =
    subst (λ m. Leaves old new (record (tables_in old.now) { ends = m }))
    (λ i. retain_keys (tables_in old.now).ends (λ k. not (eq_by_cmp text_cmp q.0 k.0
    && to_is k.1 q.1 i)))
    (drops ends_table old new desk text.to_text text.to_terms text.to_known
    (number_key_columns q) count (is_to q) (to_tests q) h)

-- ---- pages

abbrev by_row : EndRow → EndRow → Ordering
by_row a b = end_cmp (end_key a) (end_key b)

-- an end of the customer before a number, or any of its ends
abbrev on_page : List ℕ → Option ℕ → EndRow → Bool
on_page c before r = eq_by_cmp text_cmp c r.customer && is_before before r.end.number

-- the first so many rows of a page are the first so many ends
rows_are : (c : List ℕ) (before : Option ℕ) (limit : ℕ) (rows kept : List Row) →
    AreUniqueEnds (map end_read kept) → map end_shown rows ≡ take limit
    (sort_by by_row (filter (on_page c before) (map end_read kept)))
    → ends_in rows ≡ take limit
    (before_end before (map end_of (end_rows_with c (map end_read kept))))
unfolding AreUniqueEnds
rows_are c before limit rows kept u shown =
    let one : EndRow → End = λ r. r.end in
    sym (map-map one end_shown rows) ∙ ap (map one) shown
    ∙ sym (take-map one limit (sort_by by_row
    (filter (on_page c before) (map end_read kept))))
    ∙ ap (take limit) (sorted_found end_pages (is_before before) c (map end_read kept) u
    ∙ sym (before_is before (end_rows_with c (map end_read kept))))

all_pass : (b : Bool) → b ≡ (b && true)
all_pass true = refl
all_pass false = refl

newest_tests : (c : List ℕ) (limit : ℕ) (k : ℤ × EndRow) →
    list_all (holds (newest_columns c limit ∷ end_stored k ∷ [])) text.newest_terms ≡
    on_page c None k.1
newest_tests c limit k = last_term (text_is k.1.customer c)
    ∙ all_pass (eq_by_cmp text_cmp c k.1.customer)

page_tests : (c : List ℕ) (n limit : ℕ) (k : ℤ × EndRow) →
    list_all (holds (page_columns c n limit ∷ end_stored k ∷ [])) text.page_terms ≡
    on_page c (Some n) k.1
page_tests c n limit k = then_term (text_is k.1.customer c)
    (last_term (number_below k.1.end.number n))

pub newest_shown : (old new : State) (c : List ℕ) (limit : ℕ) (rows : List Row) →
    IsDesk old.now → Shown text.newest_text (newest_columns c limit) old new rows
    → ends_in rows ≡ take limit (before_end None (read_tables c (tables_in old.now)).ends)
unfolding AreUniqueEnds
newest_shown old new c limit rows desk h =
    rows_are c None limit rows (old.now.trees 16) desk.ends.unique
    (pages ends_table old new desk text.newest_text _ _ text.newest_known refl refl
    refl (newest_columns c limit) end_shown (λ k. refl) (on_page c None)
    (newest_tests c limit)
    (λ j k. then_key (value_cmp-Text j.1.customer k.1.customer)
    (last_key (number_order k.1.end.number j.1.end.number))) limit (λ xs. refl) rows h)

pub page_shown : (old new : State) (c : List ℕ) (n limit : ℕ) (rows : List Row) →
    IsDesk old.now → Shown text.page_text (page_columns c n limit) old new rows
    → ends_in rows ≡ take limit (before_end (Some n) (read_tables c (tables_in old.now)).ends)
unfolding AreUniqueEnds
page_shown old new c n limit rows desk h =
    rows_are c (Some n) limit rows (old.now.trees 16) desk.ends.unique
    (pages ends_table old new desk text.page_text _ _ text.page_known refl refl
    refl (page_columns c n limit) end_shown (λ k. refl) (on_page c (Some n))
    (page_tests c n limit)
    (λ j k. then_key (value_cmp-Text j.1.customer k.1.customer)
    (last_key (number_order k.1.end.number j.1.end.number))) limit (λ xs. refl) rows h)

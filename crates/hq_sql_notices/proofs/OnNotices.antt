-- What the statements on `notices` do.
use Rattle.std.proofs.Common.{◌≡◌, ◌&&◌, ℕ, ℤ, pos, negsuc, Bool, false, List, [], ◌∷◌, map, filter}
use Rattle.std.proofs.Common.{take, slice_get, option_map, not, Option, Some, None, Ok, nat_cmp}
use Rattle.std.proofs.Common.{refl, sym, ap, ◌∙◌}
use Rattle.std.specs.List.{list_all}
use Rattle.std.specs.Ordering.{eq_by_cmp}
use Rattle.std.specs.Cmp.{tied_then}
use Rattle.std.specs.FinMap.{get}
use Rattle.sqlite.specs.declared.types.Value.TheVariants.{Null, Text}
use Rattle.sqlite.specs.Order.{Row}
use Rattle.sqlite.specs.Term.{holds}
use Rattle.sqlite.specs.State.{State, Executes, Shown}
use Rattle.sqlite_typed.proofs.TestLemmas.{then_term, last_term, then_value}
use Rattle.hq_keyed.specs.Values.{number}
use Rattle.hq_keyed.proofs.Terms.{text_is, number_is, number_below}
use Rattle.hq_keyed.proofs.Unique.{Guard}
use Rattle.hq_keyed.proofs.Writes.{cast_null, cast_int}
use Rattle.hq_schema.specs.Schema as schema
use Rattle.hq_sql.specs.Tables.{IsDesk, Leaves, tables_in}
use Rattle.hq_sql.specs.Kept.{HasTried, Updated}
use Rattle.hq_sql.proofs.Statements.{row_at, pages, adds, drops, drops_at}
use Rattle.hq_sql.proofs.Tables.{DeskTable}
use Rattle.std.proofs.Common.{Ordering, subst, arith}
use Rattle.std.specs.Prelude.{nat_le, nat_lt}
use Rattle.std.specs.FinMap.{retain_keys}
use Rattle.std.proofs.lemmas.Bool.Decides.{nat_tests}
use Rattle.std.proofs.lemmas.List.{take-map}
use Rattle.sqlite_value.specs.Keys.{first_key, plain}
use Rattle.sqlite_value.proofs.OrderLemmas.{value_cmp-Text}
use Rattle.sqlite_typed.proofs.TestLemmas.{then_key, last_key}
use Rattle.sqlite_keyed.specs.Lists.{sort_by}
use Rattle.sqlite_keyed.proofs.ListLemmas.{map-map}
use Rattle.hq_keyed.proofs.Select.{option_map-map}
use Rattle.hq_keyed.proofs.Terms.{number_above, above_none, above_some, number_order}
use Rattle.hq_kept.specs.declared.kind.Kind.{Kind}
use Rattle.hq_kept.specs.declared.kind.Kind.TheVariants.{Failure, Delay}
use Rattle.hq_kept.specs.declared.notice.Notice.{Notice}
use Rattle.hq_rows.specs.declared.rows.NoticeRow.{NoticeRow}
use Rattle.hq_tables.specs.Tables.{Noted, text_cmp, notice_cmp, notice_of}
use Rattle.hq_rows.specs.Listed.{notice_key, notice_value}
use Rattle.hq_rows.specs.Lookups.{is_after, is_notice, AreUniqueNotices, notice_rows_with}
use Rattle.hq_tables.specs.Readings.{read_tables, after_number}
use Rattle.hq_rows.proofs.Notices.{notice_found}
use Rattle.hq_tables.proofs.Orders.{message_total, message_exact}
use Rattle.hq_rows.proofs.NoticePages.{notice_pages, after_is}
use Rattle.hq_rows.proofs.Pages.{sorted_found}
use Rattle.hq_sql.specs.Rows.{kind_code, kind_of, notice_columns, notice_stored, notice_read}
use Rattle.hq_sql.specs.Rows.{notice_shown}
use Rattle.hq_sql_notices.specs.Notices.{with_notice, without_notice, without_below}
use Rattle.hq_sql_notices.specs.Numbered.{number_key_columns}
use Rattle.hq_sql_notices.specs.Notices.{notice_page_columns, notices_in}
use Rattle.hq_sql_notices.proofs.NoticeTexts as text

abbrev Key : Type 0
Key = List ℕ × ℕ

abbrev pub notices_table : DeskTable NoticeRow Key Noted
notices_table = record {
  kind = record {
    encode = notice_stored;
    decode = notice_read;
    order = notice_cmp;
    total = message_total;
    exact = message_exact;
    key = notice_key;
    val = notice_value;
    numbered = λ k. refl;
  };
  place = record {
    at = 5;
    table = record schema.notices { tree = 10 };
    listed = refl;
    plain = λ db. refl;
    unlinked = λ olds news. refl;
    uncounted = refl;
  };
  stored = λ db desk. desk.notices;
  fits = λ rows s. s;
  at = λ t. t.notices;
  put = λ t m. record t { notices = m };
  at_put = λ t m. refl;
  put_put = λ t m n. refl;
  set = λ db rows. refl;
}

kind_back : (k : Kind) → kind_of (kind_code k) ≡ k
kind_back Failure = refl
kind_back Delay = refl

notice_back : (r : NoticeRow) (n : ℤ) → notice_read (notice_stored (n, r)) ≡ r
notice_back r n = λ i. record r { notice = record r.notice { kind = kind_back r.notice.kind i } }

key_tests : (q : Key) (k : ℤ × NoticeRow) (more : Row) →
    list_all (holds ((Text q.0 ∷ number q.1 ∷ more) ∷ notice_stored k ∷ [])) text.notice_key ≡
    eq_by_cmp notice_cmp q (notice_key k.1)
key_tests q k more =
    then_term (text_is k.1.customer q.0) (last_term (number_is k.1.notice.number q.1))
    ∙ tied_then (text_cmp q.0 k.1.customer) (nat_cmp q.1 k.1.notice.number)

-- ---- reading

pub notice_got : (old new : State) (q : Key) (rows : List Row) → IsDesk old.now →
    Shown text.notice_read_text (number_key_columns q) old new rows
    → option_map (λ r. (notice_shown r).notice) (slice_get rows 0) ≡ option_map
    (λ (n : Noted). notice_of (q.1, n)) (get (tables_in old.now).notices q)
unfolding is_notice
notice_got old new q rows desk h =
    sym (option_map-map (λ (r : NoticeRow). r.notice) notice_shown (slice_get rows 0))
    ∙ ap (option_map (λ (r : NoticeRow). r.notice))
    (row_at notices_table old new desk text.notice_read_text text.notice_key text.notice_columns
    _ text.notice_read_known (number_key_columns q) notice_shown (λ k. refl) (λ xs. refl) q
    (λ k. key_tests q k []) rows h)
    ∙ notice_found (map notice_read (old.now.trees 10)) q.0 q.1

-- ---- writing

notices_guard : Guard schema.desk_schema notices_table.place notices_table.kind
unfolding first_key
notices_guard = record {
  order = plain;
  places = 1 ∷ 2 ∷ [];
  alone = λ db row. refl;
  agrees = λ a b. key_tests (notice_key b.1) a [];
}

pub notice_added : (old new : State) (r : NoticeRow) (there : Bool) (params : Row) →
    IsDesk old.now → params ≡ notice_columns r →
    HasTried text.notice_insert_text params old new (Ok there) →
    Updated there old new (get (tables_in old.now).notices (notice_key r))
    (with_notice r (tables_in old.now)) (tables_in old.now)
notice_added old new r there params desk are h =
    adds notices_table old new desk notices_guard text.notice_insert_text text.notice_inserted 9
    text.notice_insert_known (notice_columns r) (Null ∷ notice_columns r) r refl cast_null
    (λ n. then_value refl (then_value refl
    (then_value (cast_int (pos r.notice.number))
    (then_value (cast_int (pos (kind_code r.notice.kind)))
    (then_value (cast_int (pos r.notice.serial))
    (then_value (cast_int (pos r.notice.at)) refl))))))
    (λ n. notice_back r n) there
    (subst (λ p. HasTried text.notice_insert_text p old new (Ok there)) are h)

pub notice_deleted : (old new : State) (q : Key) (count : ℕ) → IsDesk old.now →
    Executes text.notice_delete_text (number_key_columns q) old new (Ok count) →
    Leaves old new (without_notice q (tables_in old.now))
notice_deleted old new q count desk h =
    drops_at notices_table old new desk text.notice_delete_text text.notice_key
    text.notice_delete_known (number_key_columns q) count q (λ k. key_tests q k []) h

-- ---- the drop of old ones

-- a notice of the customer below the number
abbrev is_below : Key → List ℕ × ℕ → Bool
is_below q k = eq_by_cmp text_cmp q.0 k.0 && nat_lt k.1 q.1

below_tests : (q : Key) (k : ℤ × NoticeRow) →
    list_all (holds (number_key_columns q ∷ notice_stored k ∷ [])) text.below_terms ≡ is_below q
    (notice_key k.1)
below_tests q k = then_term (text_is k.1.customer q.0)
    (last_term (number_below k.1.notice.number q.1))

below_is : (x n : ℕ) → nat_lt x n ≡ not (nat_le n x)
below_is x n = grind (arith, nat_tests)

pub below_deleted : (old new : State) (q : Key) (count : ℕ) → IsDesk old.now →
    Executes text.below_text (number_key_columns q) old new (Ok count) →
    Leaves old new (without_below q.0 q.1 (tables_in old.now))
below_deleted old new q count desk h =
    subst (λ m. Leaves old new (record (tables_in old.now) { notices = m }))
    (λ i. retain_keys (tables_in old.now).notices (λ k. not (eq_by_cmp text_cmp q.0 k.0
    && below_is k.1 q.1 i)))
    (drops notices_table old new desk text.below_text text.below_terms text.below_known
    (number_key_columns q) count (is_below q) (below_tests q) h)

-- ---- pages

abbrev by_row : NoticeRow → NoticeRow → Ordering
by_row a b = notice_cmp (notice_key a) (notice_key b)

-- a notice of the customer after a number, or any of its notices
abbrev on_page : List ℕ → Option ℕ → NoticeRow → Bool
on_page c after r = eq_by_cmp text_cmp c r.customer && is_after after r.notice.number

-- the first so many rows of a page are the first so many notices
rows_are : (c : List ℕ) (after : Option ℕ) (limit : ℕ) (rows kept : List Row) →
    AreUniqueNotices (map notice_read kept) → map notice_shown rows ≡ take limit
    (sort_by by_row (filter (on_page c after) (map notice_read kept)))
    → notices_in rows ≡ take limit
    (after_number after (map notice_of (notice_rows_with c (map notice_read kept))))
unfolding AreUniqueNotices
rows_are c after limit rows kept u shown =
    let one : NoticeRow → Notice = λ r. r.notice in
    sym (map-map one notice_shown rows) ∙ ap (map one) shown
    ∙ sym (take-map one limit (sort_by by_row
    (filter (on_page c after) (map notice_read kept))))
    ∙ ap (take limit) (sorted_found notice_pages (is_after after) c (map notice_read kept) u
    ∙ sym (after_is after (notice_rows_with c (map notice_read kept))))

page_tests : (c : List ℕ) (after : Option ℕ) (limit : ℕ) (k : ℤ × NoticeRow) →
    list_all (holds (notice_page_columns c after limit ∷ notice_stored k ∷ [])) text.page_terms
    ≡ on_page c
    after k.1
page_tests c None limit k =
    then_term (text_is k.1.customer c) (last_term (number_above k.1.notice.number (negsuc 0)
    ∙ above_none k.1.notice.number))
page_tests c (Some n) limit k =
    then_term (text_is k.1.customer c) (last_term (number_above k.1.notice.number (pos n)
    ∙ above_some n k.1.notice.number))

pub page_shown : (old new : State) (c : List ℕ) (after : Option ℕ) (limit : ℕ) (rows : List Row) →
    IsDesk old.now → Shown text.notice_page_text (notice_page_columns c after limit) old new rows
    → notices_in rows ≡ take limit (after_number after (read_tables c (tables_in old.now)).notices)
unfolding AreUniqueNotices
page_shown old new c after limit rows desk h =
    rows_are c after limit rows (old.now.trees 10) desk.notices.unique
    (pages notices_table old new desk text.notice_page_text _ _ text.notice_page_known refl refl
    refl (notice_page_columns c after limit) notice_shown (λ k. refl) (on_page c after)
    (page_tests c after limit)
    (λ j k. then_key (value_cmp-Text j.1.customer k.1.customer)
    (last_key (number_order j.1.notice.number k.1.notice.number))) limit (λ xs. refl) rows h)

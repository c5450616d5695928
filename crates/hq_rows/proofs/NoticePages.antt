-- A page of notices is the customer's part of the table, in its order.
use Rattle.std.proofs.Common.{◌≡◌, ℕ, true, List, [], ◌∷◌, map, filter, sym, refl, ap, ◌∙◌}
use Rattle.std.proofs.Common.{Option, Some, None, Ordering, IsPermutation, IsSorted}
use Rattle.std.specs.Ordering.{nat_cmp}
use Rattle.std.specs.Prelude.{nat_lt}
use Rattle.std.specs.Cmp.{nat_cmp_total}
use Rattle.sqlite_keyed.proofs.ListLemmas.{filter-map}
use Rattle.hq_kept.specs.declared.notice.Notice.{Notice}
use Rattle.hq_rows.specs.declared.rows.NoticeRow.{NoticeRow}
use Rattle.hq_tables.specs.Tables.{Noted, notice_of}
use Rattle.hq_tables.specs.Readings.{after_number}
use Rattle.hq_rows.specs.Listed.{notice_key, notice_value}
use Rattle.hq_rows.specs.Lookups.{AreUniqueNotices, is_after, is_notice_past, notice_rows_with}
use Rattle.hq_rows.proofs.Pages.{Paged, in_order}
use Rattle.hq_tables.proofs.Orders.{message_total}

-- the order of notices
abbrev pub by_number : Notice → Notice → Ordering
by_number a b = nat_cmp a.number b.number

abbrev pub notice_pages : Paged NoticeRow ℕ Noted Notice nat_cmp
notice_pages = record {
  total = nat_cmp_total;
  all_total = message_total;
  key = notice_key;
  val = notice_value;
  made = notice_of;
  key_of = λ n. n.number;
  same_key = λ e. refl;
}

-- the notices after a number, as a filter of the rows
pub after_is : (after : Option ℕ) (es : List (ℕ × Noted)) →
    after_number after (map notice_of es) ≡ map notice_of
    (filter (λ (e : ℕ × Noted). is_after after e.0) es)
after_is None es = ap (map notice_of) (sym (all es)) where
  all : (es : List (ℕ × Noted)) → filter (λ (e : ℕ × Noted). true) es ≡ es
  all [] = refl
  all (e ∷ es) = ap (λ xs. e ∷ xs) (all es)
after_is (Some p) es = filter-map (λ (n : Notice). nat_lt p n.number) notice_of es

-- a page: the notices after a number
pub notices_are : (c : List ℕ) (after : Option ℕ) (rows : List NoticeRow) (found : List Notice) →
    AreUniqueNotices rows → IsPermutation (map (λ (r : NoticeRow). r.notice)
    (filter (is_notice_past c after) rows)) found → IsSorted by_number found
    → found ≡ after_number after (map notice_of (notice_rows_with c rows))
unfolding AreUniqueNotices is_notice_past
notices_are c after rows found u same sorted =
    in_order notice_pages (is_after after) c rows u found same sorted
    ∙ sym (after_is after (notice_rows_with c rows))

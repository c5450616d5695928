-- A page of a history is the customer's part of the table, in its order.
use Rattle.std.proofs.Common.{◌≡◌, ℕ, true, List, [], ◌∷◌, map, filter, sym, refl, ap, ◌∙◌}
use Rattle.std.proofs.Common.{Option, Some, None, Ordering, IsPermutation, IsSorted}
use Rattle.std.specs.Prelude.{nat_lt}
use Rattle.sqlite_keyed.proofs.ListLemmas.{filter-map}
use Rattle.hq_kept.specs.declared.end.End.{End}
use Rattle.hq_rows.specs.declared.rows.EndRow.{EndRow}
use Rattle.hq_tables.specs.Tables.{Past, newest_cmp, end_of}
use Rattle.hq_tables.specs.Readings.{before_end}
use Rattle.hq_rows.specs.Listed.{end_key, end_value}
use Rattle.hq_rows.specs.Lookups.{AreUniqueEnds, is_before, is_end_before, end_rows_with}
use Rattle.hq_rows.proofs.Pages.{Paged, in_order}
use Rattle.hq_tables.proofs.Orders.{newest_total, end_total}

-- the order of ends
abbrev pub by_newest : End → End → Ordering
by_newest a b = newest_cmp a.number b.number

abbrev pub end_pages : Paged EndRow ℕ Past End newest_cmp
end_pages = record {
  total = newest_total;
  all_total = end_total;
  key = end_key;
  val = end_value;
  made = end_of;
  key_of = λ e. e.number;
  same_key = λ e. refl;
}

-- the ends before a number, as a filter of the rows
pub before_is : (before : Option ℕ) (es : List (ℕ × Past)) →
    before_end before (map end_of es) ≡ map end_of
    (filter (λ (e : ℕ × Past). is_before before e.0) es)
before_is None es = ap (map end_of) (sym (all es)) where
  all : (es : List (ℕ × Past)) → filter (λ (e : ℕ × Past). true) es ≡ es
  all [] = refl
  all (e ∷ es) = ap (λ xs. e ∷ xs) (all es)
before_is (Some n) es = filter-map (λ (e : End). nat_lt e.number n) end_of es

-- a page: the ends before a number
pub ends_are : (c : List ℕ) (before : Option ℕ) (rows : List EndRow) (found : List End) →
    AreUniqueEnds rows → IsPermutation (map (λ (r : EndRow). r.end)
    (filter (is_end_before c before) rows)) found → IsSorted by_newest found
    → found ≡ before_end before (map end_of (end_rows_with c rows))
unfolding AreUniqueEnds is_end_before
ends_are c before rows found u same sorted =
    in_order end_pages (is_before before) c rows u found same sorted
    ∙ sym (before_is before (end_rows_with c rows))

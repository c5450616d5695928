-- A page of lines is the customer's part of the table, in its order.
use Rattle.std.proofs.Common.{◌≡◌, ℕ, true, List, [], ◌∷◌, map, filter, sym, refl, ap, ◌∙◌}
use Rattle.std.proofs.Common.{Option, Some, None, Ordering, IsPermutation, IsSorted}
use Rattle.std.specs.Ordering.{is_lt}
use Rattle.sqlite_keyed.proofs.ListLemmas.{filter-map}
use Rattle.hq_kept.specs.declared.action.Action.{Action}
use Rattle.hq_kept.specs.declared.pattern.Class.{Class}
use Rattle.hq_kept.specs.declared.pattern.Line.{Line}
use Rattle.hq_rows.specs.declared.rows.LineRow.{LineRow}
use Rattle.hq_tables.specs.Tables.{line_cmp}
use Rattle.hq_tables.specs.Readings.{line_of, after_pattern}
use Rattle.hq_rows.specs.Listed.{line_row_key, line_row_value}
use Rattle.hq_rows.specs.Lookups.{AreUniqueLines, is_after_pattern, is_line_past, line_rows_with}
use Rattle.hq_rows.proofs.Pages.{Paged, in_order}
use Rattle.hq_tables.proofs.Orders.{lines_total, line_total}

abbrev Key : Type 0
Key = Class × List ℕ

-- the order of lines
abbrev pub by_pattern : Line → Line → Ordering
by_pattern a b = line_cmp a.pattern b.pattern

abbrev pub line_pages : Paged LineRow Key Action Line line_cmp
line_pages = record {
  total = line_total;
  all_total = lines_total;
  key = line_row_key;
  val = line_row_value;
  made = line_of;
  key_of = λ l. l.pattern;
  same_key = λ e. refl;
}

-- the lines after a pattern, as a filter of the rows
pub after_is : (after : Option Key) (es : List (Key × Action)) →
    after_pattern after (map line_of es) ≡ map line_of
    (filter (λ (e : Key × Action). is_after_pattern after e.0) es)
after_is None es = ap (map line_of) (sym (all es)) where
  all : (es : List (Key × Action)) → filter (λ (e : Key × Action). true) es ≡ es
  all [] = refl
  all (e ∷ es) = ap (λ xs. e ∷ xs) (all es)
after_is (Some p) es = filter-map (λ (l : Line). is_lt (line_cmp p l.pattern)) line_of es

-- a page: the lines after a pattern
pub lines_are : (c : List ℕ) (after : Option Key) (rows : List LineRow) (found : List Line) →
    AreUniqueLines rows → IsPermutation (map (λ (r : LineRow). r.line)
    (filter (is_line_past c after) rows)) found → IsSorted by_pattern found
    → found ≡ after_pattern after (map line_of (line_rows_with c rows))
unfolding AreUniqueLines is_line_past
lines_are c after rows found u same sorted =
    in_order line_pages (is_after_pattern after) c rows u found same sorted
    ∙ sym (after_is after (line_rows_with c rows))

-- What a walk over the rows counts is what the tables have of the customer.
use Rattle.std.proofs.Common.{◌≡◌, ℕ, true, List, [], ◌∷◌, map, filter, length, sym, refl, ap, ◌∙◌}
use Rattle.std.proofs.Common.{Bool, ◌&&◌, Ordering, None}
use Rattle.std.specs.Prelude.{count_by}
use Rattle.std.specs.List.{sum_by}
use Rattle.std.specs.Ordering.{eq_by_cmp}
use Rattle.std.specs.Cmp.{IsTotalOrder, nat_cmp_total, on_total}
use Rattle.std.specs.FinMap.{entries}
use Rattle.std.proofs.lemmas.List.Sorted.{sum_by-IsPermutation, length_permutation}
use Rattle.std.proofs.lemmas.List.Sums.{length-filter}
use Rattle.sqlite_keyed.specs.Lists.{sort_by}
use Rattle.sqlite_keyed.proofs.SortLemmas.{IsPermutation-sort_by}
use Rattle.hq_owned.specs.Owned.{by_both, rows_of, text_cmp}
use Rattle.hq_owned.specs.Rows.{map_of, HasUniqueKeys}
use Rattle.hq_owned.proofs.Mapped.{same_length, same_sum}
use Rattle.hq_tables.specs.Tables.{Row}
use Rattle.hq_tables.proofs.Orders.{message_total, lines_total, line_total}
use Rattle.hq_rows.specs.declared.rows.LineRow.{LineRow}
use Rattle.hq_rows.specs.declared.rows.MessageRow.{MessageRow}
use Rattle.hq_rows.specs.Listed.{message_key, message_value, line_row_key, line_row_value}
use Rattle.hq_rows.specs.Lookups.{AreUnique, AreUniqueLines, is_past, is_line_past, rows_with}
use Rattle.hq_rows.specs.Lookups.{line_rows_with}
use Rattle.hq_rows.proofs.Pages.{Paged, sorted_found}

all : {A : Type 0} (xs : List A) → filter (λ (x : A). true) xs ≡ xs
all [] = refl
all (x ∷ xs) = ap (λ ys. x ∷ ys) (all xs)

module _ {A K X : Type 0} {R : K → K → Ordering} (total : IsTotalOrder R)
    (both : IsTotalOrder (by_both text_cmp R)) (key : A → List ℕ × K) (val : A → X) (c : List ℕ)
    (rows : List A) (u : HasUniqueKeys (by_both text_cmp R) key rows) where
  abbrev table : Paged A K X (K × X) R
  table = record {
    total = total;
    all_total = both;
    key = key;
    val = val;
    made = λ e. e;
    key_of = λ e. e.0;
    same_key = λ e. refl;
  }

  abbrev is_own : A → Bool
  is_own r = eq_by_cmp text_cmp c (key r).0 && true

  abbrev by_row : A → A → Ordering
  by_row a b = by_both text_cmp R (key a) (key b)

  abbrev found_in : A → K × X
  found_in r = ((key r).1, val r)

  abbrev own : List (K × X)
  own = rows_of text_cmp c (entries (map_of (by_both text_cmp R) key val rows))

  abbrev mine : List A
  mine = filter is_own rows

  same : map found_in (sort_by by_row mine) ≡ map (λ (e : K × X). e) own
  same = sorted_found table (λ _. true) c rows u ∙ ap (map (λ (e : K × X). e)) (all own)

  pub many_own : length own ≡ length mine
  many_own = sym (same_length (λ (e : K × X). e) own) ∙ ap length (sym same)
      ∙ same_length found_in (sort_by by_row mine)
      ∙ sym (length_permutation (sort_by by_row mine) mine
      (IsPermutation-sort_by by_row (on_total key both) mine))

  pub sum_own : (f : X → ℕ) → sum_by (λ (e : K × X). f e.1) own ≡ sum_by (λ r. f (val r)) mine
  sum_own f = sym (same_sum (λ (e : K × X). e) (λ (e : K × X). f e.1) own)
      ∙ ap (sum_by (λ (e : K × X). f e.1)) (sym same)
      ∙ same_sum found_in (λ (e : K × X). f e.1) (sort_by by_row mine)
      ∙ sym (sum_by-IsPermutation (λ r. f (val r)) (sort_by by_row mine) mine
      (IsPermutation-sort_by by_row (on_total key both) mine))

pub messages_are : (c : List ℕ) (rows : List MessageRow) → AreUnique rows →
    count_by (is_past c None) rows ≡ length (rows_with c rows)
unfolding AreUnique is_past
messages_are c rows u = sym (many_own nat_cmp_total message_total message_key message_value c rows u
    ∙ length-filter (is_past c None) rows)

pub bytes_are : (c : List ℕ) (rows : List MessageRow) → AreUnique rows →
    sum_by (λ (r : MessageRow). r.size) (filter (is_past c None) rows)
    ≡ sum_by (λ (e : ℕ × Row). e.1.size) (rows_with c rows)
unfolding AreUnique is_past
bytes_are c rows u = sym (sum_own nat_cmp_total message_total message_key message_value c rows u
    (λ (r : Row). r.size))

pub lines_are : (c : List ℕ) (rows : List LineRow) → AreUniqueLines rows →
    count_by (is_line_past c None) rows ≡ length (line_rows_with c rows)
unfolding AreUniqueLines is_line_past
lines_are c rows u = sym (many_own line_total lines_total line_row_key line_row_value c rows u
    ∙ length-filter (is_line_past c None) rows)

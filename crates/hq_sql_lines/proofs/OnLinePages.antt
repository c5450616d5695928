-- What the queries of pages of lines find.
use Rattle.std.proofs.Common.{◌≡◌, ◌&&◌, ◌||◌, ℕ, ℤ, Bool, false, List, [], ◌∷◌, map, filter, take}
use Rattle.std.proofs.Common.{Option, Some, None, refl, sym, ap, ◌∙◌, Ordering, Less, Equal}
use Rattle.std.proofs.Common.{Greater, is_eq, is_lt}
use Rattle.std.specs.List.{list_all}
use Rattle.std.specs.Ordering.{eq_by_cmp, ordering_then}
use Rattle.std.proofs.lemmas.List.{take-map}
use Rattle.sqlite.specs.Order.{Row}
use Rattle.sqlite.specs.Term.{holds}
use Rattle.sqlite.specs.State.{State, Shown}
use Rattle.sqlite_sql.specs.declared.ops.CompareOp.TheVariants.{Gt}
use Rattle.sqlite_value.proofs.OrderLemmas.{value_cmp-Text}
use Rattle.sqlite_typed.proofs.TestLemmas.{at_texts, at_or, at_and, then_term, last_term, then_key}
use Rattle.sqlite_typed.proofs.TestLemmas.{last_key}
use Rattle.sqlite_keyed.specs.Lists.{sort_by}
use Rattle.sqlite_keyed.proofs.ListLemmas.{map-map}
use Rattle.hq_keyed.proofs.Terms.{text_is}
use Rattle.hq_kept.specs.Patterns.{class_name}
use Rattle.hq_kept.specs.declared.pattern.Class.{Class}
use Rattle.hq_kept.specs.declared.pattern.Line.{Line}
use Rattle.hq_rows.specs.declared.rows.LineRow.{LineRow}
use Rattle.hq_tables.specs.Tables.{text_cmp, class_cmp, lines_cmp}
use Rattle.hq_rows.specs.Listed.{line_row_key}
use Rattle.hq_rows.specs.Lookups.{is_after_pattern, AreUniqueLines, line_rows_with}
use Rattle.hq_tables.specs.Readings.{read_tables, after_pattern}
use Rattle.hq_rows.proofs.LinePages.{line_pages, after_is}
use Rattle.hq_rows.proofs.Pages.{sorted_found}
use Rattle.hq_sql.specs.Rows.{line_stored, line_read, line_shown}
use Rattle.hq_sql.specs.Tables.{IsDesk, tables_in}
use Rattle.hq_sql_lines.specs.LinePages.{page_lines, first_columns, after_columns}
use Rattle.hq_sql.proofs.Texts.{at}
use Rattle.hq_sql.proofs.Statements.{pages}
use Rattle.hq_sql_lines.proofs.OnLines.{lines_table}
use Rattle.hq_sql_lines.proofs.Texts as text

abbrev Key : Type 0
Key = Class × List ℕ

abbrev by_row : LineRow → LineRow → Ordering
by_row a b = lines_cmp (line_row_key a) (line_row_key b)

-- a line of the customer after a pattern, or any of its lines
abbrev on_page : List ℕ → Option Key → LineRow → Bool
on_page c after r = eq_by_cmp text_cmp c r.customer && is_after_pattern after r.line.pattern

-- the first so many rows of a page are the first so many lines
rows_are : (c : List ℕ) (after : Option Key) (limit : ℕ) (rows kept : List Row) →
    AreUniqueLines (map line_read kept) → map line_shown rows ≡ take limit
    (sort_by by_row (filter (on_page c after) (map line_read kept)))
    → page_lines rows ≡ take limit (after_pattern after (map
    (λ e. record { pattern = e.0; action = e.1 }) (line_rows_with c (map line_read kept))))
unfolding AreUniqueLines
rows_are c after limit rows kept u shown =
    let line : LineRow → Line = λ r. r.line in
    sym (map-map line line_shown rows) ∙ ap (map line) shown
    ∙ sym (take-map line limit (sort_by by_row (filter (on_page c after) (map line_read kept))))
    ∙ ap (take limit) (sorted_found line_pages (is_after_pattern after) c (map line_read kept) u
    ∙ sym (after_is after (line_rows_with c (map line_read kept))))

-- the test of class and pattern is that of their order
after_both : (o q : Ordering) → (is_lt o || (is_eq o && is_lt q)) ≡ is_lt (ordering_then o q)
after_both Less q = refl
after_both Equal q = refl
after_both Greater q = refl

after_tests : (c : List ℕ) (last : Key) (limit : ℕ) (k : ℤ × LineRow) →
    list_all (holds (after_columns c last limit ∷ line_stored k ∷ [])) text.after_terms ≡ on_page c
    (Some last) k.1
after_tests c last limit k =
    let class = class_name k.1.line.pattern.0 in
    let pattern = k.1.line.pattern.1 in
    then_term (text_is k.1.customer c) (last_term (at_or false _ _
    (at_texts false Gt class (class_name last.0))
    (at_and false _ _ (text_is class (class_name last.0)) (at_texts false Gt pattern last.1))
    ∙ after_both (class_cmp last.0 k.1.line.pattern.0) (text_cmp last.1 pattern)))

-- any line of the customer
first_tests : (c : List ℕ) (limit : ℕ) (k : ℤ × LineRow) →
    list_all (holds (first_columns c limit ∷ line_stored k ∷ [])) (at 1 0 ∷ []) ≡ on_page c None k.1
first_tests c limit k = then_term (text_is k.1.customer c) refl

-- the customer's first lines
pub first_shown : (old new : State) (c : List ℕ) (limit : ℕ) (rows : List Row) → IsDesk old.now →
    Shown text.lines_from_start_text (first_columns c limit) old new rows
    → page_lines rows ≡ take limit (read_tables c (tables_in old.now)).lines
unfolding AreUniqueLines
first_shown old new c limit rows desk h =
    rows_are c None limit rows (old.now.trees 8) desk.lines.unique
    (pages lines_table old new desk text.lines_from_start_text _ _ text.lines_from_start_known refl
    refl refl (first_columns c limit) line_shown (λ k. refl) (on_page c None)
    (first_tests c limit)
    (λ j k. then_key (value_cmp-Text j.1.customer k.1.customer)
    (then_key (value_cmp-Text (class_name j.1.line.pattern.0) (class_name k.1.line.pattern.0))
    (last_key (value_cmp-Text j.1.line.pattern.1 k.1.line.pattern.1)))) limit (λ xs. refl) rows
    h)

-- the customer's first lines after a pattern
pub after_shown : (old new : State) (c : List ℕ) (last : Key) (limit : ℕ) (rows : List Row) →
    IsDesk old.now → Shown text.lines_after_text (after_columns c last limit) old new rows
    → page_lines rows ≡ take limit
    (after_pattern (Some last) (read_tables c (tables_in old.now)).lines)
unfolding AreUniqueLines
after_shown old new c last limit rows desk h =
    rows_are c (Some last) limit rows (old.now.trees 8) desk.lines.unique
    (pages lines_table old new desk text.lines_after_text _ _ text.lines_after_known refl refl refl
    (after_columns c last limit) line_shown (λ k. refl) (on_page c (Some last))
    (after_tests c last limit)
    (λ j k. then_key (value_cmp-Text j.1.customer k.1.customer)
    (then_key (value_cmp-Text (class_name j.1.line.pattern.0) (class_name k.1.line.pattern.0))
    (last_key (value_cmp-Text j.1.line.pattern.1 k.1.line.pattern.1)))) limit (λ xs. refl) rows
    h)

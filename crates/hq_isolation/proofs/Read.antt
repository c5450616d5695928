-- What is read of a customer in the tables of all is what is read of its own state.
use Rattle.std.proofs.Common.{◌≡◌, ℕ, suc, ◌+◌, List, [], ◌∷◌, map, length, sym, refl, ap, ◌∙◌}
use Rattle.std.proofs.Common.{None, arith}
use Rattle.std.specs.Prelude.{option_map}
use Rattle.std.specs.List.{sum_by}
use Rattle.std.specs.Ordering.{nat_cmp}
use Rattle.std.specs.Cmp.Lexicographic.{nat_list_cmp_total}
use Rattle.std.specs.FinMap.{entries, values, find, get-entries}
use Rattle.std.proofs.lemmas.Map.Lookups.{exact_unsigned, exact_bytes}
use Rattle.std.proofs.lemmas.List.Sums.{sum_by-cons}
use Rattle.hq_kept.specs.declared.action.Action.{Action}
use Rattle.hq_kept.specs.declared.pattern.Class.{Class}
use Rattle.hq_kept.specs.declared.message.Message.{Message}
use Rattle.hq_owned.proofs.Mapped.{same_length, same_sum}
use Rattle.hq_owned.specs.Owned.{part_of, rows_of}
use Rattle.std.specs.Cmp.{nat_cmp_total}
use Rattle.hq_owned.proofs.Parts.{entries_part, get-map_values, entries-map_values}
use Rattle.hq_tables.proofs.Customers.{read_own, rows_own}
use Rattle.hq_tables.proofs.Orders.{line_total, line_exact, newest_total, newest_exact}
use Rattle.hq_tables.specs.Tables.{Tables, Row, Noted, text_cmp, line_cmp, own, joined, notice_of}
use Rattle.hq_tables.specs.Tables.{end_of}
use Rattle.hq_tables.specs.Readings.{read_state, read_tables, messages_in, with_spool, kept_of}
use Rattle.hq_tables.specs.Readings.{kept_in, counts_told, line_of}

seconds : {K X Y : Type 0} (f : K → X → Y) (es : List (K × X)) →
    map (λ (e : K × Y). e.1) (map (λ (e : K × X). (e.0, f e.0 e.1)) es) ≡ map (λ e. f e.0 e.1) es
seconds f [] = refl
seconds f (e ∷ es) = ap (λ ys. f e.0 e.1 ∷ ys) (seconds f es)

-- the messages of the customer's state are its rows with their recipients
pub same_messages : (customer : List ℕ) (t : Tables) →
    messages_in customer t ≡ values (own customer t).messages
same_messages customer t =
    let rows = part_of text_cmp customer t.messages in
    let whole = joined customer t.recipients t.holds in
    sym (ap (map (λ e. e.1)) (entries-map_values nat_cmp whole rows) ∙ seconds whole (entries rows)
    ∙ ap (map (λ e. whole e.0 e.1))
    (entries_part nat_cmp nat_list_cmp_total customer t.messages))

pub same_kept : (customer : List ℕ) (t : Tables) →
    kept_in customer t ≡ kept_of (λ (m : Message). m.size) (values (own customer t).messages)
    (entries (own customer t).lines)
same_kept customer t =
    let whole : ℕ × Row → Message = λ e. joined customer t.recipients t.holds e.0 e.1 in
    let rows = rows_of text_cmp customer (entries t.messages) in
    (λ i. record {
      messages = sym (same_length whole rows) i;
      bytes = sym (same_sum whole (λ (m : Message). m.size) rows) i;
      lines = length (sym (rows_own line_total line_exact customer t.lines) i);
    })
    ∙ ap (λ ms. kept_of (λ (m : Message). m.size) ms (entries (own customer t).lines))
    (same_messages customer t)

pub same_readings : (customer : List ℕ) (t : Tables) →
    read_tables customer t ≡ read_state (own customer t)
same_readings customer t =
    let rows = part_of text_cmp customer t.messages in
    let whole = joined customer t.recipients t.holds in
    let messages = same_messages customer t in
    λ i. record {
      head = (own customer t).head;
      counts = counts_told (same_kept customer t i);
      message = λ serial. sym (get-map_values nat_cmp whole exact_unsigned rows serial
          ∙ ap (option_map (whole serial))
          (read_own nat_cmp_total exact_unsigned customer t.messages serial)) i;
      by_spool = λ spool. with_spool spool (messages i);
      messages = messages i;
      line = λ class key. sym (read_own line_total line_exact customer t.lines (class, key)) i;
      lines = map line_of (sym (rows_own line_total line_exact customer t.lines) i);
      mark = λ label. sym (read_own nat_list_cmp_total exact_bytes customer t.marks label) i;
      notice = λ number. option_map (λ (n : Noted). notice_of (number, n))
          (sym (read_own nat_cmp_total exact_unsigned customer t.notices number) i);
      notices = map notice_of (sym (rows_own nat_cmp_total exact_unsigned customer t.notices) i);
      ends = map end_of (sym (rows_own newest_total newest_exact customer t.ends) i);
    }

-- a customer that keeps no line has none at any key
pub no_line : (customer : List ℕ) (t : Tables) (class : Class) (key : List ℕ) →
    (read_tables customer t).counts.lines ≡ 0 → (read_tables customer t).line class key ≡ None
no_line customer t class key none =
    sym (read_own line_total line_exact customer t.lines (class, key))
    ∙ get-entries (part_of text_cmp customer t.lines) (class, key)
    ∙ nothing (entries (part_of text_cmp customer t.lines))
    (ap length (rows_own line_total line_exact customer t.lines) ∙ none) where
      nothing : (es : List ((Class × List ℕ) × Action)) → length es ≡ 0 →
          find line_cmp (class, key) es ≡ None
      nothing [] h = refl
      nothing (e ∷ es) h = absurd (omega arith)

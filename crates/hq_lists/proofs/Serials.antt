-- Serials in order, and the messages at them, are the customer's part of the table.
use Rattle.std.proofs.Common.{◌≡◌, ℕ, zero, suc, Bool, true, false, cond, ◌&&◌, T, List, [], ◌∷◌}
use Rattle.std.proofs.Common.{map, filter, take, sym, refl, ap, ◌∙◌, subst, Option, Some, None}
use Rattle.std.proofs.Common.{Ordering, Less, is_eq, IsPermutation, IsSorted}
use Rattle.std.specs.Prelude.{option_map, nat_lt, slice_get}
use Rattle.std.specs.List as list
use Rattle.std.specs.List.{AllByRecursion, filter_map, cons_option}
use Rattle.std.specs.Ordering.{nat_cmp, eq_by_cmp, ordering_reverse}
use Rattle.std.specs.Cmp.{IsTotalOrder, nat_cmp_total, on_total, tied_itself}
use Rattle.std.specs.Cmp.Lexicographic.{nat_list_cmp_total}
use Rattle.std.proofs.lemmas.List.{take-map}
use Rattle.std.proofs.lemmas.List.Sorted.{IsPermutation-map, IsPermutation-trans}
use Rattle.std.specs.FinMap.{entries, entries_sorted, get, find, is_sorted, get-entries}
use Rattle.sqlite_keyed.specs.Lists.{sort_by}
use Rattle.sqlite_keyed.proofs.ListLemmas.{map-map, filter-map, all_weaker, all_both, all-filter}
use Rattle.sqlite_keyed.proofs.ListLemmas.{ascending-filter, ascending-map}
use Rattle.sqlite_keyed.proofs.SortLemmas.{sorted_unique, IsPermutation-sort_by}
use Rattle.hq_kept.specs.declared.message.Message.{Message}
use Rattle.hq_owned.specs.Owned.{part_of, given}
use Rattle.hq_tables.specs.Tables.{text_cmp, message_cmp, Row, message_of, reason_of, pending_of}
use Rattle.hq_tables.specs.Readings.{after_serial, with_spool}
use Rattle.hq_owned.proofs.Parts.{rows_sorted, get_part, entries_part}
use Rattle.hq_owned.proofs.Pages.{sorted_rows}
use Rattle.hq_owned.proofs.OwnedPages.{owned}
use Rattle.hq_rows.specs.declared.rows.HoldRow.{HoldRow}
use Rattle.hq_rows.specs.declared.rows.MessageRow.{MessageRow}
use Rattle.hq_rows.specs.declared.rows.RecipientRow.{RecipientRow}
use Rattle.hq_rows.specs.Listed.{message_key, message_value, messages_of, recipients_of, holds_of}
use Rattle.hq_rows.specs.Lookups.{AreUnique, is_after, is_past, has_spool, serials_where}
use Rattle.hq_rows.specs.Lookups.{serials_after, serials_with_spool, rows_with, message_at}
use Rattle.hq_tables.proofs.Orders.{message_total, ascending, below}
use Rattle.hq_owned.proofs.Cases.{first, second}

module _ {K X : Type 0} (R : K → K → Ordering) where
  module _ (o : IsTotalOrder R) where
    later : (e x : K × X) (es : List (K × X)) → R e.0 x.0 ≡ Less → find R x.0 es ≡ Some x.1 →
        find R x.0 (e ∷ es) ≡ Some x.1
    later e x es p h = ap (λ r. cond (is_eq r) (Some e.1) (find R x.0 es)) (o.antisymm x.0 e.0
        ∙ ap ordering_reverse p) ∙ h

    -- each entry is found at its key
    found_all : (es : List (K × X)) → T (is_sorted R es) →
        AllByRecursion (λ e. find R e.0 es ≡ Some e.1) es
    found_all [] h = tt
    found_all (e ∷ es) h = (
      ap (λ r. cond (is_eq r) (Some e.1) (find R e.0 es)) (tied_itself o e.0),
      all_both (λ x. R e.0 x.0 ≡ Less) (λ x. find R x.0 es ≡ Some x.1)
          (λ x. find R x.0 (e ∷ es) ≡ Some x.1) (λ x p q. later e x es p q) es
          (below R e.0 es (first _ _ h)) (found_all es (second _ _ h)),
    )

all_take : {A : Type 0} (P : A → Type 0) (n : ℕ) (xs : List A) → AllByRecursion P xs →
    AllByRecursion P (take n xs)
all_take P zero xs h = tt
all_take P (suc n) [] h = tt
all_take P (suc n) (x ∷ xs) h = (h.0, all_take P n xs h.1)

-- a look-up of each key gives each value
looked_up : {K X Y : Type 0} (f : K → Option X) (j : K → X → Y) (es : List (K × X)) →
    AllByRecursion (λ e. f e.0 ≡ Some e.1) es →
    filter_map (λ k. option_map (j k) (f k)) (map (λ e. e.0) es) ≡ map (λ e. j e.0 e.1) es
looked_up f j [] h = refl
looked_up f j (e ∷ es) h = ap (λ o. cons_option (option_map (j e.0) o)
    (filter_map (λ k. option_map (j k) (f k)) (map (λ e. e.0) es))) h.0
    ∙ ap (λ ys. j e.0 e.1 ∷ ys) (looked_up f j es h.1)

in_order : (c : List ℕ) (rows : List MessageRow) → T (is_sorted nat_cmp (rows_with c rows))
in_order c rows = rows_sorted nat_cmp nat_list_cmp_total c (entries (messages_of rows))
    (entries_sorted (messages_of rows))

abbrev pub by_key : MessageRow → MessageRow → Ordering
by_key a b = message_cmp (message_key a) (message_key b)

-- the customer's rows that pass a test
abbrev pub test : List ℕ → (ℕ × Row → Bool) → (List ℕ × ℕ) × Row → Bool
test c p e = eq_by_cmp text_cmp c e.0.0 && p (e.0.1, e.1)

abbrev passes : List ℕ → (ℕ × Row → Bool) → MessageRow → Bool
passes c p r = test c p (message_key r, message_value r)

-- their serials, sorted, are those of the part of the table
module _ (c : List ℕ) (p : ℕ × Row → Bool) (rows : List MessageRow) (u : AreUnique rows) where
  sorted_found : map (λ (r : MessageRow). r.serial) (sort_by by_key (filter (passes c p) rows)) ≡
      map (λ (e : ℕ × Row). e.0) (filter p (rows_with c rows))
  unfolding AreUnique
  sorted_found =
      sym (map-map (λ (e : (List ℕ × ℕ) × Row). e.0.1)
      (λ (r : MessageRow). (message_key r, message_value r))
      (sort_by by_key (filter (passes c p) rows)))
      ∙ ap (map (λ (e : (List ℕ × ℕ) × Row). e.0.1))
      (sorted_rows message_total message_key message_value (test c p) rows u)
      ∙ sym (map-map (λ (e : ℕ × Row). e.0) (λ (e : (List ℕ × ℕ) × Row). (e.0.1, e.1))
      (filter (test c p) (entries (messages_of rows))))
      ∙ ap (map (λ (e : ℕ × Row). e.0)) (owned text_cmp p c (entries (messages_of rows)))

  serials_found : (found : List ℕ) →
      IsPermutation (map (λ (r : MessageRow). r.serial) (filter (passes c p) rows)) found →
      IsSorted nat_cmp found → found ≡ map (λ (e : ℕ × Row). e.0) (filter p (rows_with c rows))
  serials_found found same sorted =
      let es = rows_with c rows in
      let up = ascending-map (λ a b. nat_cmp a b ≡ Less) (λ (e : ℕ × Row). e.0) _
      (ascending-filter (λ (a b : ℕ × Row). nat_cmp a.0 b.0 ≡ Less) p es
      (ascending nat_cmp es (in_order c rows))) in
      let perm = IsPermutation-map (λ (r : MessageRow). r.serial) _ _
      (IsPermutation-sort_by by_key (on_total message_key message_total)
      (filter (passes c p) rows)) in
      sorted_unique nat_cmp nat_cmp_total (map (λ (e : ℕ × Row). e.0) (filter p es)) found up
      (subst (λ xs. IsPermutation xs found) sorted_found (IsPermutation-trans _ _ _ perm same))
      sorted

-- the serials after a serial, in order
pub serials_are : (c : List ℕ) (after : Option ℕ) (rows : List MessageRow) (found : List ℕ) →
    AreUnique rows → IsPermutation (serials_where (is_past c after) rows) found →
    IsSorted nat_cmp found → found ≡ serials_after after (rows_with c rows)
unfolding is_past
serials_are c after rows found u same sorted = serials_found c (λ (e : ℕ × Row). is_after after e.0)
    rows u found same sorted

-- the serials with a spool name, in order
pub spools_are : (c spool : List ℕ) (rows : List MessageRow) (found : List ℕ) → AreUnique rows →
    IsPermutation (serials_where (has_spool c spool) rows) found → IsSorted nat_cmp found →
    found ≡ serials_with_spool spool (rows_with c rows)
unfolding has_spool
spools_are c spool rows found u same sorted =
    serials_found c (λ (e : ℕ × Row). eq_by_cmp text_cmp spool e.1.spool) rows u found same sorted

found_at : (c : List ℕ) (rows : List MessageRow) →
    AllByRecursion (λ (e : ℕ × Row). get (messages_of rows) (c, e.0) ≡ Some e.1) (rows_with c rows)
found_at c rows =
    all_weaker _ (λ (e : ℕ × Row). get (messages_of rows) (c, e.0) ≡ Some e.1) (λ e h.
    sym (get_part nat_cmp nat_list_cmp_total c (messages_of rows) e.0)
    ∙ get-entries (part_of text_cmp c (messages_of rows)) e.0
    ∙ ap (find nat_cmp e.0) (entries_part nat_cmp nat_list_cmp_total c (messages_of rows)) ∙ h)
    (rows_with c rows) (found_all nat_cmp nat_cmp_total (rows_with c rows) (in_order c rows))

after_is : (after : Option ℕ) (j : ℕ × Row → Message) (same : (e : ℕ × Row) → (j e).serial ≡ e.0)
    (es : List (ℕ × Row)) → after_serial after (map j es) ≡ map j
    (filter (λ (e : ℕ × Row). is_after after e.0) es)
after_is None j same es = ap (map j) (sym (all es)) where
  all : (es : List (ℕ × Row)) → filter (λ (e : ℕ × Row). true) es ≡ es
  all [] = refl
  all (e ∷ es) = ap (λ xs. e ∷ xs) (all es)
after_is (Some n) j same es = filter-map (λ (m : Message). nat_lt n m.serial) j es
    ∙ ap (map j) (λ i. filter (λ (e : ℕ × Row). nat_lt n (same e i)) es)

-- a page: the messages at the first serials after a serial
pub page_is : (c : List ℕ) (after : Option ℕ) (limit : ℕ) (messages : List MessageRow)
    (recipients : List RecipientRow) (holds : List HoldRow)
    → filter_map (message_at c messages recipients holds)
    (take limit (serials_after after (rows_with c messages)))
    ≡ take limit (after_serial after (map (λ e. message_of e.0 e.1
    (reason_of c e.0 (holds_of holds)) (pending_of c e.0 (recipients_of recipients)))
    (rows_with c messages)))
page_is c after limit messages recipients holds =
    let j : ℕ → Row → Message =
    λ serial r. message_of serial r (reason_of c serial (holds_of holds))
    (pending_of c serial (recipients_of recipients)) in
    let es = rows_with c messages in
    let left = filter (λ (e : ℕ × Row). is_after after e.0) es in
    ap (filter_map (message_at c messages recipients holds)) (take-map (λ (e : ℕ × Row). e.0) limit
    left)
    ∙ looked_up (λ k. get (messages_of messages) (c, k)) j (take limit left)
    (all_take _ limit left (all-filter _ (λ (e : ℕ × Row). is_after after e.0) es
    (found_at c messages)))
    ∙ sym (take-map (λ (e : ℕ × Row). j e.0 e.1) limit left)
    ∙ ap (take limit) (sym (after_is after (λ e. j e.0 e.1) (λ e. refl) es))

-- and the messages at all of them
pub all_is : (c : List ℕ) (after : Option ℕ) (messages : List MessageRow)
    (recipients : List RecipientRow) (holds : List HoldRow)
    → filter_map (message_at c messages recipients holds)
    (serials_after after (rows_with c messages))
    ≡ after_serial after (map (λ e. message_of e.0 e.1
    (reason_of c e.0 (holds_of holds)) (pending_of c e.0 (recipients_of recipients)))
    (rows_with c messages))
all_is c after messages recipients holds =
    let j : ℕ → Row → Message =
    λ serial r. message_of serial r (reason_of c serial (holds_of holds))
    (pending_of c serial (recipients_of recipients)) in
    let es = rows_with c messages in
    let left = filter (λ (e : ℕ × Row). is_after after e.0) es in
    looked_up (λ k. get (messages_of messages) (c, k)) j left
    (all-filter _ (λ (e : ℕ × Row). is_after after e.0) es (found_at c messages))
    ∙ sym (after_is after (λ e. j e.0 e.1) (λ e. refl) es)

-- ---- the first with a spool name

abbrev first_entry : {E : Type 0} → List E → Option E
first_entry [] = None
first_entry (e ∷ es) = Some e

first_match : {E M : Type 0} (p : E → Bool) (q : M → Bool) (j : E → M) → ((e : E) → q (j e) ≡ p e) →
    (es : List E) → list.find q (map j es) ≡ option_map j (first_entry (filter p es))
first_match p q j same [] = refl
first_match p q j same (e ∷ es) =
    ap (λ b. cond b (Some (j e)) (list.find q (map j es))) (same e)
    ∙ elim (p e) as (λ b. cond b (Some (j e)) (list.find q (map j es)) ≡ option_map j
    (first_entry (cond b (e ∷ filter p es) (filter p es)))) [
      | true ↦ refl
      | false ↦ first_match p q j same es
    ]

-- the message at the first serial with a spool name
pub spool_is : (c spool : List ℕ) (messages : List MessageRow) (recipients : List RecipientRow)
    (holds : List HoldRow)
    → given None (message_at c messages recipients holds)
    (slice_get (serials_with_spool spool (rows_with c messages)) 0)
    ≡ with_spool spool (map (λ e. message_of e.0 e.1 (reason_of c e.0 (holds_of holds))
    (pending_of c e.0 (recipients_of recipients))) (rows_with c messages))
spool_is c spool messages recipients holds =
    let j : ℕ × Row → Message =
    λ e. message_of e.0 e.1 (reason_of c e.0 (holds_of holds))
    (pending_of c e.0 (recipients_of recipients)) in
    let p : ℕ × Row → Bool = λ e. eq_by_cmp text_cmp spool e.1.spool in
    let es = rows_with c messages in
    at_first (filter p es) (all-filter _ p es (found_at c messages))
    ∙ sym (first_match p (λ (m : Message). eq_by_cmp text_cmp spool m.spool) j (λ e. refl) es) where
      at_first : (es : List (ℕ × Row)) →
          AllByRecursion (λ (e : ℕ × Row). get (messages_of messages) (c, e.0) ≡ Some e.1) es
          → given None (message_at c messages recipients holds)
          (slice_get (map (λ (e : ℕ × Row). e.0) es) 0) ≡ option_map
          (λ (e : ℕ × Row). message_of e.0 e.1 (reason_of c e.0 (holds_of holds))
          (pending_of c e.0 (recipients_of recipients))) (first_entry es)
      at_first [] h = refl
      at_first (e ∷ es) h = ap (option_map (λ r. message_of e.0 r (reason_of c e.0 (holds_of holds))
          (pending_of c e.0 (recipients_of recipients)))) h.0

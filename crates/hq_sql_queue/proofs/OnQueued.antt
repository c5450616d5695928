-- Whole messages: rows with their recipients, and reads one after another.
use Rattle.std.proofs.Common.{◌≡◌, ℕ, ◌-◌, ◌<◌, Bool, true, false, cond, ◌&&◌, List, [], ◌∷◌}
use Rattle.std.proofs.Common.{map, filter, take}
use Rattle.std.proofs.Common.{length, slice_get, option_map, Option, Some, None, Result, Ok, IfOk}
use Rattle.std.proofs.Common.{refl, sym, ap, ◌∙◌, subst, arith, nat_cmp, Less}
use Rattle.std.specs.Ordering.{eq_by_cmp}
use Rattle.std.specs.Cmp.{ranked}
use Rattle.std.specs.Cmp.Lexicographic.{nat_list_cmp_total}
use Rattle.std.specs.FinMap.{entries, entries_sorted}
use Rattle.std.specs.Prelude.{nat_lt}
use Rattle.std.proofs.lemmas.List.{take-map}
use Rattle.std.proofs.lemmas.Option.{slice_get-map}
use Rattle.sqlite.specs.declared.error.Error.{Error}
use Rattle.sqlite.specs.Order as sqlite
use Rattle.sqlite.specs.State.{State, HasCleanDisk, IsUnchanged}
use Rattle.sqlite_keyed.proofs.ListLemmas.{map-map, map_same, filter-map, slice_get-filter}
use Rattle.sqlite_keyed.proofs.ListLemmas.{first_taken, ascending-map, ascending-filter}
use Rattle.sqlite_keyed.proofs.ListLemmas.{ascending_weaker}
use Rattle.hq_keyed.proofs.Left.{clean_before}
use Rattle.hq_keyed.proofs.Select.{find-map}
use Rattle.hq_kept.specs.Messages.{is_due}
use Rattle.hq_kept.specs.declared.message.Message.{Message}
use Rattle.hq_owned.specs.Owned.{rows_of}
use Rattle.hq_owned.proofs.OwnedPages.{owned}
use Rattle.hq_owned.proofs.Parts.{rows_sorted}
use Rattle.hq_rows.specs.declared.rows.MessageRow.{MessageRow}
use Rattle.hq_tables.specs.Tables.{Tables, Row, text_cmp, joined, reason_of}
use Rattle.hq_tables.proofs.Orders.{ascending}
use Rattle.hq_rows.specs.Listed.{message_key, message_value}
use Rattle.hq_rows.specs.Lookups.{is_after}
use Rattle.hq_tables.specs.Readings.{read_tables, page_of, after_serial}
use Rattle.hq_sql.specs.Kept.{Intact}
use Rattle.hq_sql.specs.Rows.{message_shown}
use Rattle.hq_sql.specs.Tables.{IsDesk, tables_in}
use Rattle.hq_sql_messages.specs.Messages.{is_on_page, is_on_due_page, row_is_due}
use Rattle.hq_sql_messages.specs.Messages.{has_spool_name, bare_entry}
use Rattle.hq_sql_queue.specs.Queued.{whole}
use Rattle.hq_sql_queue.specs.Dealt.{serials_of, Rise, Spans}
use Rattle.hq_sql_queue.specs.Parts.{with_dealt, with_parts}
use Rattle.hq_sql_queue.proofs.Lists.{ascending_taken}
use Rattle.hq_sql_queue.proofs.Parts.{serials_long}
use Rattle.hq_sql_messages.proofs.OnMessages.{pairs}

-- ---- messages of rows

abbrev Entry : Type 0
Entry = (List ℕ × ℕ) × Row

abbrev whole_entry : List ℕ → Tables → Entry → Message
whole_entry c t e = joined c t.recipients t.holds e.0.1 e.1

abbrev whole_own : List ℕ → Tables → ℕ × Row → Message
whole_own c t e = joined c t.recipients t.holds e.0 e.1

abbrev own : Entry → ℕ × Row
own e = (e.0.1, e.1)

wholes : (c : List ℕ) (t : Tables) (rows : List sqlite.Row) →
    map (whole c t) rows ≡ map (whole_entry c t) (pairs rows)
wholes c t rows =
    sym (map-map (whole_entry c t)
    (λ r. (message_key (message_shown r), message_value (message_shown r))) rows)
    ∙ ap (map (whole_entry c t)) (sym
    (map-map (λ (r : MessageRow). (message_key r, message_value r)) message_shown rows))

after_is : (c : List ℕ) (t : Tables) (after : Option ℕ) (es : List (ℕ × Row)) →
    after_serial after (map (whole_own c t) es) ≡ map (whole_own c t)
    (filter (λ (e : ℕ × Row). is_after after e.0) es)
after_is c t None es = ap (map (whole_own c t)) (sym (all es)) where
  all : (es : List (ℕ × Row)) → filter (λ (e : ℕ × Row). true) es ≡ es
  all [] = refl
  all (e ∷ es) = ap (λ xs. e ∷ xs) (all es)
after_is c t (Some n) es = filter-map (λ (m : Message). nat_lt n m.serial) (whole_own c t) es

-- what an entry has with both is its message
parts_joined : (c : List ℕ) (t : Tables) (e : Entry) →
    with_parts c t (bare_entry e) ≡ whole_entry c t e
unfolding reason_of
parts_joined c t e = refl

-- the entries of the customer that pass a test
abbrev passing : List ℕ → (ℕ × Row → Bool) → Tables → List Entry
passing c test t = filter (λ (e : Entry). eq_by_cmp text_cmp c e.0.0 && test (own e))
    (entries t.messages)

-- the first so many of them, with their recipients
first_whole : (c : List ℕ) (t : Tables) (test : ℕ × Row → Bool) (limit : ℕ) →
    map (with_parts c t) (map bare_entry (take limit (passing c test t))) ≡ take limit
    (map (whole_own c t) (filter test (rows_of text_cmp c (entries t.messages))))
first_whole c t test limit =
    map-map (with_parts c t) bare_entry (take limit (passing c test t))
    ∙ map_same (λ e. with_parts c t (bare_entry e)) (whole_entry c t) (parts_joined c t)
    (take limit (passing c test t))
    ∙ sym (take-map (whole_entry c t) limit (passing c test t))
    ∙ ap (take limit) (sym (map-map (whole_own c t) own (passing c test t))
    ∙ ap (map (whole_own c t)) (owned text_cmp test c (entries t.messages)))

-- the entries of a page, with their recipients
pub page_whole : (c : List ℕ) (t : Tables) (after : Option ℕ) (limit : ℕ) →
    map (with_parts c t) (map bare_entry
    (take limit (filter (is_on_page c after) (entries t.messages)))) ≡ page_of after limit
    (read_tables c t).messages
page_whole c t after limit =
    first_whole c t (λ (e : ℕ × Row). is_after after e.0) limit
    ∙ ap (take limit) (sym (after_is c t after (rows_of text_cmp c (entries t.messages))))

filter_both : {X : Type 0} (p q : X → Bool) (xs : List X) →
    filter (λ x. p x && q x) xs ≡ filter q (filter p xs)
filter_both p q [] = refl
filter_both p q (x ∷ xs) = elim (p x) as (λ b. cond (b && q x) (x ∷ filter (λ x. p x && q x) xs)
    (filter (λ x. p x && q x) xs) ≡ filter q (cond b (x ∷ filter p xs) (filter p xs))) [
      | true ↦ elim (q x) as (λ b. cond b (x ∷ filter (λ x. p x && q x) xs)
          (filter (λ x. p x && q x) xs) ≡ cond b (x ∷ filter q (filter p xs))
          (filter q (filter p xs))) [
            | true ↦ ap (λ ys. x ∷ ys) (filter_both p q xs)
            | false ↦ filter_both p q xs
          ]
      | false ↦ filter_both p q xs
    ]

-- and of a page of those that may be tried
pub due_whole : (c : List ℕ) (t : Tables) (at : ℕ) (after : Option ℕ) (limit : ℕ) →
    map (with_parts c t) (map bare_entry
    (take limit (filter (is_on_due_page c at after) (entries t.messages)))) ≡ take limit
    (filter (is_due at) (after_serial after (read_tables c t).messages))
due_whole c t at after limit =
    let mine = rows_of text_cmp c (entries t.messages) in
    first_whole c t (λ (e : ℕ × Row). is_after after e.0 && row_is_due at e.1) limit
    ∙ ap (take limit) (ap (map (whole_own c t)) (filter_both
    (λ (e : ℕ × Row). is_after after e.0) (λ (e : ℕ × Row). row_is_due at e.1) mine)
    ∙ sym (filter-map (is_due at) (whole_own c t)
    (filter (λ (e : ℕ × Row). is_after after e.0) mine))
    ∙ ap (filter (is_due at)) (sym (after_is c t after mine)))

-- serials of the first so many rise
first_rise : (c : List ℕ) (test : ℕ × Row → Bool) (limit : ℕ) (t : Tables) →
    Rise (serials_of (map bare_entry (take limit (passing c test t))))
first_rise c test limit t =
    let kept = passing c test t in
    let serial : ℕ × Row → ℕ = λ e. e.0 in
    let mine = rows_of text_cmp c (entries t.messages) in
    let R : ℕ × Row → ℕ × Row → Type 0 = λ a b. nat_cmp a.0 b.0 ≡ Less in
    let S : ℕ × Row → ℕ × Row → Type 0 = λ a b. a.0 < b.0 in
    let sorted = ascending_weaker R S (λ a b e. ranked a.0 b.0 Less (sym e)) (filter test mine)
    (ascending-filter R test mine
    (ascending nat_cmp mine (rows_sorted nat_cmp nat_list_cmp_total c (entries t.messages)
    (entries_sorted t.messages)))) in
    let serials : serials_of (map bare_entry (take limit kept)) ≡ take limit
    (map serial (filter test mine)) =
    map-map (λ (m : Message). m.serial) bare_entry (take limit kept)
    ∙ sym (take-map (λ (e : Entry). e.0.1) limit kept)
    ∙ ap (take limit) (sym (map-map serial own kept)
    ∙ ap (map serial) (owned text_cmp test c (entries t.messages))) in
    subst Rise (sym serials) (ascending_taken (λ a b. a < b) limit (map serial (filter test mine))
    (ascending-map (λ a b. a < b) serial (filter test mine) sorted))

pub page_rises : (c : List ℕ) (after : Option ℕ) (limit : ℕ) (t : Tables) →
    Rise (serials_of (map bare_entry (take limit
    (filter (is_on_page c after) (entries t.messages)))))
page_rises c after = first_rise c (λ (e : ℕ × Row). is_after after e.0)

pub due_rises : (c : List ℕ) (at : ℕ) (after : Option ℕ) (limit : ℕ) (t : Tables) →
    Rise (serials_of (map bare_entry (take limit
    (filter (is_on_due_page c at after) (entries t.messages)))))
due_rises c at after = first_rise c (λ (e : ℕ × Row). is_after after e.0 && row_is_due at e.1)

pub none_dealt : (f : Message → Message) (page : List Message) → length page ≡ 0 → page ≡ map f page
none_dealt f [] h = refl
none_dealt f (m ∷ page) h = absurd (omega arith)

-- messages with their recipients have the serials that they had, and span the same
pub dealt_serials : (c : List ℕ) (t : Tables) (page dealt : List Message) →
    dealt ≡ map (with_dealt c t) page → serials_of dealt ≡ serials_of page
dealt_serials c t page dealt is =
    ap serials_of is ∙ map-map (λ (m : Message). m.serial) (with_dealt c t) page

pub spans_kept : (page new : List Message) (low high : ℕ) → serials_of new ≡ serials_of page →
    Spans page low high → Spans new low high
spans_kept page new low high same spans =
    let long : length new ≡ length page = sym (serials_long new) ∙ ap length same
    ∙ serials_long page in
    record {
      first = ap (λ ns. slice_get ns 0) same ∙ spans.first;
      last = (λ i. slice_get (same i) (long i - 1)) ∙ spans.last;
    }

-- the first row with a spool name, with its recipients
pub spool_whole : (c : List ℕ) (t : Tables) (p : List ℕ) (rows : List sqlite.Row) →
    pairs rows ≡ take 1 (filter (has_spool_name c p) (entries t.messages))
    → option_map (whole c t) (slice_get rows 0) ≡ (read_tables c t).by_spool p
spool_whole c t p rows h =
    let es = entries t.messages in
    let passing = filter (has_spool_name c p) es in
    sym (slice_get-map (whole c t) rows 0) ∙ ap (λ ms. slice_get ms 0) (wholes c t rows
    ∙ ap (map (whole_entry c t)) h) ∙ slice_get-map (whole_entry c t) (take 1 passing) 0
    ∙ ap (option_map (whole_entry c t)) (first_taken passing)
    ∙ sym (slice_get-map (whole_entry c t) passing 0)
    ∙ ap (λ ms. slice_get ms 0) (sym (map-map (whole_own c t) own passing)
    ∙ ap (map (whole_own c t)) (owned text_cmp (λ (e : ℕ × Row). eq_by_cmp text_cmp p e.1.spool)
    c es))
    ∙ slice_get-map (whole_own c t) (filter (λ (e : ℕ × Row). eq_by_cmp text_cmp p e.1.spool)
    (rows_of text_cmp c es)) 0
    ∙ ap (option_map (whole_own c t)) (slice_get-filter (λ (e : ℕ × Row). eq_by_cmp text_cmp p
    e.1.spool) (rows_of text_cmp c es))
    ∙ sym (find-map (λ (m : Message). eq_by_cmp text_cmp p m.spool) (whole_own c t)
    (rows_of text_cmp c es))

-- ---- reads one after another

unchanged_then : (a b c : State) → IsUnchanged a b → IsUnchanged b c → IsUnchanged a c
unchanged_then a b c p q = (
  record {
    was_open = p.0.was_open;
    is_open = q.0.is_open;
    now_is = q.0.now_is ∙ p.0.now_is;
    committed_is = q.0.committed_is ∙ p.0.committed_is;
    mode = q.0.mode ∙ p.0.mode;
  },
  record { changes = q.1.changes ∙ p.1.changes; last_rowid = q.1.last_rowid ∙ p.1.last_rowid },
  q.2 ∙ p.2,
)

-- a query that was answered, and another read after it
module _ {X Y : Type 0} (a b c : State) (x : X) (r : Result Y Error) (first : Intact a b (Ok x))
    (second : Intact b c r) where
  desk_there : HasCleanDisk c → IsDesk a.now → IsDesk b.now
  desk_there clean desk = subst IsDesk
      (sym (first.same (clean_before b c second.quiet clean) desk).0.now_is) desk

  -- what the other read finds is of the tables before both
  pub finds_both : {Z : Type 0} (f : Tables → Z) (g : Y → Z) →
      (HasCleanDisk c → IsDesk b.now → IfOk r (λ found. g found ≡ f (tables_in b.now))) →
      HasCleanDisk c → IsDesk a.now → IfOk r (λ found. g found ≡ f (tables_in a.now))
  finds_both f g h clean desk = subst (λ db. IfOk r (λ found. g found ≡ f (tables_in db)))
      (first.same (clean_before b c second.quiet clean) desk).0.now_is
      (h clean (desk_there clean desk))

  -- what the first read found stands
  pub first_found : {P : Type 0} → (HasCleanDisk b → IsDesk a.now → P) → HasCleanDisk c →
      IsDesk a.now → P
  first_found h clean desk = h (clean_before b c second.quiet clean) desk

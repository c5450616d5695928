-- The rows of a range of serials, in the order of a table that is keyed by customer and serial.
-- They give to each message of the range what is its own.
use Rattle.std.proofs.Common.{◌≡◌, inl, inr, ℕ, zero, suc, ◌-◌, ◌<◌, ◌≤◌, Bool, true, false, cond}
use Rattle.std.proofs.Common.{List, [], ◌∷◌, ◌++◌, map, filter, fold, length, append-nil}
use Rattle.std.proofs.Common.{append_assoc, Some, slice_get, refl, sym, ap, ◌∙◌}
use Rattle.std.proofs.Common.{subst, arith, nat_cmp, Ordering, Less, Equal, Greater}
use Rattle.std.specs.Prelude.{◌==◌, unwrap_or}
use Rattle.std.specs.List.{AllByRecursion}
use Rattle.std.specs.Ordering.{eq_by_cmp, ordering_then}
use Rattle.std.specs.Cmp.{ranked}
use Rattle.std.specs.Cmp.Lexicographic.{nat_list_cmp_total}
use Rattle.std.specs.FinMap.{FinMap, entries, entries_sorted, find, get, get-entries}
use Rattle.std.proofs.lemmas.Bool.{cases_lt}
use Rattle.std.proofs.lemmas.Bool.Decides.{nat_tests, Decides-eqb}
use Rattle.std.proofs.lemmas.List.Folds.{fold-map}
use Rattle.std.proofs.lemmas.Option.{slice_get_within}
use Rattle.sqlite.specs.Order.{Row}
use Rattle.sqlite_trees.specs.Tree.{IsAscending}
use Rattle.sqlite_keyed.proofs.ListLemmas.{map-map, filter-map, filter-filter, filter_same}
use Rattle.sqlite_trees.proofs.ListLemmas.{filter_none}
use Rattle.sqlite_keyed.proofs.ListLemmas.{all_weaker, all_unmap, ascending-filter}
use Rattle.sqlite_keyed.proofs.ListLemmas.{ascending_weaker, ascending_from_map}
use Rattle.hq_kept.specs.Limits.{is_within}
use Rattle.hq_kept.specs.declared.message.Message.{Message}
use Rattle.hq_kept.specs.declared.message.Pending.{Pending}
use Rattle.hq_owned.specs.Rows.{pairs_of}
use Rattle.hq_owned.specs.Owned.{by_both, rows_of, part_of}
use Rattle.hq_owned.proofs.OwnedPages.{owned}
use Rattle.hq_owned.proofs.Parts.{rows_sorted, entries_part, get_part}
use Rattle.hq_tables.specs.Tables.{Tables, text_cmp, pending_of}
use Rattle.hq_tables.proofs.Orders.{ascending}
use Rattle.hq_rows.specs.Listed.{recipient_key, recipient_value, hold_key, hold_value}
use Rattle.hq_sql.specs.Rows.{recipient_shown, hold_shown}
use Rattle.hq_sql_recipients.specs.Places.{is_of}
use Rattle.hq_sql_recipients.proofs.OnRecipients.{pending_is}
use Rattle.hq_sql_queue.proofs.Lists.{same_some, all_from_get, map_same_on, rises_at}
use Rattle.hq_sql_queue.specs.Dealt.{serials_of, Rise, Spans, dealt_rows, InOrder}
use Rattle.hq_sql_queue.specs.Parts.{is_between, put_recipient, give_row_recipient, with_dealt}
use Rattle.hq_sql_queue.specs.Parts.{put_reason, give_row_reason, with_held}

same_test : (a b : ℕ) → (a == b) ≡ eq_by_cmp nat_cmp a b
same_test a b = grind (arith, nat_tests)

-- ---- the serials of a page are those of its range

within_test : (low high n : ℕ) → low ≤ n → n ≤ high → is_within low high n ≡ true
within_test low high n a b = grind (arith, nat_tests)

pub serials_long : (ms : List Message) → length (serials_of ms) ≡ length ms
serials_long [] = refl
serials_long (m ∷ ms) = ap suc (serials_long ms)

module _ (page : List Message) (low high : ℕ) (rise : Rise (serials_of page))
    (spans : Spans page low high) where
  abbrev ns : List ℕ
  ns = serials_of page

  from : (k n : ℕ) → slice_get ns k ≡ Some n → low ≤ n
  from zero n e = let same = same_some low n (sym spans.first ∙ e) in omega arith
  from (suc k) n e =
      let less = rises_at ns rise 0 (suc k) low n (omega arith) spans.first e in
      omega arith

  to : (k n : ℕ) → slice_get ns k ≡ Some n → n ≤ high
  to k n e =
      let long = serials_long page in
      let within = slice_get_within ns k n e in
      elim (cases_lt k (length page - 1)) [
        | inl early ↦
            let less = rises_at ns rise k (length page - 1) n high early e spans.last in
            omega arith
        | inr late ↦
            let at : k ≡ length page - 1 = omega arith in
            let same = same_some n high (sym e ∙ ap (slice_get ns) at ∙ spans.last) in
            omega arith
      ]

  all_within : AllByRecursion (λ (m : Message). is_within low high m.serial ≡ true) page
  all_within = all_unmap (λ n. is_within low high n ≡ true) (λ (m : Message). m.serial) page
      (all_from_get (λ n. is_within low high n ≡ true) ns
      (λ k n e. within_test low high n (from k n e) (to k n e)))

-- ---- any such table: the keys behind the customer are `K`, and are ordered by serial first

module _ {X K V : Type 0} {R : K → K → Ordering} (shown : Row → X) (key : X → List ℕ × K)
    (val : X → V) (serial : K → ℕ) (lower : (x y : K) → R x y ≡ Less → serial x ≤ serial y)
    (c : List ℕ) (low high : ℕ) (table : FinMap (by_both text_cmp R) V) (rows : List Row)
    (seen : pairs_of key val (map shown rows) ≡ filter (is_between serial c low high)
    (entries table)) where
  abbrev all : List (K × V)
  all = rows_of text_cmp c (entries table)

  abbrev serial_in : Row → ℕ
  serial_in r = serial (key (shown r)).1

  abbrev view : Row → K × V
  view r = ((key (shown r)).1, val (shown r))

  abbrev inside : K × V → Bool
  inside e = is_within low high (serial e.0)

  -- what the table has of a message
  abbrev own : ℕ → List V
  own n = map (λ (e : K × V). e.1)
      (filter (λ (e : K × V). eq_by_cmp nat_cmp n (serial e.0)) all)

  views : map view rows ≡ filter inside all
  views =
      sym (map-map (λ (e : (List ℕ × K) × V). (e.0.1, e.1)) (λ r. (key (shown r), val (shown r)))
      rows)
      ∙ ap (map (λ (e : (List ℕ × K) × V). (e.0.1, e.1)))
      (sym (map-map (λ x. (key x, val x)) shown rows) ∙ seen)
      ∙ owned text_cmp inside c (entries table)

  in_order : IsAscending (λ a b. serial_in a ≤ serial_in b) rows
  in_order =
      let R' : K × V → K × V → Type 0 = λ a b. R a.0 b.0 ≡ Less in
      let S : K × V → K × V → Type 0 = λ a b. serial a.0 ≤ serial b.0 in
      ascending_from_map S view rows (subst (IsAscending S) (sym views)
      (ascending_weaker R' S (λ a b. lower a.0 b.0) (filter inside all)
      (ascending-filter R' inside all (ascending R all
      (rows_sorted R nat_list_cmp_total c (entries table) (entries_sorted table))))))

  own_values : (n : ℕ) → is_within low high n ≡ true →
      map (λ r. val (shown r)) (filter (λ r. n == serial_in r) rows) ≡ own n
  own_values n within =
      let value : K × V → V = λ e. e.1 in
      let mine : K × V → Bool = λ e. n == serial e.0 in
      sym (map-map value view (filter (λ r. mine (view r)) rows))
      ∙ ap (map value) (sym (filter-map mine view rows) ∙ ap (filter mine) views
      ∙ filter-filter mine inside (λ e same. subst (λ n. is_within low high n ≡ true)
      ((Decides-eqb n (serial e.0)).0 same) within) all
      ∙ filter_same mine (λ e. eq_by_cmp nat_cmp n (serial e.0))
      (λ e. same_test n (serial e.0)) all)

  -- where a row puts its value, and all that a message has make it whole
  page_own : (put : V → Message → Message) (whole : Message → Message) →
      ((m : Message) → fold (λ x v. put v x) m (own m.serial) ≡ whole m) → (page : List Message) →
      Rise (serials_of page) → Spans page low high
      → map (λ m. fold (λ x r. put (val (shown r)) x) m (filter (λ r. m.serial == serial_in r)
      rows)) page ≡ map whole page
  page_own put whole is page rise spans = map_same_on _ whole page
      (all_weaker (λ (m : Message). is_within low high m.serial ≡ true) _ (λ m within.
      sym (fold-map (λ x v. put v x) (λ r. val (shown r)) m
      (filter (λ r. m.serial == serial_in r) rows))
      ∙ ap (fold (λ x v. put v x) m) (own_values m.serial within) ∙ is m) page
      (all_within page low high rise spans))

-- ---- recipients

lower : (x y : ℕ × ℕ) → by_both nat_cmp nat_cmp x y ≡ Less → x.0 ≤ y.0
lower x y h = go (nat_cmp x.0 y.0) refl h
  where
    go : (o : Ordering) → nat_cmp x.0 y.0 ≡ o → ordering_then o (nat_cmp x.1 y.1) ≡ Less → x.0 ≤ y.0
    go Less e k = let it : x.0 < y.0 = ranked x.0 y.0 Less (sym e) in omega arith
    go Equal e k = let it : x.0 ≡ y.0 = ranked x.0 y.0 Equal (sym e) in omega arith
    go Greater e k = cc

added : (ps : List Pending) (m : Message) → fold (λ x p. put_recipient p x) m ps ≡ record m {
  pending = m.pending ++ ps;
}
added [] m = λ i. record m { pending = sym (append-nil m.pending) i }
added (p ∷ ps) m = added ps (put_recipient p m) ∙ λ i. record m {
  pending = append_assoc m.pending (p ∷ []) ps i;
}

-- ---- reasons

lower_number : (x y : ℕ) → nat_cmp x y ≡ Less → x ≤ y
lower_number x y h = let it : x < y = ranked x y Less (sym h) in omega arith

apart : (n low high : ℕ) → eq_by_cmp nat_cmp n low ≡ true → nat_cmp low high ≡ Less →
    eq_by_cmp nat_cmp n high ≡ false
apart n low high same h = let it : low < high = ranked low high Less (sym h) in
    grind (arith, nat_tests)

-- a message has at most one reason
found : (n : ℕ) (m : Message) (es : List (ℕ × List ℕ)) →
    IsAscending (λ a b. nat_cmp a.0 b.0 ≡ Less) es → fold (λ x v. put_reason v x) m
    (map (λ (e : ℕ × List ℕ). e.1) (filter (λ e. eq_by_cmp nat_cmp n e.0) es)) ≡ put_reason
    (unwrap_or (find nat_cmp n es) m.reason) m
found n m [] sorted = refl
found n m (e ∷ es) sorted =
    let ours : ℕ × List ℕ → Bool = λ e. eq_by_cmp nat_cmp n e.0 in
    let put : Message → List (ℕ × List ℕ) → Message = λ m es. fold (λ x v. put_reason v x) m
    (map (λ (e : ℕ × List ℕ). e.1) es) in
    elim (ours e) as (λ b. ours e ≡ b → put m (cond b (e ∷ filter ours es) (filter ours es)) ≡
    put_reason (unwrap_or (cond b (Some e.1) (find nat_cmp n es)) m.reason) m) [
      | true ↦ λ same. ap (put (put_reason e.1 m)) (filter_none ours es
          (all_weaker (λ x. nat_cmp e.0 x.0 ≡ Less) (λ x. ours x ≡ false)
          (λ x. apart n e.0 x.0 same) es sorted.0))
      | false ↦ λ none. found n m es sorted.1
    ] refl

module _ (c : List ℕ) (low high : ℕ) (t : Tables) (page after : List Message) (rows : List Row)
    (rise : Rise (serials_of page)) (spans : Spans page low high) where
  pub recipients_given : pairs_of recipient_key recipient_value (map recipient_shown rows) ≡ filter
      (is_between (λ (k : ℕ × ℕ). k.0) c low high) (entries t.recipients)
      → (InOrder rows → after ≡ map (dealt_rows give_row_recipient rows) page) → after ≡ map
      (with_dealt c t) page
  recipients_given seen dealt =
      let it = page_own recipient_shown recipient_key recipient_value (λ (k : ℕ × ℕ). k.0) lower c
      low high t.recipients rows seen put_recipient (with_dealt c t) (λ m.
      added _ m ∙ λ i. record m { pending = m.pending ++ own_pending m.serial i }) page rise spans
      in
      dealt (in_order recipient_shown recipient_key recipient_value (λ (k : ℕ × ℕ). k.0) lower c low
      high t.recipients rows seen) ∙ it
    where
      own_pending : (n : ℕ) →
          map (λ (e : (ℕ × ℕ) × Pending). e.1) (filter (λ (e : (ℕ × ℕ) × Pending). eq_by_cmp
          nat_cmp n e.0.0) (rows_of text_cmp c (entries t.recipients))) ≡ pending_of c n
          t.recipients
      own_pending n =
          ap (map (λ (e : (ℕ × ℕ) × Pending). e.1)) (sym (owned text_cmp
          (λ (e : (ℕ × ℕ) × Pending). eq_by_cmp nat_cmp n e.0.0) c (entries t.recipients)))
          ∙ map-map (λ (e : (ℕ × ℕ) × Pending). e.1)
          (λ (e : (List ℕ × (ℕ × ℕ)) × Pending). (e.0.1, e.1))
          (filter (is_of c n) (entries t.recipients))
          ∙ sym (pending_is c n t.recipients)

  pub reasons_given : pairs_of hold_key hold_value (map hold_shown rows) ≡ filter
      (is_between (λ (n : ℕ). n) c low high) (entries t.holds)
      → (InOrder rows → after ≡ map (dealt_rows give_row_reason rows) page) → after ≡ map
      (with_held c t) page
  reasons_given seen dealt =
      let mine = rows_of text_cmp c (entries t.holds) in
      let sorted = ascending nat_cmp mine
      (rows_sorted nat_cmp nat_list_cmp_total c (entries t.holds) (entries_sorted t.holds)) in
      dealt (in_order hold_shown hold_key hold_value (λ (n : ℕ). n) lower_number c low high t.holds
      rows seen)
      ∙ page_own hold_shown hold_key hold_value (λ (n : ℕ). n) lower_number c low high t.holds rows
      seen put_reason (with_held c t) (λ m. found m.serial m mine sorted
      ∙ ap (λ o. put_reason (unwrap_or o m.reason) m) (own_reason m.serial)) page rise spans
    where
      own_reason : (n : ℕ) → find nat_cmp n (rows_of text_cmp c (entries t.holds)) ≡ get t.holds (
        c,
        n,
      )
      own_reason n =
          ap (find nat_cmp n) (sym (entries_part nat_cmp nat_list_cmp_total c t.holds))
          ∙ sym (get-entries (part_of text_cmp c t.holds) n)
          ∙ get_part nat_cmp nat_list_cmp_total c t.holds n

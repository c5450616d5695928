-- Rows dealt to the messages of a page by their serials: the place of a serial, what a row gives,
-- and what all rows give.
use Rattle.std.proofs.Common.{◌≡◌, ◌≢◌, inl, inr, ℕ, ◌+◌, ◌<◌, ◌≤◌, true, false}
use Rattle.std.proofs.Common.{cond, List, [], ◌∷◌, map, filter, fold, length, get_or, Option, Some}
use Rattle.std.proofs.Common.{None, slice_get, option_map, refl, sym, ap, ◌∙◌, subst, arith}
use Rattle.std.specs.Prelude.{◌==◌}
use Rattle.std.specs.List.{AllByRecursion, FoldsTo}
use Rattle.std.proofs.lemmas.Bool.{cases_lt}
use Rattle.std.proofs.lemmas.Bool.Decides.{nat_tests}
use Rattle.std.proofs.lemmas.Option.{slice_get-map, slice_get_past, slice_get-get_or}
use Rattle.sqlite.specs.Order.{Row}
use Rattle.sqlite_keyed.proofs.ListLemmas.{map-map, map_same, all_weaker}
use Rattle.hq_kept.specs.declared.message.Message.{Message}
use Rattle.hq_sql_queue.proofs.Lists.{same_some, none_is, unmoved, none_after, rises_at}
use Rattle.hq_sql_queue.proofs.Lists.{map_at_place}
use Rattle.hq_sql_queue.specs.Dealt.{serials_of, Rise, row_serial, dealt_one, IsPlaceFrom, Deals}
use Rattle.hq_sql_queue.specs.Dealt.{dealt_rows, InOrder}

-- ---- the place of a serial

pub serial_at : (page : List Message) (place : ℕ) (m : Message) → place < length page →
    m ≡ get_or page place m → slice_get (serials_of page) place ≡ Some m.serial
serial_at page place m within is =
    slice_get-map (λ (x : Message). x.serial) page place
    ∙ ap (option_map (λ (x : Message). x.serial)) (slice_get-get_or page place m within)
    ∙ ap (λ (x : Message). Some x.serial) (sym is)

-- all places from `from` on, up to this one, are passed
abbrev pub Passes : List ℕ → ℕ → ℕ → ℕ → Type 0
Passes serials from serial place = (k n : ℕ) → from ≤ k → k < place → slice_get serials k ≡ Some n →
    n < serial

pub passes_more : (serials : List ℕ) (from serial place here : ℕ) → Passes serials from serial place
    → slice_get serials place ≡ Some here → here < serial → Passes serials from serial (place + 1)
passes_more serials from serial place here all is below =
    λ k n above less e. elim (cases_lt k place) [
      | inl before ↦ all k n above before e
      | inr at ↦
          let same : k ≡ place = omega arith in
          let value : n ≡ here = same_some n here (sym e ∙ ap (slice_get serials) same ∙ is) in
          omega arith
    ]

pub found_none : (page : List Message) (from serial place : ℕ) →
    Passes (serials_of page) from serial place → length page ≤ place →
    IsPlaceFrom (serials_of page) from serial (length page)
found_none page from serial place all end = record {
  passed = λ k n above less e. all k n above (omega arith) e;
  there = λ n e. absurd (none_is n
      (sym (slice_get-map (λ (x : Message). x.serial) page (length page)
      ∙ ap (option_map (λ (x : Message). x.serial))
      (slice_get_past page (length page) (omega arith))) ∙ e));
}

-- ---- one row

above_test : (a b : ℕ) → b < a → (a == b) ≡ false
above_test a b h = grind (arith, nat_tests)

below_test : (a b : ℕ) → a < b → (a == b) ≡ false
below_test a b h = grind (arith, nat_tests)

module _ (give : Row → Message → Message) (keeps : (r : Row) (m : Message) →
    (give r m).serial ≡ m.serial) where
  abbrev gives : Row → Message → Message
  gives r = dealt_one (row_serial r) (give r)

  keeps_serial : (r : Row) (m : Message) → (gives r m).serial ≡ m.serial
  keeps_serial r m = elim (m.serial == row_serial r) as
      (λ b. (cond b (give r m) m).serial ≡ m.serial) [ true ↦ keeps r m | false ↦ refl ]

  another : (r : Row) (m : Message) → (m.serial == row_serial r) ≡ false → gives r m ≡ m
  another r m apart = ap (λ b. cond b (give r m) m) apart

  module _ (before : List Message) (from : ℕ) (r : Row) (after : List Message) (place : ℕ)
      (rise : Rise (serials_of before)) (deals : Deals give before from r after place)
      (below : (k n : ℕ) → k < from → slice_get (serials_of before) k ≡ Some n → n < row_serial r)
    where
      -- what stands before the place is below the row's serial
      below_place : (k n : ℕ) → k < place → slice_get (serials_of before) k ≡ Some n →
          n < row_serial r
      below_place k n less e = elim (cases_lt k from) [
        | inl early ↦ below k n early e
        | inr late ↦ deals.place_is.passed k n late less e
      ]

      above_place : (k n : ℕ) → place < k → slice_get (serials_of before) k ≡ Some n →
          row_serial r < n
      above_place k n less e = go (slice_get (serials_of before) place) refl
        where
          go : (o : Option ℕ) → slice_get (serials_of before) place ≡ o → row_serial r < n
          go None none = absurd (none_after (serials_of before) place k n less none e)
          go (Some m) some =
              let least = deals.place_is.there m some in
              let more = rises_at (serials_of before) rise place k m n less some e in
              omega arith

      others : (k : ℕ) (m : Message) → k ≢ place → slice_get before k ≡ Some m → gives r m ≡ m
      others k m apart e =
          let at : slice_get (serials_of before) k ≡ Some m.serial =
          slice_get-map (λ (x : Message). x.serial) before k
          ∙ ap (option_map (λ (x : Message). x.serial)) e in
          another r m (elim (cases_lt k place) [
            | inl early ↦ below_test m.serial (row_serial r) (below_place k m.serial early at)
            | inr late ↦ above_test m.serial (row_serial r)
                (above_place k m.serial (omega (arith, apart)) at)
          ])

      dealt_to : after ≡ map (gives r) before
      dealt_to = deals.dealt ∙ map_at_place (gives r) before place others

  -- ---- all rows

  dealt_both : (r : Row) (rows : List Row) (m : Message) →
      dealt_rows give rows (gives r m) ≡ dealt_rows give (r ∷ rows) m
  dealt_both r rows m =
      let more : ℕ → List Row = λ n. filter (λ x. n == row_serial x) rows in
      elim (m.serial == row_serial r) as (λ b. dealt_rows give rows (cond b (give r m) m) ≡ fold
      (λ x s. give s x) m (cond b (r ∷ more m.serial) (more m.serial))) [
        | true ↦ ap (λ n. fold (λ x s. give s x) (give r m) (more n)) (keeps r m)
        | false ↦ refl
      ]

  module _ {T : Type 0} (page : T → List Message) (place : T → ℕ) where
    pub dealt_all : (rows : List Row) (p q : T) → Rise (serials_of (page p)) → InOrder rows
        → ((k n : ℕ) → k < place p → slice_get (serials_of (page p)) k ≡ Some n →
        AllByRecursion (λ r. n < row_serial r) rows)
        → FoldsTo (λ p r q. Deals give (page p) (place p) r (page q) (place q)) p rows q →
        page q ≡ map (dealt_rows give rows) (page p)
    dealt_all [] p q rise sorted below h = ap page (sym h)
        ∙ unmoved (dealt_rows give []) (page p) (λ k m e. refl)
    dealt_all (r ∷ rows) p q rise sorted below h =
        let first = λ (k n : ℕ) (less : k < place p)
        (e : slice_get (serials_of (page p)) k ≡ Some n). (below k n less e).0 in
        let to = dealt_to (page p) (place p) r (page h.0) (place h.0) rise h.1 first in
        let same : serials_of (page h.0) ≡ serials_of (page p) = ap serials_of to
        ∙ map-map (λ (m : Message). m.serial) (gives r) (page p)
        ∙ map_same (λ m. (gives r m).serial) (λ (m : Message). m.serial) (keeps_serial r)
        (page p) in
        dealt_all rows h.0 q (subst Rise (sym same) rise) sorted.1
        (λ k n less e.
        let least : n < row_serial r = below_place (page p) (place p) r (page h.0) (place h.0) rise
        h.1 first k n less (ap (λ ns. slice_get ns k) (sym same) ∙ e) in
        all_weaker (λ x. row_serial r ≤ row_serial x) (λ x. n < row_serial x) (λ x up. omega arith)
        rows sorted.0)
        h.2
        ∙ ap (map (dealt_rows give rows)) to ∙ map-map (dealt_rows give rows) (gives r) (page p)
        ∙ map_same (λ m. dealt_rows give rows (gives r m)) (dealt_rows give (r ∷ rows))
        (dealt_both r rows) (page p)

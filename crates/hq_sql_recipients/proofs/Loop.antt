-- What is left, and what is kept, while the recipients of a message are put in their places one
-- after another.
use Rattle.std.proofs.Common.{◌≡◌, ℕ, zero, suc, ◌+◌, Bool, true, false, List, [], ◌∷◌, ◌++◌, map}
use Rattle.std.proofs.Common.{filter, take, length, Some, None, Ok, slice_get, refl, sym}
use Rattle.std.proofs.Common.{ap, ◌∙◌, subst, arith}
use Rattle.std.specs.Prelude.{nat_eq, unwrap_or}
use Rattle.std.specs.List.{list_any}
use Rattle.std.specs.FinMap.{entries, get, insert}
use Rattle.std.proofs.lemmas.Bool.Decides.{nat_tests}
use Rattle.sqlite.specs.Order.{Row}
use Rattle.sqlite.specs.State.{State, HasCleanDisk, IsUnchanged}
use Rattle.hq_keyed.proofs.Left.{clean_before, unchanged_keeps}
use Rattle.hq_kept.specs.declared.message.Pending.{Pending}
use Rattle.hq_owned.specs.Rows.{pairs_of}
use Rattle.hq_tables.specs.Tables.{Tables, place_all}
use Rattle.hq_rows.specs.Listed.{recipient_key, recipient_value}
use Rattle.hq_sql.specs.Rows.{recipient_shown}
use Rattle.hq_sql.specs.Tables.{IsDesk, Leaves, tables_in}
use Rattle.hq_sql.specs.Kept.{Intact, KeepsCommitted}
use Rattle.hq_sql.proofs.Steps.{keeps_on}
use Rattle.hq_sql.proofs.Tables.{leaves_then}
use Rattle.hq_sql_recipients.specs.Places.{is_far, is_of, StandsAfter}
use Rattle.hq_sql_recipients.specs.Recipients.{recipient_row, with_recipient, without_beside}
use Rattle.hq_sql_recipients.specs.Recipients.{with_pending}
use Rattle.hq_sql_recipients.proofs.InPlace.{deal_in_place, deal_same, place_next, seen_next}
use Rattle.hq_sql_recipients.proofs.InPlace.{skip_next}
use Rattle.hq_sql_recipients.proofs.Found.{none_is, stands_there, none_beside, none_new}

-- ---- one call after another

unchanged_leaves : (a b : State) → IsDesk a.now → IsUnchanged a b → Leaves a b (tables_in a.now)
unchanged_leaves a b desk h = record {
  desk = subst IsDesk (sym h.0.now_is) desk;
  tables = ap tables_in h.0.now_is;
  is_open = h.0.is_open;
  was_open = h.0.was_open;
  mode = h.0.mode;
  committed = λ _. h.0.committed_is;
}

-- ---- the first so many of a list

next_taken : {A : Type 0} (xs : List A) (n : ℕ) (x : A) → slice_get xs n ≡ Some x →
    take (suc n) xs ≡ take n xs ++ x ∷ []
next_taken [] n x h = absurd (none_is x h)
next_taken (y ∷ ys) zero x h = ap (λ z. z ∷ []) (ap (λ o. unwrap_or o y) h)
next_taken (y ∷ ys) (suc n) x h = ap (λ zs. y ∷ zs) (next_taken ys n x h)

next : {A : Type 0} (xs : List A) (n : ℕ) (x : A) → slice_get xs n ≡ Some x →
    take (n + 1) xs ≡ take n xs ++ x ∷ []
next xs n x h = let at : n + 1 ≡ suc n = omega arith in ap (λ m. take m xs) at ∙ next_taken xs n x h

taken : {A : Type 0} (xs : List A) (n : ℕ) (x : A) → slice_get xs n ≡ Some x →
    length (take n xs) ≡ n
taken [] n x h = absurd (none_is x h)
taken (y ∷ ys) zero x h = refl
taken (y ∷ ys) (suc n) x h = ap suc (taken ys n x h)

whole : {A : Type 0} (xs : List A) → take (length xs) xs ≡ xs
whole [] = refl
whole (x ∷ xs) = ap (λ ys. x ∷ ys) (whole xs)

some_rows : (n : ℕ) → nat_eq (suc n) 0 ≡ true → ⊥
some_rows n h = grind (arith, nat_tests)

pub no_rows : {A : Type 0} (xs : List A) → nat_eq (length xs) 0 ≡ true → xs ≡ []
no_rows [] h = refl
no_rows (x ∷ xs) h = absurd (some_rows (length xs) h)

-- ---- the loop

-- the first n recipients stand in their places
pub record Placed (a b : State) (c : List ℕ) (serial : ℕ) (ps : List Pending) (rows : List Row)
    (n : ℕ) : Type 0 where
  pub seen : HasCleanDisk b → IsDesk a.now →
      pairs_of recipient_key recipient_value (map recipient_shown rows) ≡ filter (is_of c serial)
      (entries (tables_in a.now).recipients)
  pub made : HasCleanDisk b → IsDesk a.now →
      Leaves a b (record (tables_in a.now) {
        recipients = place_all c serial 1 (take n ps) (tables_in a.now).recipients;
      })
  pub kept : KeepsCommitted a b

module _ (a b : State) (c : List ℕ) (serial : ℕ) (ps : List Pending) (rows : List Row) where
  pub begun : {X : Type 0} (x : X) →
      (HasCleanDisk b → IsDesk a.now →
      pairs_of recipient_key recipient_value (map recipient_shown rows) ≡ filter (is_of c serial)
      (entries (tables_in a.now).recipients)) → Intact a b (Ok x)
      → Placed a b c serial ps rows 0
  begun x seen k = record {
    seen = seen;
    made = λ clean desk. unchanged_leaves a b desk (k.same clean desk);
    kept = record {
      kept = λ clean desk within. unchanged_keeps a b (k.same clean desk);
      quiet = k.quiet;
      stops = λ desk within. k.stops desk;
    };
  }

  module _ (n : ℕ) (it : Placed a b c serial ps rows n) where
    -- a recipient that stands already
    pub skipped : (p : Pending) → slice_get ps n ≡ Some p → StandsAfter rows n p →
        Placed a b c serial ps rows (n + 1)
    skipped p item stands = record {
      seen = it.seen;
      made = λ clean desk.
          let rs = (tables_in a.now).recipients in
          let there = stands_there c serial rs rows (it.seen clean desk) n p stands in
          let at : 1 + length (take n ps) ≡ n + 1 = let e = taken ps n p item in omega arith in
          let same : place_all c serial 1 (take (n + 1) ps) rs ≡ place_all c serial 1 (take n ps) rs
          =
          ap (λ xs. place_all c serial 1 xs rs) (next ps n p item)
          ∙ skip_next c serial (take n ps) p rs (subst (λ j. get rs (c, (serial, j)) ≡ Some p)
          (sym at) there) in
          subst (λ m. Leaves a b (record (tables_in a.now) { recipients = m })) (sym same)
          (it.made clean desk);
      kept = it.kept;
    }

    module _ (d : State) (q : KeepsCommitted b d) where
      pub kept_on : KeepsCommitted a d
      kept_on = keeps_on a b d _ it.kept it.made q

      -- a recipient that was put, and added where the message had none
      pub stepped : (p : Pending) → slice_get ps n ≡ Some p → (are_free : Bool) →
          (are_free ≡ true → rows ≡ [])
          → (HasCleanDisk d → IsDesk b.now →
          (are_free ≡ true → get (tables_in b.now).recipients (c, (serial, n + 1)) ≡ None) →
          Leaves b d (with_recipient (recipient_row c serial (n + 1) p) (tables_in b.now)))
          → Placed a d c serial ps rows (n + 1)
      stepped p item are_free none made = record {
        seen = λ clean desk. it.seen (clean_before b d q.quiet clean) desk;
        made = λ clean desk.
            let t = tables_in a.now in
            let was = clean_before b d q.quiet clean in
            let l = it.made was desk in
            let at : 1 + length (take n ps) ≡ n + 1 = let e = taken ps n p item in omega arith in
            let free : are_free ≡ true → get (tables_in b.now).recipients (c, (serial, n + 1)) ≡
            None = λ yes.
            ap (λ (u : Tables). get u.recipients (c, (serial, n + 1))) l.tables
            ∙ subst (λ j. get (place_all c serial 1 (take n ps) t.recipients) (c, (serial, j)) ≡
            None) at
            (seen_next c serial (take n ps) t.recipients
            ∙ none_new c serial t.recipients rows (it.seen was desk) (none yes)
            (1 + length (take n ps))) in
            let after : place_all c serial 1 (take (n + 1) ps) t.recipients ≡ insert
            (place_all c serial 1 (take n ps) t.recipients) (c, (serial, n + 1)) p =
            ap (λ xs. place_all c serial 1 xs t.recipients) (next ps n p item)
            ∙ place_next c serial 1 (take n ps) p t.recipients
            ∙ ap (λ j. insert (place_all c serial 1 (take n ps) t.recipients) (c, (serial, j))
            p) at in
            subst (Leaves a d) (ap (with_recipient (recipient_row c serial (n + 1) p)) l.tables
            ∙ ap (λ m. record t { recipients = m }) (sym after))
            (leaves_then a b d _ _ l (made clean l.desk free));
        kept = kept_on;
      }

  module _ (it : Placed a b c serial ps rows (length ps)) where
    all_placed : HasCleanDisk b → IsDesk a.now →
        Leaves a b (record (tables_in a.now) {
          recipients = place_all c serial 1 ps (tables_in a.now).recipients;
        })
    all_placed clean desk = subst (λ xs. Leaves a b
        (record (tables_in a.now) {
          recipients = place_all c serial 1 xs (tables_in a.now).recipients;
        })) (whole ps) (it.made clean desk)

    -- nothing stands beside
    pub ended : list_any (λ r. is_far (length ps) (recipient_shown r).place) rows ≡ false →
        HasCleanDisk b → IsDesk a.now → Leaves a b (with_pending c serial ps (tables_in a.now))
    ended none clean desk =
        let rs = (tables_in a.now).recipients in
        subst (λ m. Leaves a b (record (tables_in a.now) { recipients = m }))
        (deal_same c serial ps rs (none_beside c serial rs rows (it.seen clean desk) (length ps)
        none)) (all_placed clean desk)

    -- what stood beside was dropped
    pub dropped : (d : State) → KeepsCommitted b d →
        (HasCleanDisk d → IsDesk b.now → Leaves b d
        (without_beside c serial (length ps) (tables_in b.now))) → HasCleanDisk d → IsDesk a.now →
        Leaves a d (with_pending c serial ps (tables_in a.now))
    dropped d q made clean desk =
        let t = tables_in a.now in
        let l = all_placed (clean_before b d q.quiet clean) desk in
        subst (Leaves a d) (ap (without_beside c serial (length ps)) l.tables
        ∙ ap (λ m. record t { recipients = m }) (deal_in_place c serial ps t.recipients))
        (leaves_then a b d _ _ l (made clean l.desk))

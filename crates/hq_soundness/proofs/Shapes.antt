-- Tables stay shaped by changes that fit: of the recipients' table, places and orphans; of each
-- customer's state, the rest.
use Rattle.std.proofs.Common.{◌≡◌, ◌≢◌, ⊎_elim, ℕ, true, cond, List, [], ◌∷◌, Some, None, Option}
use Rattle.std.proofs.Common.{sym, ap, ◌∙◌, subst}
use Rattle.std.proofs.lemmas.Bool.{cases_eq}
use Rattle.std.specs.Ordering.{nat_cmp, eq_by_cmp}
use Rattle.std.specs.Cmp.{nat_cmp_total}
use Rattle.std.specs.Cmp.Lexicographic.{nat_list_cmp_total}
use Rattle.std.proofs.lemmas.Map.Lookups.{exact_unsigned, exact_bytes}
use Rattle.std.specs.FinMap.{get, insert, remove, get-insert, get-remove}
use Rattle.hq_kept.specs.declared.message.Message.{Message}
use Rattle.hq_kept.specs.declared.message.Pending.{Pending}
use Rattle.hq_tables.specs.declared.change.Change.{Change}
use Rattle.hq_tables.specs.declared.change.Change.TheVariants.{PutMessage, DropMessage}
use Rattle.hq_owned.specs.Owned.{part_of}
use Rattle.hq_owned.proofs.Parts.{get_part, part_insert, part_insert_other, part_remove}
use Rattle.hq_owned.proofs.Parts.{part_remove_other, tied_true, tied_false}
use Rattle.hq_tables.specs.Tables.{State, Tables, Row, text_cmp, own, change, change_all, write}
use Rattle.hq_tables.specs.Tables.{write_all, row_of, pending_of, deal}
use Rattle.hq_tables.specs.Sound.{ShapedState, SoundState, ShapedRecipients, Shaped, Sound}
use Rattle.hq_isolation.specs.Fits.{AllFit}
use Rattle.hq_isolation.proofs.Dealt.{Recipients, IsPlaced, placed_same, placed_other_message}
use Rattle.hq_isolation.proofs.Dealt.{placed_other_owner, pending_same, pending_other_message}
use Rattle.hq_isolation.proofs.Dealt.{pending_other_owner}
use Rattle.hq_isolation.proofs.Own.{own_write_all, other_write_all}
use Rattle.hq_tables.proofs.Customers.{cases_name}
use Rattle.hq_isolation.proofs.Counted.{counts_stay}
use Rattle.hq_isolation.proofs.Reasons.{holds_write_all}
use Rattle.hq_isolation.proofs.States.{change_shaped}

placed_deal : (c : List ℕ) (k : ℕ) (ps : List Pending) (rs : Recipients) →
    ((d : List ℕ) (serial : ℕ) → IsPlaced d serial rs) → (d : List ℕ) (serial : ℕ) →
    IsPlaced d serial (deal c k ps rs)
placed_deal c k ps rs h d serial = ⊎_elim
    (λ (e : d ≡ c). ⊎_elim
    (λ (f : serial ≡ k). subst (λ x. IsPlaced x serial (deal c k ps rs)) (sym e)
    (subst (λ x. IsPlaced c x (deal c k ps rs)) (sym f) (placed_same c k ps rs)))
    (λ (f : serial ≢ k). subst (λ x. IsPlaced x serial (deal c k ps rs)) (sym e)
    (placed_other_message c k serial ps rs f (h c serial)))
    (cases_eq serial k))
    (λ (e : d ≢ c). placed_other_owner c d k serial ps rs e (h d serial))
    (cases_name d c)

abbrev NoOrphans : Tables → List ℕ → ℕ → Type 0
NoOrphans t c serial = get t.messages (c, serial) ≡ None → pending_of c serial t.recipients ≡ []

some_none : {A : Type 0} (a : A) → ◌≡◌ {A = Option A} (Some a) None → ⊥
some_none a e = cc

-- a change at another key, of another customer or another message, is not seen
module _ (c : List ℕ) (k : ℕ) (t : Tables) where
  abbrev Ms : List ℕ → ℕ → Option Row
  Ms d serial = get t.messages (d, serial)

  put_other_owner : (row : Row) (d : List ℕ) (serial : ℕ) → d ≢ c →
      get (insert t.messages (c, k) row) (d, serial) ≡ Ms d serial
  put_other_owner row d serial apart =
      sym (get_part nat_cmp nat_list_cmp_total d (insert t.messages (c, k) row) serial)
      ∙ ap (λ m. get m serial)
      (part_insert_other nat_list_cmp_total nat_cmp_total exact_bytes exact_unsigned c d
      t.messages k row apart)
      ∙ get_part nat_cmp nat_list_cmp_total d t.messages serial

  put_own : (row : Row) (serial : ℕ) →
      get (insert t.messages (c, k) row) (c, serial) ≡ cond (eq_by_cmp nat_cmp serial k) (Some row)
      (Ms c serial)
  put_own row serial =
      sym (get_part nat_cmp nat_list_cmp_total c (insert t.messages (c, k) row) serial)
      ∙ ap (λ m. get m serial)
      (part_insert nat_list_cmp_total nat_cmp_total exact_bytes exact_unsigned c t.messages k
      row)
      ∙ get-insert nat_cmp_total (part_of text_cmp c t.messages) k row serial
      ∙ ap (cond (eq_by_cmp nat_cmp serial k) (Some row))
      (get_part nat_cmp nat_list_cmp_total c t.messages serial)

  drop_other_owner : (d : List ℕ) (serial : ℕ) → d ≢ c →
      get (remove t.messages (c, k)) (d, serial) ≡ Ms d serial
  drop_other_owner d serial apart =
      sym (get_part nat_cmp nat_list_cmp_total d (remove t.messages (c, k)) serial)
      ∙ ap (λ m. get m serial)
      (part_remove_other nat_list_cmp_total nat_cmp_total exact_bytes exact_unsigned c d
      t.messages k apart)
      ∙ get_part nat_cmp nat_list_cmp_total d t.messages serial

  drop_own : (serial : ℕ) → get (remove t.messages (c, k)) (c, serial) ≡ cond
      (eq_by_cmp nat_cmp serial k) None (Ms c serial)
  drop_own serial =
      sym (get_part nat_cmp nat_list_cmp_total c (remove t.messages (c, k)) serial)
      ∙ ap (λ m. get m serial)
      (part_remove nat_list_cmp_total nat_cmp_total exact_bytes exact_unsigned c t.messages k)
      ∙ get-remove nat_cmp_total (part_of text_cmp c t.messages) k serial
      ∙ ap (cond (eq_by_cmp nat_cmp serial k) None)
      (get_part nat_cmp nat_list_cmp_total c t.messages serial)

tied_number : (k : ℕ) (serial : ℕ) → serial ≡ k → eq_by_cmp nat_cmp serial k ≡ true
tied_number k serial e = ap (eq_by_cmp nat_cmp serial) (sym e) ∙ tied_true nat_cmp_total serial

orphans_put : (c : List ℕ) (m : Message) (t : Tables) →
    ((d : List ℕ) (serial : ℕ) → NoOrphans t d serial) → (d : List ℕ) (serial : ℕ) →
    NoOrphans (write c (PutMessage m) t) d serial
orphans_put c m t h d serial none = ⊎_elim
    (λ (e : d ≡ c). ⊎_elim
    (λ (f : serial ≡ m.serial).
    absurd (some_none (row_of m) (sym (put_own c m.serial t (row_of m) serial
    ∙ ap (λ b. cond b (Some (row_of m)) (get t.messages (c, serial)))
    (tied_number m.serial serial f)) ∙ ap (λ x. get (insert t.messages (c, m.serial) (row_of m))
    (x, serial)) (sym e) ∙ none)))
    (λ (f : serial ≢ m.serial).
    let was : get t.messages (c, serial) ≡ None =
    sym (put_own c m.serial t (row_of m) serial ∙ ap
    (λ b. cond b (Some (row_of m)) (get t.messages (c, serial)))
    (tied_false exact_unsigned serial m.serial f)) ∙ ap
    (λ x. get (insert t.messages (c, m.serial) (row_of m)) (x, serial)) (sym e) ∙ none in
    ap (λ x. pending_of x serial (deal c m.serial m.pending t.recipients)) e
    ∙ pending_other_message c m.serial serial m.pending t.recipients f ∙ h c serial was)
    (cases_eq serial m.serial))
    (λ (e : d ≢ c). pending_other_owner c d m.serial serial m.pending t.recipients e
    ∙ h d serial (sym (put_other_owner c m.serial t (row_of m) d serial e) ∙ none))
    (cases_name d c)

orphans_drop : (c : List ℕ) (k : ℕ) (t : Tables) →
    ((d : List ℕ) (serial : ℕ) → NoOrphans t d serial) → (d : List ℕ) (serial : ℕ) →
    NoOrphans (write c (DropMessage k) t) d serial
orphans_drop c k t h d serial none = ⊎_elim
    (λ (e : d ≡ c). ⊎_elim
    (λ (f : serial ≡ k). (λ i. pending_of (e i) (f i) (deal c k [] t.recipients))
    ∙ pending_same c k [] t.recipients)
    (λ (f : serial ≢ k).
    let was : get t.messages (c, serial) ≡ None = sym (drop_own c k t serial
    ∙ ap (λ b. cond b None (get t.messages (c, serial))) (tied_false exact_unsigned serial k f))
    ∙ ap (λ x. get (remove t.messages (c, k)) (x, serial)) (sym e) ∙ none in
    ap (λ x. pending_of x serial (deal c k [] t.recipients)) e
    ∙ pending_other_message c k serial [] t.recipients f ∙ h c serial was)
    (cases_eq serial k))
    (λ (e : d ≢ c). pending_other_owner c d k serial [] t.recipients e
    ∙ h d serial (sym (drop_other_owner c k t d serial e) ∙ none))
    (cases_name d c)

dealt_write : (c : List ℕ) (ch : Change) (t : Tables) → ShapedRecipients t →
    ShapedRecipients (write c ch t)
dealt_write c (PutMessage m) t h = record {
  placed = placed_deal c m.serial m.pending t.recipients h.placed;
  no_orphans = orphans_put c m t h.no_orphans;
}
dealt_write c (DropMessage k) t h = record {
  placed = placed_deal c k [] t.recipients h.placed;
  no_orphans = orphans_drop c k t h.no_orphans;
}
dealt_write c _ t h = record { placed = h.placed; no_orphans = h.no_orphans }

dealt_write_all : (c : List ℕ) (chs : List Change) (t : Tables) → ShapedRecipients t →
    ShapedRecipients (write_all c chs t)
dealt_write_all c [] t h = h
dealt_write_all c (ch ∷ chs) t h = dealt_write_all c chs (write c ch t) (dealt_write c ch t h)

-- a state that each customer's has, after changes of one customer's rows
each : (P : State → Type 0) (c : List ℕ) (chs : List Change) (t : Tables) →
    P (change_all chs (own c t)) → ((d : List ℕ) → P (own d t)) → (d : List ℕ) →
    P (own d (write_all c chs t))
each P c chs t mine all d = ⊎_elim
    (λ (same : d ≡ c). subst (λ x. P (own x (write_all c chs t))) (sym same)
    (subst P (sym (own_write_all c chs t)) mine))
    (λ (apart : d ≢ c). subst P (sym (other_write_all c d chs t apart)) (all d))
    (cases_name d c)

-- fitting changes keep a state shaped
pub changes_shaped : (chs : List Change) (s : State) → ShapedState s → AllFit s chs →
    ShapedState (change_all chs s)
changes_shaped [] s h fit = h
changes_shaped (ch ∷ chs) s h fit = changes_shaped chs (change ch s) (change_shaped s ch h fit.0)
    fit.1

-- and the tables
pub stays_shaped : (c : List ℕ) (chs : List Change) (t : Tables) → Shaped t → AllFit (own c t) chs →
    Shaped (write_all c chs t)
stays_shaped c chs t h fit = record {
  states = each ShapedState c chs t (changes_shaped chs (own c t) (h.states c) fit) h.states;
  recipients = dealt_write_all c chs t h.recipients;
  holds = holds_write_all c chs t h.holds;
  counts = counts_stay c chs t h.counts;
}

-- tables stay sound where the customer's own state does
pub stays_sound : (c : List ℕ) (chs : List Change) (t : Tables) → Sound t →
    SoundState (change_all chs (own c t)) → Sound (write_all c chs t)
stays_sound c chs t h mine = record {
  states = each SoundState c chs t mine h.states;
  recipients = dealt_write_all c chs t h.recipients;
  holds = holds_write_all c chs t h.holds;
  counts = counts_stay c chs t h.counts;
}

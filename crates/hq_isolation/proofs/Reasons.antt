-- Reasons of messages: what is found after one was given, and that none is empty or without its
-- message.
use Rattle.std.proofs.Common.{◌≡◌, ◌≢◌, ℕ, ◌<◌, Bool, true, false, cond, List, [], ◌∷◌, length}
use Rattle.std.proofs.Common.{Option, Some, None, refl, sym, ap, ◌∙◌, subst, arith}
use Rattle.std.specs.Prelude.{unwrap_or}
use Rattle.std.specs.Ordering.{eq_by_cmp}
use Rattle.std.specs.FinMap.{FinMap, get, insert, remove, get-insert, get-remove}
use Rattle.hq_kept.specs.declared.message.Message.{Message}
use Rattle.hq_tables.specs.declared.change.Change.{Change}
use Rattle.hq_tables.specs.declared.change.Change.TheVariants.{PutMessage, DropMessage}
use Rattle.hq_owned.proofs.Parts.{tied_true, tied_false}
use Rattle.hq_tables.specs.Tables.{Tables, message_cmp, row_of, reason_of, give_reason, write}
use Rattle.hq_tables.specs.Tables.{write_all}
use Rattle.hq_tables.specs.Sound.{ShapedHolds}
use Rattle.hq_tables.proofs.Orders.{message_total, message_exact}
use Rattle.hq_owned.proofs.Cases.{none_some, same_some}

abbrev pub Holds : Type 0
Holds = FinMap message_cmp (List ℕ)

abbrev Key : Type 0
Key = List ℕ × ℕ

-- an empty reason is not kept
abbrev given_as : List ℕ → Option (List ℕ)
given_as [] = None
given_as (b ∷ reason) = Some (b ∷ reason)

got : (c : List ℕ) (serial : ℕ) (reason : List ℕ) (hs : Holds) (q : Key) →
    get (give_reason c serial reason hs) q ≡ cond (eq_by_cmp message_cmp q (c, serial))
    (given_as reason) (get hs q)
unfolding give_reason
got c serial [] hs q = get-remove message_total hs (c, serial) q
got c serial (b ∷ reason) hs q = get-insert message_total hs (c, serial) (b ∷ reason) q

told : (reason : List ℕ) → unwrap_or (given_as reason) [] ≡ reason
told [] = refl
told (b ∷ reason) = refl

pub reason_same : (c : List ℕ) (serial : ℕ) (reason : List ℕ) (hs : Holds) →
    reason_of c serial (give_reason c serial reason hs) ≡ reason
unfolding reason_of
reason_same c serial reason hs = ap (λ o. unwrap_or o []) (got c serial reason hs (c, serial)
    ∙ ap (λ b. cond b (given_as reason) (get hs (c, serial))) (tied_true message_total (c, serial)))
    ∙ told reason

other : (c : List ℕ) (serial : ℕ) (reason : List ℕ) (hs : Holds) (q : Key) → q ≢ (c, serial) →
    get (give_reason c serial reason hs) q ≡ get hs q
other c serial reason hs q apart = got c serial reason hs q
    ∙ ap (λ b. cond b (given_as reason) (get hs q)) (tied_false message_exact q (c, serial) apart)

pub reason_other_message : (c : List ℕ) (serial q : ℕ) (reason : List ℕ) (hs : Holds) → q ≢ serial →
    reason_of c q (give_reason c serial reason hs) ≡ reason_of c q hs
unfolding reason_of
reason_other_message c serial q reason hs apart = ap (λ o. unwrap_or o [])
    (other c serial reason hs (c, q) (λ e. apart (ap (λ (k : Key). k.1) e)))

pub reason_other_owner : (c d : List ℕ) (serial q : ℕ) (reason : List ℕ) (hs : Holds) → d ≢ c →
    reason_of d q (give_reason c serial reason hs) ≡ reason_of d q hs
unfolding reason_of
reason_other_owner c d serial q reason hs apart = ap (λ o. unwrap_or o [])
    (other c serial reason hs (d, q) (λ e. apart (ap (λ (k : Key). k.0) e)))

-- ---- none is empty, and each has its message

some_length : (reason x : List ℕ) → given_as reason ≡ Some x → 0 < length x
some_length [] x h = absurd (none_some x h)
some_length (b ∷ reason) x h = subst (λ y. 0 < length y) (same_some (b ∷ reason) x h) (omega arith)

some_given : (c : List ℕ) (serial : ℕ) (reason : List ℕ) (hs : Holds) (q : Key) (x : List ℕ) →
    (get hs q ≡ Some x → 0 < length x) → get (give_reason c serial reason hs) q ≡ Some x →
    0 < length x
some_given c serial reason hs q x was h =
    go (eq_by_cmp message_cmp q (c, serial)) (sym (got c serial reason hs q) ∙ h)
  where
    go : (b : Bool) → cond b (given_as reason) (get hs q) ≡ Some x → 0 < length x
    go true e = some_length reason x e
    go false e = was e

message_put : (c : List ℕ) (m : Message) (t : Tables) (q : Key) →
    (get t.messages q ≡ None → get t.holds q ≡ None) →
    get (insert t.messages (c, m.serial) (row_of m)) q ≡ None →
    get (give_reason c m.serial m.reason t.holds) q ≡ None
message_put c m t q was none =
    got c m.serial m.reason t.holds q ∙ go (eq_by_cmp message_cmp q (c, m.serial))
    (sym (get-insert message_total t.messages (c, m.serial) (row_of m) q) ∙ none)
  where
    go : (b : Bool) → cond b (Some (row_of m)) (get t.messages q) ≡ None →
        cond b (given_as m.reason) (get t.holds q) ≡ None
    go true e = absurd (none_some (row_of m) (sym e))
    go false e = was e

message_drop : (c : List ℕ) (k : ℕ) (t : Tables) (q : Key) →
    (get t.messages q ≡ None → get t.holds q ≡ None) → get (remove t.messages (c, k)) q ≡ None →
    get (give_reason c k [] t.holds) q ≡ None
message_drop c k t q was none =
    got c k [] t.holds q ∙ go (eq_by_cmp message_cmp q (c, k))
    (sym (get-remove message_total t.messages (c, k) q) ∙ none)
  where
    go : (b : Bool) → cond b None (get t.messages q) ≡ None →
        cond b (given_as []) (get t.holds q) ≡ None
    go true e = refl
    go false e = was e

holds_write : (c : List ℕ) (ch : Change) (t : Tables) → ShapedHolds t → ShapedHolds (write c ch t)
holds_write c (PutMessage m) t h = record {
  some_reason = λ d serial x e. some_given c m.serial m.reason t.holds (d, serial) x
      (h.some_reason d serial x) e;
  no_orphans = λ d serial none. message_put c m t (d, serial) (h.no_orphans d serial) none;
}
holds_write c (DropMessage k) t h = record {
  some_reason = λ d serial x e. some_given c k [] t.holds (d, serial) x (h.some_reason d serial x)
      e;
  no_orphans = λ d serial none. message_drop c k t (d, serial) (h.no_orphans d serial) none;
}
holds_write c _ t h = record { some_reason = h.some_reason; no_orphans = h.no_orphans }

pub holds_write_all : (c : List ℕ) (chs : List Change) (t : Tables) → ShapedHolds t →
    ShapedHolds (write_all c chs t)
holds_write_all c [] t h = h
holds_write_all c (ch ∷ chs) t h = holds_write_all c chs (write c ch t) (holds_write c ch t h)

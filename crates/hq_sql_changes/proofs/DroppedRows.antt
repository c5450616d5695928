-- What rows, recipients and reasons a deletion of each message of a customer leaves: those that
-- sets leave.
use Rattle.std.proofs.Common.{◌≡◌, ℕ, Bool, true, false, not, ◌&&◌, ◌||◌, cond, List, [], ◌∷◌}
use Rattle.std.proofs.Common.{Option, Some, None, refl, sym, ap, ap₂, ◌∙◌}
use Rattle.std.specs.Ordering.{nat_cmp, eq_by_cmp}
use Rattle.std.specs.Cmp.{nat_cmp_total, eq_by_cmp_equiv, tied_then}
use Rattle.std.specs.Cmp.Lexicographic.{nat_list_cmp_total}
use Rattle.std.specs.FinMap.{entries, find, get, remove, retain_keys, get-entries, get-remove}
use Rattle.std.specs.FinMap.{get-retain_keys, same_map}
use Rattle.std.proofs.lemmas.Map.Lookups.{CmpEqualImpliesEq, exact_bytes, exact_unsigned}
use Rattle.hq_kept.specs.declared.message.Message.{Message}
use Rattle.hq_kept.specs.declared.message.Pending.{Pending}
use Rattle.hq_owned.specs.Owned.{by_both, part_of}
use Rattle.hq_owned.proofs.Cases.{none_some}
use Rattle.hq_owned.proofs.Parts.{get_part, both_total, both_exact}
use Rattle.hq_tables.proofs.Orders.{message_total, message_exact}
use Rattle.hq_tables.specs.Readings.{messages_in}
use Rattle.hq_tables.specs.Sound.{Sound, numbered}
use Rattle.hq_tables.specs.Tables.{Tables, Row, text_cmp, message_cmp, recipient_cmp}
use Rattle.hq_tables.specs.Tables.{deal, give_reason}
use Rattle.hq_isolation.proofs.Dealt.{Recipients}
use Rattle.hq_isolation.proofs.Reasons.{Holds}
use Rattle.hq_sql_changes.proofs.EachMoved.{Messages, Key}
use Rattle.hq_sql_changes.proofs.MovedRows.{among, every, among_all, has_row}

abbrev Place : Type 0
Place = List ℕ × (ℕ × ℕ)

-- what is left of each table
abbrev pub rows_left : List ℕ → List Message → Messages → Messages
rows_left c [] rows = rows
rows_left c (m ∷ ms) rows = rows_left c ms (remove rows (c, m.serial))

abbrev pub reasons_left : List ℕ → List Message → Holds → Holds
reasons_left c [] hs = hs
reasons_left c (m ∷ ms) hs = reasons_left c ms (give_reason c m.serial [] hs)

abbrev pub recipients_left : List ℕ → List Message → Recipients → Recipients
recipients_left c [] rs = rs
recipients_left c (m ∷ ms) rs = recipients_left c ms (deal c m.serial [] rs)

over : {A : Type 0} (a b : Bool) (o : Option A) → cond a None (cond b None o) ≡ cond (b || a) None o
over true true o = refl
over true false o = refl
over false true o = refl
over false false o = refl

none_is : {A : Type 0} (b : Bool) → ◌≡◌ {A = Option A} (cond b None None) None
none_is true = refl
none_is false = refl

turned : {A : Type 0} (b : Bool) (o : Option A) → cond b None o ≡ cond (not b) o None
turned true o = refl
turned false o = refl

-- ---- at a key

rows_at : (c : List ℕ) (ms : List Message) (rows : Messages) (k : Key) →
    get (rows_left c ms rows) k ≡ cond (among c every k ms) None (get rows k)
rows_at c [] rows k = refl
rows_at c (m ∷ ms) rows k = rows_at c ms (remove rows (c, m.serial)) k
    ∙ ap (λ o. cond (among c every k ms) None o) (get-remove message_total rows (c, m.serial) k)
    ∙ over (among c every k ms) (eq_by_cmp message_cmp k (c, m.serial)) (get rows k)

reasons_at : (c : List ℕ) (ms : List Message) (hs : Holds) (k : Key) →
    get (reasons_left c ms hs) k ≡ cond (among c every k ms) None (get hs k)
unfolding give_reason
reasons_at c [] hs k = refl
reasons_at c (m ∷ ms) hs k = reasons_at c ms (remove hs (c, m.serial)) k
    ∙ ap (λ o. cond (among c every k ms) None o) (get-remove message_total hs (c, m.serial) k)
    ∙ over (among c every k ms) (eq_by_cmp message_cmp k (c, m.serial)) (get hs k)

-- the message of a place
abbrev of_message : Place → Key
of_message q = (q.0, q.1.0)

same_message : (c : List ℕ) (serial : ℕ) (q : Place) →
    (eq_by_cmp text_cmp c q.0 && eq_by_cmp nat_cmp serial q.1.0) ≡ eq_by_cmp message_cmp
    (of_message q) (c, serial)
same_message c serial q =
    ap₂ ◌&&◌ ((eq_by_cmp_equiv nat_list_cmp_total).symm c q.0)
    ((eq_by_cmp_equiv nat_cmp_total).symm serial q.1.0)
    ∙ tied_then (text_cmp q.0 c) (nat_cmp q.1.0 serial)

place_exact : CmpEqualImpliesEq recipient_cmp
place_exact = both_exact exact_bytes (both_exact exact_unsigned exact_unsigned)

dealt_at : (c : List ℕ) (serial : ℕ) (rs : Recipients) (q : Place) →
    get (deal c serial [] rs) q ≡ cond (eq_by_cmp message_cmp (of_message q) (c, serial)) None
    (get rs q)
unfolding deal
dealt_at c serial rs q =
    get-retain_keys rs mine q (λ x e. ap mine (sym (place_exact q x e)))
    ∙ sym (turned (eq_by_cmp text_cmp c q.0 && eq_by_cmp nat_cmp serial q.1.0) (get rs q))
    ∙ ap (λ b. cond b None (get rs q)) (same_message c serial q)
  where
    mine : Place → Bool
    mine k = not (eq_by_cmp text_cmp c k.0 && eq_by_cmp nat_cmp serial k.1.0)

recipients_at : (c : List ℕ) (ms : List Message) (rs : Recipients) (q : Place) →
    get (recipients_left c ms rs) q ≡ cond (among c every (of_message q) ms) None (get rs q)
recipients_at c [] rs q = refl
recipients_at c (m ∷ ms) rs q = recipients_at c ms (deal c m.serial [] rs) q
    ∙ ap (λ o. cond (among c every (of_message q) ms) None o) (dealt_at c m.serial rs q)
    ∙ over (among c every (of_message q) ms)
    (eq_by_cmp message_cmp (of_message q) (c, m.serial)) (get rs q)

-- ---- of all messages of a customer

abbrev pub others : {K : Type 0} → List ℕ → List ℕ × K → Bool
others c k = not (eq_by_cmp text_cmp c k.0)

module _ (c : List ℕ) (t : Tables) (sound : Sound t) where
  pub rows_gone : rows_left c (messages_in c t) t.messages ≡ retain_keys t.messages (others c)
  rows_gone = same_map message_total message_exact _ _ (λ k.
      rows_at c (messages_in c t) t.messages k
      ∙ go k (get t.messages k) refl
      ∙ sym (get-retain_keys t.messages (others c) k
      (λ x e. ap (others c) (sym (message_exact k x e)))))
    where
      go : (k : Key) (o : Option Row) → get t.messages k ≡ o →
          cond (among c every k (messages_in c t)) None o ≡ cond (others c k) o None
      go k None e = none_is (among c every k (messages_in c t)) ∙ sym (none_is (others c k))
      go k (Some r) e = ap (λ b. cond b None (Some r)) (among_all c t k r e)
          ∙ turned (eq_by_cmp text_cmp c k.0) (Some r)

  pub reasons_gone : reasons_left c (messages_in c t) t.holds ≡ retain_keys t.holds (others c)
  reasons_gone = same_map message_total message_exact _ _ (λ k.
      reasons_at c (messages_in c t) t.holds k
      ∙ go k (get t.holds k) refl
      ∙ sym (get-retain_keys t.holds (others c) k
      (λ x e. ap (others c) (sym (message_exact k x e)))))
    where
      go : (k : Key) (o : Option (List ℕ)) → get t.holds k ≡ o →
          cond (among c every k (messages_in c t)) None o ≡ cond (others c k) o None
      go k None e = none_is (among c every k (messages_in c t)) ∙ sym (none_is (others c k))
      go k (Some reason) e =
          let row = has_row c t sound k reason e in
          ap (λ b. cond b None (Some reason)) (among_all c t k row.0 row.1)
          ∙ turned (eq_by_cmp text_cmp c k.0) (Some reason)

  -- a recipient has its message
  has_message : (q : Place) (p : Pending) → get t.recipients q ≡ Some p →
      (r : Row) × (get t.messages (of_message q) ≡ Some r)
  has_message q p there = go (get t.messages (of_message q)) refl
    where
      go : (o : Option Row) → get t.messages (of_message q) ≡ o → (r : Row) × (o ≡ Some r)
      go (Some r) e = (r, refl)
      go None e = absurd (none_some p (sym gone ∙ there))
        where
          none : entries (part_of nat_cmp q.1.0 (part_of text_cmp q.0 t.recipients)) ≡ []
          none = sound.recipients.placed q.0 q.1.0
              ∙ ap (numbered 1) (sound.recipients.no_orphans q.0 q.1.0 e)

          gone : get t.recipients q ≡ None
          gone = sym (get_part (by_both nat_cmp nat_cmp) nat_list_cmp_total q.0 t.recipients q.1)
              ∙ sym (get_part nat_cmp nat_cmp_total q.1.0 (part_of text_cmp q.0 t.recipients) q.1.1)
              ∙ get-entries (part_of nat_cmp q.1.0 (part_of text_cmp q.0 t.recipients)) q.1.1
              ∙ ap (find nat_cmp q.1.1) none

  pub recipients_gone : recipients_left c (messages_in c t) t.recipients ≡ retain_keys t.recipients
      (others c)
  recipients_gone = same_map
      (both_total nat_list_cmp_total (both_total nat_cmp_total nat_cmp_total)) place_exact _ _ (λ q.
      recipients_at c (messages_in c t) t.recipients q
      ∙ go q (get t.recipients q) refl
      ∙ sym (get-retain_keys t.recipients (others c) q
      (λ x e. ap (others c) (sym (place_exact q x e)))))
    where
      go : (q : Place) (o : Option Pending) → get t.recipients q ≡ o →
          cond (among c every (of_message q) (messages_in c t)) None o ≡ cond (others c q) o None
      go q None e = none_is (among c every (of_message q) (messages_in c t))
          ∙ sym (none_is (others c q))
      go q (Some p) e =
          let row = has_message q p e in
          ap (λ b. cond b None (Some p)) (among_all c t (of_message q) row.0 row.1)
          ∙ turned (eq_by_cmp text_cmp c q.0) (Some p)

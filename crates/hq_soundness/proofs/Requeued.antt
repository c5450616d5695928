-- A requeue keeps a customer's state sound: the message goes, with its spool name and its room, and
-- comes under the next serial.
use Rattle.std.proofs.Common.{◌≡◌, ℕ, ◌-◌, ◌^◌, ◌<◌, ◌≤◌, Bool, true, false, cond, List, [], ◌∷◌}
use Rattle.std.proofs.Common.{map, length, refl, sym, ap, ◌∙◌, subst, Some, None, Option, arith}
use Rattle.std.specs.Prelude.{if◌then◌else◌, ◌==◌, is_some}
use Rattle.std.specs.List.{IsDistinct}
use Rattle.std.specs.Ordering.{nat_cmp, eq_by_cmp}
use Rattle.std.specs.Cmp.{nat_cmp_total}
use Rattle.std.specs.FinMap.{get, remove, len, get-remove, len-remove}
use Rattle.std.proofs.lemmas.List.{length-map}
use Rattle.std.proofs.lemmas.Bool.Decides.{nat_tests}
use Rattle.hq_values.specs.declared.failure.Refusal.TheVariants.{SerialsSpent}
use Rattle.hq_values.specs.Addresses.{same_address}
use Rattle.hq_rules.specs.Admission.{spent}
use Rattle.hq_rules.specs.Moves.{requeued, cleared}
use Rattle.hq_kept.specs.declared.message.Message.{Message}
use Rattle.hq_kept.specs.declared.message.Pending.{Pending}
use Rattle.hq_tables.specs.declared.change.Change.TheVariants.{PutHead, PutMessage, DropMessage}
use Rattle.hq_isolation.specs.Fits.{HeadFits, MessageFits}
use Rattle.hq_tables.specs.Sound.{SoundState, ShapedState, AreApart}
use Rattle.hq_tables.specs.Tables.{State, change, change_all}
use Rattle.hq_isolation.proofs.Conserved.{pending, pending_put, pending_drop}
use Rattle.hq_soundness.proofs.Shapes.{changes_shaped}
use Rattle.hq_owned.proofs.Cases.{none_some}
use Rattle.hq_isolation.proofs.States.{left}
use Rattle.hq_owned.proofs.Parts.{tied_true}
use Rattle.hq_owned.specs.Owned.{given}
use Rattle.hq_rules.specs.Answering.{refuse}
use Rattle.hq_rules.specs.Messages as rules
use Rattle.hq_rules.specs.declared.answer.Answer.TheVariants as answer
use Rattle.hq_soundness.proofs.Kept.{Keeps}

same_addresses : (ps : List Pending) → map (λ (p : Pending). p.address) (map cleared ps) ≡ map
    (λ (p : Pending). p.address) ps
same_addresses [] = refl
same_addresses (p ∷ ps) = ap (λ rest. p.address ∷ rest) (same_addresses ps)

cleared_apart : (ps : List Pending) → AreApart ps → AreApart (map cleared ps)
cleared_apart ps h = subst (IsDistinct same_address) (sym (same_addresses ps)) h

-- what stands in a queue after a drop does not stand at the dropped serial
not_dropped : (s : State) (k : ℕ) (m : Message) → get (remove s.messages k) k ≡ Some m → ⊥
not_dropped s k m f = none_some m (sym (get-remove nat_cmp_total s.messages k k
    ∙ ap (λ b. cond b None (get s.messages k)) (tied_true nat_cmp_total k)) ∙ f)

fewer : (b : Bool) (n : ℕ) → b ≡ true → n ≤ 1000 → cond b (n - 1) n < 1000
fewer true n e h = omega arith
fewer false n e h = absurd (cc)

-- nothing stands at the next serial
free : (s : State) → ShapedState s → (o : Option Message) → get s.messages s.head.next_serial ≡ o →
    o ≡ None
free s h None e = refl
free s h (Some m) e = let was = (h.messages s.head.next_serial m e).below in absurd (omega arith)

still_free : (b : Bool) (o : Option Message) → o ≡ None → cond b None o ≡ None
still_free true o e = refl
still_free false o e = e

requeued_sound : (s : State) (at : ℕ) (m : Message) → SoundState s →
    get s.messages m.serial ≡ Some m → s.head.next_serial < 2 ^ 40
    → SoundState (change_all (DropMessage m.serial ∷ PutHead (rules.next_head s.head)
    ∷ PutMessage (requeued at s.head.next_serial m) ∷ []) s)
requeued_sound s at m h there room =
    let n = requeued at s.head.next_serial m in
    let dropped = change (DropMessage m.serial) s in
    let raised = change (PutHead (rules.next_head s.head)) dropped in
    let was = h.shaped.messages m.serial m there in
    let next = h.shaped.next_serial in
    let many : length n.pending ≡ length m.pending = length-map m.pending cleared in
    let some = was.some_pending in
    let rises : HeadFits dropped (rules.next_head s.head) =
    record {
      next_serial = (omega arith, omega arith);
      next_notice = h.shaped.next_notice;
      above = λ k o f. let low = (h.shaped.messages k o (left s.messages m.serial k o f)).below in
          omega arith;
      above_notices = λ k o f. (h.shaped.notices k o f).1;
      above_ends = h.shaped.ends;
    } in
    let fits : MessageFits raised n = record {
      queued = record {
        own_serial = refl;
        positive = next.0;
        below = omega arith;
        some_pending = omega arith;
        apart = cleared_apart m.pending was.apart;
        right = refl;
      };
      spool = λ k o f e.
          let same : k ≡ m.serial = h.shaped.spools k m.serial o m (left s.messages m.serial k o f)
          there e in
          absurd (not_dropped s m.serial o (ap (get (remove s.messages m.serial)) (sym same) ∙ f));
      room = λ none. subst (λ x. x < 1000) (sym (len-remove nat_cmp_total s.messages m.serial))
          (fewer (is_some (get s.messages m.serial)) (len s.messages) (ap is_some there)
          h.shaped.few_messages);
    } in
    let gone = pending_drop s.messages m.serial in
    let old : given 0 pending (get s.messages m.serial) ≡ length m.pending =
    ap (given 0 pending) there in
    let put = pending_put dropped.messages n in
    let empty : given 0 pending (get dropped.messages n.serial) ≡ 0 =
    ap (given 0 pending) (get-remove nat_cmp_total s.messages m.serial n.serial
    ∙ still_free (eq_by_cmp nat_cmp n.serial m.serial) (get s.messages n.serial)
    (free s h.shaped (get s.messages n.serial) refl)) in
    let conserved = h.conserved in
    let bound = h.bounded in
    record {
      shaped = changes_shaped (DropMessage m.serial ∷ PutHead (rules.next_head s.head)
          ∷ PutMessage n ∷ []) s h.shaped (tt, (rises, (fits, tt)));
      conserved = omega arith;
      bounded = omega arith;
    }

room_for : (next : ℕ) → next ≤ 2 ^ 40 → (next == spent) ≡ false → next < 2 ^ 40
room_for next most e = grind (arith, nat_tests)

pub requeue_kept : (s : State) (at : ℕ) (m : Message) → SoundState s →
    get s.messages m.serial ≡ Some m → Keeps s (rules.requeue_with s.head at m)
requeue_kept s at m h there = cases (s.head.next_serial == spent) refl where
  cases : (b : Bool) → (s.head.next_serial == spent) ≡ b →
      Keeps s (if b then refuse SerialsSpent else
      record {
        answer = answer.Requeued s.head.next_serial;
        changes = DropMessage m.serial
            ∷ PutHead (rules.next_head s.head) ∷ PutMessage (requeued at s.head.next_serial m) ∷ [];
      })
  cases true e = h
  cases false e = requeued_sound s at m h there
      (room_for s.head.next_serial h.shaped.next_serial.1 e)

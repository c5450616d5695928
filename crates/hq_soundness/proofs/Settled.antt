-- Changes that take recipients, and then a head that tells of as many, keep a customer's state
-- sound; and so does a plan of them.
use Rattle.std.proofs.Common.{◌≡◌, ℕ, ◌+◌, ◌-◌, ◌*◌, ◌^◌, ◌<◌, ◌≤◌, Bool, true, false, length, List}
use Rattle.std.proofs.Common.{sym, refl, ap, ◌∙◌, subst, Some, arith}
use Rattle.std.specs.Prelude.{if◌then◌else◌, nat_lt}
use Rattle.std.specs.FinMap.{get}
use Rattle.std.proofs.lemmas.Bool.Decides.{nat_tests}
use Rattle.hq_values.specs.declared.failure.Refusal.TheVariants.{NoticesSpent}
use Rattle.hq_rules.specs.Admission.{spent}
use Rattle.hq_kept.specs.Tallies.{all_gone}
use Rattle.hq_kept.specs.declared.account.Entry.{Entry}
use Rattle.hq_kept.specs.declared.account.Head.{Head}
use Rattle.hq_kept.specs.declared.message.Message.{Message}
use Rattle.hq_tables.specs.declared.change.Change.TheVariants.{PutHead, PutMessage}
use Rattle.hq_tables.specs.Sound.{ShapedState, SoundState, IsReasoned, AreApart, IsNext}
use Rattle.hq_tables.specs.Tables.{State, change, change_all}
use Rattle.hq_isolation.proofs.Conserved.{pending, pending_put}
use Rattle.hq_isolation.proofs.Many.{Done}
use Rattle.hq_owned.proofs.Cases.{none_some}
use Rattle.hq_isolation.proofs.States.{change_shaped}
use Rattle.hq_owned.specs.Owned.{given}
use Rattle.hq_rules.specs.Answering.{refuse}
use Rattle.hq_rules.specs.Notices.{with_notices, planned, carried_out}
use Rattle.hq_rules.specs.declared.plan.Plan.{Plan}
use Rattle.hq_soundness.proofs.Kept.{Keeps}
use Rattle.hq_soundness.proofs.Noted.{planned_sound}

-- the tally with the recipients that are gone is far from the greatest number
pub taken_fits : (s after : State) (w : ℕ) → SoundState s → Done s after w →
    s.head.tally.delivered + s.head.tally.failed + s.head.tally.deleted + s.head.tally.expired + w <
    2 ^ 63
taken_fits s after w h done =
    let sums = done.sum in
    let was = h.conserved in
    let bound = h.bounded in
    let next = h.shaped.next_serial in
    omega arith

-- a head that tells of as many recipients more as are gone, and whose next notice is no smaller
settled_sound : (s after : State) (w : ℕ) (head : Head) → SoundState s → Done s after w
    → head.next_serial ≡ s.head.next_serial → IsNext head.next_notice →
    s.head.next_notice ≤ head.next_notice → head.tally.accepted ≡ s.head.tally.accepted
    → head.tally.delivered + head.tally.failed + head.tally.deleted + head.tally.expired ≡
    s.head.tally.delivered + s.head.tally.failed + s.head.tally.deleted + s.head.tally.expired +
    w
    → SoundState (change (PutHead head) after)
settled_sound s after w head h done serial notice later accepted told =
    let sums = done.sum in
    let was = h.conserved in
    let same : head.next_serial ≡ after.head.next_serial = serial
    ∙ ap (λ (x : Head). x.next_serial) (sym done.head) in
    let risen : after.head.next_notice ≤ head.next_notice =
    subst (λ (x : Head). x.next_notice ≤ head.next_notice) (sym done.head) later in
    record {
      shaped = change_shaped after (PutHead head) done.shaped (record {
        next_serial = subst IsNext (sym serial) h.shaped.next_serial;
        next_notice = notice;
        above = λ k n at. subst (λ x. k < x) (sym same) ((done.shaped.messages k n at).below);
        above_notices = λ k n at. let below = (done.shaped.notices k n at).1 in omega arith;
        above_ends = λ k n at. let below : k ≤ all_gone s.head.tally =
            subst (λ (x : Head). k ≤ all_gone x.tally) done.head (done.shaped.ends k n at) in
            omega arith;
      });
      conserved = omega arith;
      bounded = subst (λ (x : ℕ × ℕ). x.0 ≤ 100 * (x.1 - 1)) (λ i. (sym accepted i, sym serial i))
          h.bounded;
    }

-- where the number after the last notice is not past the last of all, it is one that a head may
-- have
room_left : (n : ℕ) → nat_lt spent n ≡ false → n ≤ 2 ^ 40
room_left n h = grind (arith, nat_tests)

-- a plan whose changes take as many recipients as its head tells of more
pub carried_out_kept : (host : List ℕ) (entry : Entry) (s : State) (at : ℕ) (plan : Plan) (w : ℕ) →
    SoundState s → Done s (change_all plan.changes s) w
    → plan.head.next_serial ≡ s.head.next_serial → plan.head.next_notice ≡ s.head.next_notice →
    plan.head.tally.accepted ≡ s.head.tally.accepted
    → plan.head.tally.delivered + plan.head.tally.failed + plan.head.tally.deleted +
    plan.head.tally.expired ≡ s.head.tally.delivered + s.head.tally.failed +
    s.head.tally.deleted + s.head.tally.expired + w
    → Keeps s (carried_out host entry at plan)
carried_out_kept host entry s at plan w h did serial notice accepted told =
    cases (nat_lt spent (plan.head.next_notice + length plan.drafts)) refl where
      cases : (b : Bool) → nat_lt spent (plan.head.next_notice + length plan.drafts) ≡ b →
          Keeps s (if b then refuse NoticesSpent else
          record { answer = plan.answer; changes = planned host entry at plan })
      cases true e = h
      cases false e =
          let after = change_all plan.changes s in
          let room = room_left (plan.head.next_notice + length plan.drafts) e in
          let next = h.shaped.next_notice in
          let same : after.head.next_notice ≡ plan.head.next_notice =
          ap (λ (x : Head). x.next_notice) did.head ∙ sym notice in
          planned_sound host entry at plan s (omega arith) (λ x n f. subst (λ k. x < k) same
          (did.shaped.notices x n f).1)
          (settled_sound s after w (with_notices (length plan.drafts) plan.head) h did serial
          (omega arith, omega arith) (omega arith) accepted told)

-- a message that is put with fewer recipients
pub put_fewer : (s : State) (m n : Message) (w : ℕ) → ShapedState s →
    get s.messages m.serial ≡ Some m → n.serial ≡ m.serial → n.spool ≡ m.spool →
    0 < length n.pending → AreApart n.pending → (IsReasoned m → IsReasoned n) →
    length n.pending + w ≡ length m.pending → Done s (change (PutMessage n) s) w
put_fewer s m n w h there serial spool some apart right fewer =
    let at : get s.messages n.serial ≡ Some m = ap (get s.messages) serial ∙ there in
    let was = h.messages n.serial m at in
    let put = pending_put s.messages n in
    let old : given 0 pending (get s.messages n.serial) ≡ length m.pending =
    ap (given 0 pending) at in
    record {
      shaped = change_shaped s (PutMessage n) h (record {
        queued = record {
          own_serial = refl;
          positive = was.positive;
          below = was.below;
          some_pending = some;
          apart = apart;
          right = right was.right;
        };
        spool = λ k o f e. h.spools k n.serial o m f at (e ∙ spool);
        room = λ none. absurd (none_some m (sym none ∙ at));
      });
      head = refl;
      sum = omega arith;
    }

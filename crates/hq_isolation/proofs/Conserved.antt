-- One message's change keeps a customer's state sound: put in place of another with as many
-- recipients, dropped, or queued anew.
use Rattle.std.proofs.Common.{◌≡◌, Option, ℕ, ◌+◌, ◌-◌, ◌*◌, ◌<◌, ◌≤◌, length, subst, sym}
use Rattle.std.proofs.Common.{refl, ap, Some, None, arith}
use Rattle.std.specs.FinMap.{FinMap, get, insert, remove, values}
use Rattle.std.specs.Ordering.{nat_cmp}
use Rattle.std.specs.Cmp.{nat_cmp_total}
use Rattle.std.proofs.lemmas.Map.Lookups.{exact_unsigned}
use Rattle.hq_kept.specs.declared.account.Head.{Head}
use Rattle.hq_kept.specs.declared.message.Message.{Message}
use Rattle.hq_tables.specs.declared.change.Change.TheVariants.{PutHead, DropMessage}
use Rattle.hq_owned.specs.Owned.{given}
use Rattle.hq_owned.proofs.Totals.{total-insert, total-remove}
use Rattle.hq_tables.specs.Tables.{State, change}
use Rattle.hq_tables.specs.Sound.{SoundState, IsNext, pending_count}
use Rattle.hq_isolation.proofs.States.{change_shaped}

abbrev Queue : Type 0
Queue = FinMap nat_cmp Message

abbrev pub pending : Message → ℕ
pending m = length m.pending

-- the pending recipients of a queue, after a put and after a drop
pub pending_put : (q : Queue) (m : Message) →
    pending_count (values (insert q m.serial m)) + given 0 pending (get q m.serial) ≡ pending_count
    (values q) + pending m
pending_put q m = total-insert nat_cmp_total exact_unsigned pending q m.serial m

pub pending_drop : (q : Queue) (k : ℕ) →
    pending_count (values (remove q k)) + given 0 pending (get q k) ≡ pending_count (values q)
pending_drop q k = total-remove nat_cmp_total exact_unsigned pending q k

-- a dropped message, whose recipients the new head tells as delivered, failed, deleted or expired
pub dropped_sound : (s : State) (m : Message) (head : Head) → SoundState s →
    get s.messages m.serial ≡ Some m
    → head.next_serial ≡ s.head.next_serial → IsNext head.next_notice →
    s.head.next_notice ≤ head.next_notice → head.tally.accepted ≡ s.head.tally.accepted
    → head.tally.delivered + head.tally.failed + head.tally.deleted + head.tally.expired ≡
    s.head.tally.delivered + s.head.tally.failed + s.head.tally.deleted + s.head.tally.expired +
    pending m
    → SoundState (change (PutHead head) (change (DropMessage m.serial) s))
dropped_sound s m head h there serial notice later accepted told =
    let drop = pending_drop s.messages m.serial in
    let old : given 0 pending (get s.messages m.serial) ≡ pending m = ap (given 0 pending) there in
    let was = h.conserved in
    let bound = h.bounded in
    let next = h.shaped.next_serial in
    let dropped = change_shaped s (DropMessage m.serial) h.shaped tt in
    record {
      shaped = change_shaped (change (DropMessage m.serial) s) (PutHead head) dropped (record {
        next_serial = subst IsNext (sym serial) next;
        next_notice = notice;
        above = λ k n at. subst (λ x. k < x) (sym serial) ((dropped.messages k n at).below);
        above_notices = λ k n at. let below = (dropped.notices k n at).1 in omega arith;
        above_ends = λ k n at. let below = dropped.ends k n at in omega arith;
      });
      conserved = omega arith;
      bounded = subst (λ (x : ℕ × ℕ). x.0 ≤ 100 * (x.1 - 1)) (λ i. (sym accepted i, sym serial i))
          bound;
    }

-- nothing stands at the next serial
free : (s : State) → SoundState s → get s.messages s.head.next_serial ≡ None
free s h = cases (get s.messages s.head.next_serial) refl where
  cases : (o : Option Message) → get s.messages s.head.next_serial ≡ o →
      get s.messages s.head.next_serial ≡ None
  cases None e = e
  cases (Some m) e = let below = (h.shaped.messages s.head.next_serial m e).below in
      absurd (omega arith)

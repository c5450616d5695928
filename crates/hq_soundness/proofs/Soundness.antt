-- The machine of one customer keeps its state sound, kind by kind.
use Rattle.std.proofs.Common.{◌≡◌, ℕ, ◌+◌, ◌<◌, Bool, true, false, List, [], length, sym, refl, ap}
use Rattle.std.proofs.Common.{◌∙◌, subst, Some, None, Option, arith}
use Rattle.std.specs.Prelude.{if◌then◌else◌, nat_le}
use Rattle.std.specs.Cmp.{nat_cmp_total}
use Rattle.std.specs.FinMap.{get, entries, len-entries}
use Rattle.std.proofs.lemmas.Map.Lookups.{exact_unsigned}
use Rattle.hq_values.specs.declared.failure.Refusal.TheVariants.{QuotaLines}
use Rattle.hq_kept.specs.declared.action.Action.{Action}
use Rattle.hq_kept.specs.declared.pattern.Class.{Class}
use Rattle.hq_kept.specs.declared.pattern.Line.{Line}
use Rattle.hq_kept.specs.Messages.{is_on_hold}
use Rattle.hq_rules.specs.Leaving.{all_ended}
use Rattle.hq_kept.specs.declared.account.Entry.{Entry}
use Rattle.hq_kept.specs.declared.outcome.Fate.TheVariants as fate
use Rattle.hq_values.specs.Words.{customer_hold}
use Rattle.hq_kept.specs.declared.message.Message.{Message}
use Rattle.hq_kept.specs.declared.message.Pending.{Pending}
use Rattle.hq_kept.specs.declared.message.QueueState.TheVariants.{Hold, Deferred}
use Rattle.hq_tables.specs.declared.change.Change.TheVariants.{PutHead, PutMessage, DropMessage}
use Rattle.hq_tables.specs.declared.change.Change.TheVariants.{DropLine}
use Rattle.hq_kept.specs.declared.notice.Notice.{Notice}
use Rattle.hq_isolation.specs.Fits.{HeadFits, MessageFits}
use Rattle.hq_tables.specs.Readings.{Readings, read_state, read_tables, saturated}
use Rattle.hq_tables.specs.Sound.{Sound, SoundState, IsReasoned, AreApart}
use Rattle.hq_tables.specs.Tables.{State, Tables, own, change, change_all}
use Rattle.hq_isolation.proofs.Read.{same_readings}
use Rattle.hq_soundness.proofs.Remembered.{history_sound}
use Rattle.hq_soundness.proofs.Shapes.{stays_sound}
use Rattle.hq_owned.proofs.Cases.{none_some}
use Rattle.hq_isolation.proofs.States.{change_shaped, left}
use Rattle.hq_owned.proofs.Totals.{total-insert, total-remove}
use Rattle.hq_owned.specs.Owned.{given}
use Rattle.hq_rules.specs.AccessLines as lines
use Rattle.hq_rules.specs.Answering.{tell, refuse}
use Rattle.hq_rules.specs.Decision.{decide}
use Rattle.hq_rules.specs.Machine.{step, shared}
use Rattle.hq_rules.specs.Messages as rules
use Rattle.hq_rules.specs.Notices.{show_notice}
use Rattle.hq_rules.specs.Outcomes.{outcome}
use Rattle.hq_rules.specs.declared.answer.Answer.TheVariants as answer
use Rattle.hq_rules.specs.declared.answer.LinePut.TheVariants.{Added, Changed, Same}
use Rattle.hq_rules.specs.Selections.{is_selected}
use Rattle.hq_rules.specs.declared.call.Call.{Call}
use Rattle.hq_rules.specs.declared.call.Call.TheVariants as call
use Rattle.hq_rules.specs.declared.decision.Decision.{Decision}
use Rattle.hq_rules.specs.declared.call.Move.TheVariants as move
use Rattle.hq_soundness.proofs.Attempted.{outcome_kept}
use Rattle.hq_soundness.proofs.Imported.{import_kept}
use Rattle.hq_soundness.proofs.Kept.{Keeps, saturated_is, quota_of, below_quota, set_kept}
use Rattle.hq_soundness.proofs.Queued.{submit_kept}
use Rattle.hq_soundness.proofs.Requeued.{requeue_kept}
use Rattle.hq_soundness.proofs.SweptRows.{sweep_kept}
use Rattle.hq_soundness.proofs.WholeQueues.{move_all_kept, delete_all_kept}

recipients : Message → ℕ
recipients m = length m.pending

-- a decision on one message: it is enough to look at a message that is there
on_found : (s : State) (serial : ℕ) (f : Option Message → Decision) → Keeps s (f None) →
    ((m : Message) → get s.messages serial ≡ Some m → Keeps s (f (Some m))) →
    Keeps s (f (get s.messages serial))
on_found s serial f none each = cases (get s.messages serial) refl where
  cases : (o : Option Message) → get s.messages serial ≡ o → Keeps s (f o)
  cases None e = none
  cases (Some m) e = each m e

own_place : (s : State) (serial : ℕ) (m : Message) → SoundState s → get s.messages serial ≡ Some m →
    get s.messages m.serial ≡ Some m
own_place s serial m h there = ap (get s.messages) (h.shaped.messages serial m there).own_serial
    ∙ there

-- ---- moves

-- a message that was moved has the same serial, spool name and recipients
moved_kept : (s : State) (o n : Message) → SoundState s → get s.messages o.serial ≡ Some o →
    n.serial ≡ o.serial → n.spool ≡ o.spool → n.pending ≡ o.pending → IsReasoned n →
    SoundState (change (PutMessage n) s)
moved_kept s o n h there serial spool pending right =
    let at : get s.messages n.serial ≡ Some o = ap (get s.messages) serial ∙ there in
    let was = h.shaped.messages n.serial o at in
    let fits : MessageFits s n = record {
      queued = record {
        own_serial = refl;
        positive = was.positive;
        below = was.below;
        some_pending = subst (λ (ps : List Pending). 0 < length ps) (sym pending)
            was.some_pending;
        apart = subst AreApart (sym pending) was.apart;
        right = right;
      };
      spool = λ k m f e. h.shaped.spools k n.serial m o f at (e ∙ spool);
      room = λ none. absurd (none_some o (sym none ∙ at));
    } in
    let sums = total-insert nat_cmp_total exact_unsigned (λ (x : Message). length x.pending)
    s.messages n.serial n in
    let old : given 0 (λ (x : Message). length x.pending) (get s.messages n.serial) ≡ length
    o.pending = ap (given 0 (λ (x : Message). length x.pending)) at in
    let same : length n.pending ≡ length o.pending = ap length pending in
    let was_conserved = h.conserved in
    record {
      shaped = change_shaped s (PutMessage n) h.shaped fits;
      conserved = omega arith;
      bounded = h.bounded;
    }

hold_kept : (s : State) (m : Message) (b : Bool) → SoundState s → get s.messages m.serial ≡ Some m →
    Keeps s (rules.moved (if b then None else Some
    (record m { state = Hold; reason = customer_hold })))
hold_kept s m true h there = h
hold_kept s m false h there = moved_kept s m _ h there refl refl refl refl

release_kept : (s : State) (m : Message) (at : ℕ) (b : Bool) → SoundState s →
    get s.messages m.serial ≡ Some m → Keeps s
    (rules.moved (if b then Some (record m { state = Deferred; reason = []; next_try = at }) else
    None))
release_kept s m at true h there = moved_kept s m _ h there refl refl refl refl
release_kept s m at false h there = h

-- a message is dropped, and the head tells that its recipients were deleted
gone_sound : (s : State) (m : Message) → SoundState s → get s.messages m.serial ≡ Some m →
    SoundState (change (PutHead (rules.with_deleted (length m.pending) s.head))
    (change (DropMessage m.serial) s))
gone_sound s m h there =
    let dropped = change (DropMessage m.serial) s in
    let head = rules.with_deleted (length m.pending) s.head in
    let sums = total-remove nat_cmp_total exact_unsigned (λ (x : Message). length x.pending)
    s.messages m.serial in
    let old : given 0 (λ (x : Message). length x.pending) (get s.messages m.serial) ≡ length
    m.pending = ap (given 0 (λ (x : Message). length x.pending)) there in
    let was = h.conserved in
    let bound = h.bounded in
    let next = h.shaped.next_serial in
    let exact : saturated (s.head.tally.deleted + length m.pending) ≡ s.head.tally.deleted + length
    m.pending = saturated_is (s.head.tally.deleted + length m.pending) (omega arith) in
    let fits : HeadFits dropped head =
    record {
      next_serial = h.shaped.next_serial;
      next_notice = h.shaped.next_notice;
      above = λ k n f. (h.shaped.messages k n (left s.messages m.serial k n f)).below;
      above_notices = λ k n f. (h.shaped.notices k n f).1;
      above_ends = λ k p f. let below = h.shaped.ends k p f in omega arith;
    } in
    record {
      shaped = change_shaped dropped (PutHead head)
          (change_shaped s (DropMessage m.serial) h.shaped tt) fits;
      conserved = omega arith;
      bounded = h.bounded;
    }

delete_kept : (s : State) (entry : Entry) (at : ℕ) (m : Message) → SoundState s →
    get s.messages m.serial ≡ Some m → Keeps s (rules.delete entry at s.head (Some m))
delete_kept s entry at m h there =
    let head = rules.with_deleted (length m.pending) s.head in
    history_sound entry at head (all_ended fate.Deleted m)
    (change (PutHead head) (change (DropMessage m.serial) s)) refl (gone_sound s m h there)

-- ---- lines

-- a line takes the place of one, or there is room
put_kept : (s : State) (entry : Entry) (line : Line) → SoundState s →
    Keeps s (lines.put_line entry.quota.lines (read_state s).counts.lines line
    (get s.lines line.pattern))
put_kept s entry line h = cases (get s.lines line.pattern) refl where
  over : (known : Action) (b : Bool) → get s.lines line.pattern ≡ Some known →
      Keeps s (if b then tell (answer.LinePut Same) else lines.set Changed line)
  over known true e = h
  over known false e = set_kept s line h (λ none. absurd (none_some known (sym none ∙ e)))

  beside : (b : Bool) → nat_le entry.quota.lines (length (entries s.lines)) ≡ b →
      Keeps s (if b then refuse QuotaLines else lines.set Added line)
  beside true e = h
  beside false e =
      let few = below_quota entry.quota.lines (length (entries s.lines)) e in
      let most = (quota_of entry).1 in
      let counted = len-entries s.lines in
      set_kept s line h (λ none. omega arith)

  cases : (o : Option Action) → get s.lines line.pattern ≡ o →
      Keeps s (lines.put_line entry.quota.lines (length (entries s.lines)) line o)
  cases (Some known) e = over known (lines.same_action known line.action) e
  cases None e = beside (nat_le entry.quota.lines (length (entries s.lines))) refl

drop_kept : (s : State) (pattern : Class × List ℕ) (found : Option Action) → SoundState s →
    Keeps s (lines.drop_line pattern found)
drop_kept s pattern None h = h
drop_kept s pattern (Some action) h = record {
  shaped = change_shaped s (DropLine pattern) h.shaped tt;
  conserved = h.conserved;
  bounded = h.bounded;
}

-- ---- notices

-- a notice that is told changes nothing
shown_kept : (s : State) (found : Option Notice) → SoundState s → Keeps s (show_notice found)
shown_kept s None h = h
shown_kept s (Some notice) h = h

-- ---- every kind

pub step_sound : (host : List ℕ) (entry : Entry) (s : State) (at : ℕ) (call : Call) → SoundState s →
    SoundState (step host entry s at call).1
unfolding decide
step_sound host entry s at (call.Submit sub) h = submit_kept s entry at sub h
step_sound host entry s at (call.List after which) h = h
step_sound host entry s at (call.Show serial) h = on_found s serial rules.show h (λ m there. h)
step_sound host entry s at (call.Hold serial) h =
    on_found s serial rules.hold h (λ m there. hold_kept s m (is_on_hold m.state) h
    (own_place s serial m h there))
step_sound host entry s at (call.Release serial) h =
    on_found s serial (rules.release at) h (λ m there. release_kept s m at (is_on_hold m.state) h
    (own_place s serial m h there))
step_sound host entry s at (call.Requeue serial) h =
    on_found s serial (rules.requeue s.head at) h (λ m there. requeue_kept s at m h
    (own_place s serial m h there))
step_sound host entry s at (call.Delete serial) h =
    on_found s serial (rules.delete entry at s.head) h (λ m there. delete_kept s entry at m h
    (own_place s serial m h there))
step_sound host entry s at (call.HoldAll which) h =
    move_all_kept (is_selected which) move.Hold s h
step_sound host entry s at (call.ReleaseAll which) h =
    move_all_kept (is_selected which) (move.Release at) s h
step_sound host entry s at (call.DeleteAll which) h =
    delete_all_kept (is_selected which) s entry at h
step_sound host entry s at (call.Lines after) h = h
step_sound host entry s at (call.PutLine line) h = put_kept s entry line h
step_sound host entry s at (call.DropLine pattern) h = drop_kept s pattern (get s.lines pattern) h
step_sound host entry s at (call.Check class who) h = h
step_sound host entry s at (call.Admit envelope) h = h
step_sound host entry s at (call.Import label file) h = import_kept s entry label file h
step_sound host entry s at (call.Outcome report) h =
    on_found s report.serial (outcome host entry at s.head report) h
    (λ m there. outcome_kept host entry s at report m h (own_place s report.serial m h there))
step_sound host entry s at (call.Due after) h = h
step_sound host entry s at call.Sweep h = sweep_kept host entry s at h
step_sound host entry s at (call.Notices after) h = h
step_sound host entry s at (call.Notice number) h = shown_kept s ((read_state s).notice number) h
step_sound host entry s at (call.History before) h = h
step_sound host entry s at (call.FindHistory pattern before) h = h
step_sound host entry s at call.Usage h = h
step_sound host entry s at call.Limits h = h
step_sound host entry s at (call.Report which) h = h

-- what holds of the machine holds of the shared step
pub shared_sound : (host : List ℕ) (entry : Entry) (t : Tables) (at : ℕ) (call : Call) → Sound t →
    Sound (shared host entry t at call).1
shared_sound host entry t at call h =
    let of = λ (r : Readings). decide host entry r at call in
    stays_sound entry.name (of (read_tables entry.name t)).changes t h
    (subst (λ (r : Readings). SoundState (change_all (of r).changes (own entry.name t)))
    (sym (same_readings entry.name t)) (step_sound host entry (own entry.name t) at call
    (h.states entry.name)))

-- Calls on all messages that pass a test keep a customer's state sound: each is put with the
-- recipients that it had, or all are dropped and the tally tells of them.
use Rattle.std.proofs.Common.{◌≡◌, ℕ, ◌+◌, ◌≤◌, Bool, true, false, not, List, [], ◌∷◌, map}
use Rattle.std.proofs.Common.{filter, length, refl, sym, ap, subst, Some, None, arith}
use Rattle.std.proofs.lemmas.List.Filters.{sum_by-filter_both}
use Rattle.std.specs.Prelude.{if◌then◌else◌, ◌==◌}
use Rattle.std.specs.List.{flat_map}
use Rattle.std.specs.FinMap.{get, values}
use Rattle.hq_values.specs.Words.{customer_hold}
use Rattle.hq_rules.specs.Leaving.{all_ended}
use Rattle.hq_kept.specs.Messages.{is_on_hold}
use Rattle.hq_kept.specs.declared.account.Entry.{Entry}
use Rattle.hq_kept.specs.declared.account.Head.{Head}
use Rattle.hq_kept.specs.declared.outcome.Fate.TheVariants as fate
use Rattle.hq_kept.specs.declared.message.Message.{Message}
use Rattle.hq_kept.specs.declared.message.QueueState.TheVariants as state
use Rattle.hq_tables.specs.Readings.{saturated}
use Rattle.hq_tables.specs.Sound.{SoundState, ShapedState, pending_count}
use Rattle.hq_tables.specs.Tables.{State, change, change_all}
use Rattle.hq_tables.specs.declared.change.Change.{Change}
use Rattle.hq_tables.specs.declared.change.Change.TheVariants.{PutHead}
use Rattle.hq_isolation.proofs.Many.{Does, change_all-append, does_nothing, does_put, does_drop}
use Rattle.hq_isolation.proofs.Many.{moved_sound, taken_sound}
use Rattle.hq_rules.specs.Answering.{tell}
use Rattle.hq_rules.specs.Histories.{kept_history}
use Rattle.hq_rules.specs.Messages.{with_deleted}
use Rattle.hq_rules.specs.Queues.{moved_by, put, move_all, drop, all_deleted, delete_all}
use Rattle.hq_rules.specs.declared.answer.Answer.TheVariants as answer
use Rattle.hq_rules.specs.declared.call.Move.{Move}
use Rattle.hq_rules.specs.declared.call.Move.TheVariants.{Hold, Release}
use Rattle.hq_soundness.proofs.Remembered.{history_sound}
use Rattle.hq_soundness.proofs.Kept.{Keeps, saturated_is}

-- ---- hold and release of all

-- a move of one message takes no recipient
move_does : (move : Move) (s : State) (m : Message) → ShapedState s →
    get s.messages m.serial ≡ Some m → Does s (change_all (put (moved_by move m)) s) m 0
move_does Hold s m h there = cases (is_on_hold m.state) where
  cases : (b : Bool) → Does s (change_all (put (if b then None else
      Some (record m { state = state.Hold; reason = customer_hold }))) s) m 0
  cases true = does_nothing s m h
  cases false = does_put s m (record m { state = state.Hold; reason = customer_hold }) h there refl
      refl refl (λ right. refl)
move_does (Release at) s m h there = cases (is_on_hold m.state) where
  cases : (b : Bool) → Does s (change_all (put (if b then
      Some (record m { state = state.Deferred; reason = []; next_try = at }) else None)) s) m 0
  cases true = does_put s m (record m { state = state.Deferred; reason = []; next_try = at }) h
      there refl refl refl (λ right. refl)
  cases false = does_nothing s m h

-- so all that pass a test take none
pub move_all_kept : (p : Message → Bool) (move : Move) (s : State) → SoundState s →
    Keeps s (move_all move (filter p (values s.messages)))
move_all_kept p move s h = moved_sound p (λ m. put (moved_by move m)) s (move_does move) h

-- ---- the deletion of all

-- each is dropped by a change of its own
drops_each : (ms : List Message) → map drop ms ≡ flat_map (λ m. drop m ∷ []) ms
drops_each [] = refl
drops_each (m ∷ ms) = ap (λ rest. drop m ∷ rest) (drops_each ms)

-- those that pass a test have no more recipients than all
no_more : (p : Message → Bool) (ms : List Message) →
    pending_count (filter p ms) ≤ pending_count ms
no_more p ms = let both = sum_by-filter_both p (λ m. not (p m)) (λ m. refl)
    (λ (m : Message). length m.pending) ms in omega arith

dropped_sound : (p : Message → Bool) (s : State) → SoundState s →
    (let ms = filter p (values s.messages) in
    SoundState (change (PutHead (with_deleted (pending_count ms) s.head))
    (change_all (map drop ms) s)))
dropped_sound p s h =
    let ms = filter p (values s.messages) in
    let head = with_deleted (pending_count ms) s.head in
    let part = no_more p (values s.messages) in
    let was = h.conserved in
    let bound = h.bounded in
    let next = h.shaped.next_serial in
    let exact : saturated (s.head.tally.deleted + pending_count ms) ≡ s.head.tally.deleted +
    pending_count ms = saturated_is (s.head.tally.deleted + pending_count ms) (omega arith) in
    subst (λ (cs : List Change). SoundState (change (PutHead head) (change_all cs s)))
    (sym (drops_each ms))
    (taken_sound p (λ m. drop m ∷ []) (λ m. length m.pending) s head
    (λ u m shaped there. does_drop u m shaped there) h refl h.shaped.next_notice (omega arith)
    refl (omega arith))

pub delete_all_kept : (p : Message → Bool) (s : State) (entry : Entry) (at : ℕ) → SoundState s →
    Keeps s (delete_all entry at s.head (filter p (values s.messages)))
delete_all_kept p s entry at h = cases (length ms == 0) where
  ms : List Message
  ms = filter p (values s.messages)

  head : Head
  head = with_deleted (pending_count ms) s.head

  past : List Change
  past = kept_history entry at head (flat_map (all_ended fate.Deleted) ms)

  cases : (b : Bool) → Keeps s (if b then tell (answer.Changed 0) else
      all_deleted entry at head ms)
  cases true = h
  cases false = subst SoundState (sym (change_all-append (map drop ms) (PutHead head ∷ past) s))
      (history_sound entry at head (flat_map (all_ended fate.Deleted) ms)
      (change (PutHead head) (change_all (map drop ms) s)) refl (dropped_sound p s h))

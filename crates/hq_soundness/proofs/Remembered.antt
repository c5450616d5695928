-- What is kept of recipients that left the queue keeps a customer's state sound: no number is above
-- that of the last who is gone.
use Rattle.std.proofs.Common.{◌≡◌, ℕ, ◌-◌, ◌≤◌, List, [], ◌∷◌, sym, subst, arith}
use Rattle.hq_kept.specs.Tallies.{all_gone, last_gone}
use Rattle.hq_kept.specs.declared.account.Entry.{Entry}
use Rattle.hq_kept.specs.declared.account.Head.{Head}
use Rattle.hq_kept.specs.declared.account.Tally.{Tally}
use Rattle.hq_kept.specs.declared.outcome.Ended.{Ended}
use Rattle.hq_tables.specs.declared.change.Change.TheVariants.{PutEnds, DropEndsTo}
use Rattle.hq_kept.specs.declared.end.Ends.{Ends}
use Rattle.hq_tables.specs.Sound.{SoundState}
use Rattle.hq_tables.specs.Tables.{State, change, change_all}
use Rattle.hq_isolation.proofs.States.{change_shaped}
use Rattle.hq_rules.specs.Histories.{last_of, put_to, remembered, kept_history}

-- ends up to the number of one who is gone
put_sound : (s : State) (ends : Ends) → SoundState s → ends.last ≤ all_gone s.head.tally →
    SoundState (change (PutEnds ends) s)
put_sound s ends h gone = record {
  shaped = change_shaped s (PutEnds ends) h.shaped gone;
  conserved = h.conserved;
  bounded = h.bounded;
}

ends_sound : (at last : ℕ) (es : List Ended) (s : State) → SoundState s →
    last ≤ all_gone s.head.tally → SoundState (change_all (put_to at last es) s)
ends_sound at last [] s h gone = h
ends_sound at last (e ∷ es) s h gone =
    put_sound s (record { last = last; at = at; ended = e ∷ es }) h gone

-- the drop of old ends
drop_sound : (s : State) (number : ℕ) → SoundState s → SoundState (change (DropEndsTo number) s)
drop_sound s number h = record {
  shaped = change_shaped s (DropEndsTo number) h.shaped tt;
  conserved = h.conserved;
  bounded = h.bounded;
}

remembered_sound : (history at last : ℕ) (es : List Ended) (s : State) → SoundState s →
    last ≤ all_gone s.head.tally → SoundState (change_all (remembered history at last es) s)
remembered_sound history at last [] s h gone = h
remembered_sound history at last (e ∷ es) s h gone =
    ends_sound at last (last_of history (e ∷ es)) (change (DropEndsTo (last - history)) s)
    (drop_sound s (last - history) h) gone

last_in : (t : Tally) → last_gone t ≤ all_gone t
last_in t = omega arith

-- by the head that the state has
pub history_sound : (entry : Entry) (at : ℕ) (head : Head) (es : List Ended) (s : State) →
    s.head ≡ head → SoundState s → SoundState (change_all (kept_history entry at head es) s)
history_sound entry at head es s is h =
    remembered_sound entry.history at (last_gone head.tally) es s h
    (subst (λ (x : Head). last_gone head.tally ≤ all_gone x.tally) (sym is) (last_in head.tally))

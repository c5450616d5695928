use Rattle.std.proofs.Common.{◌≡◌, ℕ, Bool, true, false, List, refl}
use Rattle.std.specs.FinMap.{get}
use Rattle.hq_kept.specs.declared.account.Entry.{Entry}
use Rattle.hq_tables.specs.Sound.{SoundState}
use Rattle.hq_tables.specs.Tables.{State}
use Rattle.hq_rules.specs.Decision.{decide}
use Rattle.hq_rules.specs.Machine.{step}
use Rattle.hq_rules.specs.Selections.{is_selected}
use Rattle.hq_rules.specs.declared.call.Call.{Call}
use Rattle.hq_rules.specs.declared.call.Call.TheVariants as call
use Rattle.hq_soundness.proofs.Soundness.{step_sound}
use Rattle.hq_laws.specs.Leaving.{lets_go}
use Rattle.hq_laws.proofs.Among.{among}
use Rattle.hq_laws.proofs.There.{pending_or_told}
use Rattle.hq_laws.proofs.LeftInCalls.{Tells, delete_tells, delete_all_tells, outcome_tells}
use Rattle.hq_laws.proofs.LeftInSweeps.{sweep_tells}
use Rattle.hq_laws.proofs.departures.each_who_left_is_told.Goals as goal

no : {X : Type 0} → ◌≡◌ {A = Bool} false true → X
no h = absurd (differ h) where
  differ : ◌≡◌ {A = Bool} false true → ⊥
  differ h = cc

tells : (host : List ℕ) (entry : Entry) (s : State) (at : ℕ) (asked : Call) → SoundState s →
    lets_go asked ≡ true → Tells entry at s (step host entry s at asked).1
unfolding decide
tells host entry s at (call.Delete serial) sound h =
    delete_tells entry at s serial sound (get s.messages serial) refl
tells host entry s at (call.DeleteAll which) sound h =
    delete_all_tells entry at s (is_selected which) sound
tells host entry s at (call.Outcome report) sound h =
    outcome_tells host entry at s report sound (get s.messages report.serial) refl
tells host entry s at call.Sweep sound h = sweep_tells host entry at s sound
tells host entry s at (call.Submit sub) sound h = no h
tells host entry s at (call.List after which) sound h = no h
tells host entry s at (call.Show serial) sound h = no h
tells host entry s at (call.Hold serial) sound h = no h
tells host entry s at (call.Release serial) sound h = no h
tells host entry s at (call.Requeue serial) sound h = no h
tells host entry s at (call.HoldAll which) sound h = no h
tells host entry s at (call.ReleaseAll which) sound h = no h
tells host entry s at (call.Lines after) sound h = no h
tells host entry s at (call.PutLine line) sound h = no h
tells host entry s at (call.DropLine pattern) sound h = no h
tells host entry s at (call.Check class who) sound h = no h
tells host entry s at (call.Admit envelope) sound h = no h
tells host entry s at (call.Import label file) sound h = no h
tells host entry s at (call.Due after) sound h = no h
tells host entry s at (call.Notices after) sound h = no h
tells host entry s at (call.Notice number) sound h = no h
tells host entry s at (call.History before) sound h = no h
tells host entry s at (call.FindHistory pattern before) sound h = no h
tells host entry s at call.Usage sound h = no h
tells host entry s at call.Limits sound h = no h
tells host entry s at (call.Report which) sound h = no h

pub returns : goal.returns
returns c = λ host entry s at asked sound goes history serial m p stands there.
    let after = (step host entry s at asked).1 in
    pending_or_told s after at serial p.address (tells host entry s at asked sound goes
    (step_sound host entry s at asked sound) history serial m p stands (among p m.pending there))

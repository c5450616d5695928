-- Every call remembers those who left in it; so what is told stays told until it goes, and the
-- newest are told.
use Rattle.std.proofs.Common.{◌≡◌, ◌⊎◌, inl, inr, ⊎_elim, ℕ, ◌+◌, ◌-◌, ◌<◌, ◌≤◌, true, List, []}
use Rattle.std.proofs.Common.{◌∷◌}
use Rattle.std.proofs.Common.{length, sym, ap, ◌∙◌, Some, None, filter, arith}
use Rattle.std.specs.Prelude.{is_some}
use Rattle.std.specs.FinMap.{get, values}
use Rattle.hq_kept.specs.Tallies.{all_gone}
use Rattle.std.specs.List.{All}
use Rattle.std.proofs.lemmas.List.Elements.{All-filter}
use Rattle.hq_kept.specs.declared.account.Entry.{Entry}
use Rattle.hq_kept.specs.declared.message.Message.{Message}
use Rattle.hq_kept.specs.declared.outcome.Ended.{Ended}
use Rattle.hq_tables.specs.Readings.{read_state}
use Rattle.hq_tables.specs.Sound.{SoundState}
use Rattle.hq_tables.specs.Tables.{State, Past, change_all}
use Rattle.hq_rules.specs.Decision.{decide}
use Rattle.hq_rules.specs.Histories.{remembered}
use Rattle.hq_rules.specs.Machine.{step}
use Rattle.hq_rules.specs.Selections.{is_selected}
use Rattle.hq_rules.specs.declared.call.Call.{Call}
use Rattle.hq_rules.specs.declared.call.Call.TheVariants as call
use Rattle.hq_rules.specs.declared.call.Move.TheVariants as move
use Rattle.hq_soundness.proofs.Soundness.{step_sound}
use Rattle.hq_laws.proofs.Beside.{itself, hold_leaves, release_leaves}
use Rattle.hq_laws.proofs.Beside.{requeue_leaves, show_leaves, submit_leaves}
use Rattle.hq_laws.proofs.Beside.{show_notice_leaves, put_leaves, drop_leaves}
use Rattle.hq_laws.proofs.Beside.{import_leaves, move_all_leaves}
use Rattle.hq_laws.proofs.Kept.{goes, stays, comes, told}
use Rattle.hq_laws.specs.Queued.{WasQueued}
use Rattle.hq_laws.proofs.Past.{Remembers, nobody}
use Rattle.hq_laws.proofs.Queued.{Stands, all_stand}
use Rattle.hq_laws.proofs.Leaving.{delete_remembers, delete_all_remembers}
use Rattle.hq_laws.proofs.Leaving.{outcome_remembers}
use Rattle.hq_laws.proofs.Leaving.{sweep_remembers}

-- ---- every kind of call

found_stands : (s : State) (serial : ℕ) → SoundState s → (m : Message) →
    get s.messages serial ≡ Some m → Stands s.messages m
found_stands s serial sound m found =
    ap (get s.messages) (sound.shaped.messages serial m found).own_serial ∙ found

remembers : (host : List ℕ) (entry : Entry) (s : State) (at : ℕ) (asked : Call) →
    SoundState s → SoundState (step host entry s at asked).1 →
    Remembers entry.history at s (step host entry s at asked).1
unfolding decide
remembers host entry s at (call.Submit sub) sound h = nobody entry.history at s _
    (submit_leaves s entry at sub ((read_state s).by_spool sub.spool))
remembers host entry s at (call.List after which) sound h = nobody entry.history at s s (itself s)
remembers host entry s at (call.Show serial) sound h = nobody entry.history at s _
    (show_leaves s (get s.messages serial))
remembers host entry s at (call.Hold serial) sound h = nobody entry.history at s _
    (hold_leaves s (get s.messages serial))
remembers host entry s at (call.Release serial) sound h = nobody entry.history at s _
    (release_leaves s at (get s.messages serial))
remembers host entry s at (call.Requeue serial) sound h = nobody entry.history at s _
    (requeue_leaves s at (get s.messages serial))
remembers host entry s at (call.Delete serial) sound h =
    delete_remembers s entry at (get s.messages serial) (found_stands s serial sound) h
remembers host entry s at (call.HoldAll which) sound h = nobody entry.history at s _
    (move_all_leaves s move.Hold (filter (is_selected which) (values s.messages)))
remembers host entry s at (call.ReleaseAll which) sound h = nobody entry.history at s _
    (move_all_leaves s (move.Release at) (filter (is_selected which) (values s.messages)))
remembers host entry s at (call.DeleteAll which) sound h =
    delete_all_remembers s entry at (filter (is_selected which) (values s.messages))
    (All-filter (is_selected which) (Stands s.messages) (values s.messages) (all_stand s sound)) h
remembers host entry s at (call.Lines after) sound h = nobody entry.history at s s (itself s)
remembers host entry s at (call.PutLine line) sound h = nobody entry.history at s _
    (put_leaves s entry.quota.lines (read_state s).counts.lines line (get s.lines line.pattern))
remembers host entry s at (call.DropLine pattern) sound h = nobody entry.history at s _
    (drop_leaves s pattern (get s.lines pattern))
remembers host entry s at (call.Check class who) sound h = nobody entry.history at s s (itself s)
remembers host entry s at (call.Admit envelope) sound h = nobody entry.history at s s (itself s)
remembers host entry s at (call.Import label file) sound h = nobody entry.history at s _
    (import_leaves s entry.quota.lines label file (get s.marks label))
remembers host entry s at (call.Outcome report) sound h =
    outcome_remembers host entry s at report (get s.messages report.serial)
    (found_stands s report.serial sound) h
remembers host entry s at (call.Due after) sound h = nobody entry.history at s s (itself s)
remembers host entry s at call.Sweep sound h =
    sweep_remembers host entry s at (values s.messages) (all_stand s sound) h
remembers host entry s at (call.Notices after) sound h = nobody entry.history at s s (itself s)
remembers host entry s at (call.Notice number) sound h = nobody entry.history at s _
    (show_notice_leaves s ((read_state s).notice number))
remembers host entry s at (call.History before) sound h = nobody entry.history at s s (itself s)
remembers host entry s at (call.FindHistory pattern before) sound h =
    nobody entry.history at s s (itself s)
remembers host entry s at call.Usage sound h = nobody entry.history at s s (itself s)
remembers host entry s at call.Limits sound h = nobody entry.history at s s (itself s)
remembers host entry s at (call.Report which) sound h = nobody entry.history at s s (itself s)

done : (host : List ℕ) (entry : Entry) (s : State) (at : ℕ) (asked : Call) → SoundState s →
    Remembers entry.history at s (step host entry s at asked).1
done host entry s at asked h = remembers host entry s at asked h
    (step_sound host entry s at asked h)

-- ---- the laws

-- a new end: its number is above all that were given, its moment is the call's, and it tells of a
-- recipient that was pending
abbrev pub IsNew : State → ℕ → ℕ → Past → Type 0
IsNew s at n p = (all_gone s.head.tally < n) × (p.at ≡ at) × WasQueued s p.ended

-- of what is remembered, by those who left
stays_by : (history at : ℕ) (s t : State) (gone : List Ended) →
    all_gone t.head.tally ≡ all_gone s.head.tally + length gone → All (WasQueued s) gone →
    t.ends ≡ (change_all (remembered history at (all_gone t.head.tally) gone) s).ends →
    (n : ℕ) (p : Past) → get t.ends n ≡ Some p → (get s.ends n ≡ Some p) ⊎ IsNew s at n p
stays_by history at s t [] counted were kept n p h = inl (ap (λ m. get m n) (sym kept) ∙ h)
stays_by history at s t (e ∷ es) counted were kept n p h =
    let last = all_gone t.head.tally in
    ⊎_elim (λ (old : get s.ends n ≡ Some p). inl old)
    (λ (new : (last - length (e ∷ es) < n) × (p.at ≡ at) × WasQueued s p.ended).
    inr (by_count new.0, new.1, new.2))
    (told history at last e es s (omega arith) (WasQueued s) n p were
    (ap (λ m. get m n) (sym kept) ∙ h))
  where
    by_count : all_gone t.head.tally - length (e ∷ es) < n → all_gone s.head.tally < n
    by_count high = omega arith

pub told_stays : (host : List ℕ) (entry : Entry) (s : State) (at : ℕ) (asked : Call) (n : ℕ)
    (p : Past) → SoundState s → get (step host entry s at asked).1.ends n ≡ Some p →
    (get s.ends n ≡ Some p) ⊎ IsNew s at n p
told_stays host entry s at asked n p h =
    let r = done host entry s at asked h in
    stays_by entry.history at s (step host entry s at asked).1 r.gone r.counted r.were r.kept n p

-- as many have left as before, or more
pub never_fewer : (host : List ℕ) (entry : Entry) (s : State) (at : ℕ) (asked : Call) →
    SoundState s → all_gone s.head.tally ≤ all_gone (step host entry s at asked).1.head.tally
never_fewer host entry s at asked h =
    let r = done host entry s at asked h in
    let counted = r.counted in
    omega arith

same_by : (history at : ℕ) (s t : State) (gone : List Ended) →
    all_gone t.head.tally ≡ all_gone s.head.tally + length gone →
    t.ends ≡ (change_all (remembered history at (all_gone t.head.tally) gone) s).ends →
    all_gone t.head.tally ≡ all_gone s.head.tally → t.ends ≡ s.ends
same_by history at s t [] counted kept same = kept
same_by history at s t (e ∷ es) counted kept same = absurd (omega arith)

pub nobody_left : (host : List ℕ) (entry : Entry) (s : State) (at : ℕ) (asked : Call) →
    SoundState s →
    all_gone (step host entry s at asked).1.head.tally ≡ all_gone s.head.tally →
    (step host entry s at asked).1.ends ≡ s.ends
nobody_left host entry s at asked h =
    let r = done host entry s at asked h in
    same_by entry.history at s (step host entry s at asked).1 r.gone r.counted r.kept

-- what is told after a call in which somebody left
abbrev pub Newest : ℕ → State → State → ℕ → Type 0
Newest history s t n = let last = all_gone t.head.tally in
    (n ≤ last - history → get t.ends n ≡ None)
    × (last - history < n → n ≤ all_gone s.head.tally → get t.ends n ≡ get s.ends n)
    × (last - history < n → all_gone s.head.tally < n → n ≤ last → is_some (get t.ends n) ≡ true)

newest_by : (history at : ℕ) (s t : State) (gone : List Ended) →
    all_gone t.head.tally ≡ all_gone s.head.tally + length gone →
    t.ends ≡ (change_all (remembered history at (all_gone t.head.tally) gone) s).ends →
    all_gone s.head.tally < all_gone t.head.tally → (n : ℕ) → Newest history s t n
newest_by history at s t [] counted kept some n = absurd (omega arith)
newest_by history at s t (e ∷ es) counted kept some n =
    let last = all_gone t.head.tally in (
      λ low. ap (λ m. get m n) kept ∙ goes history at last e es s (omega arith) n low,
      λ high before. ap (λ m. get m n) kept
          ∙ stays history at last e es s (omega arith) n high (omega arith),
      λ high behind upto. ap (λ m. is_some (get m n)) kept
          ∙ comes history at last e es s (omega arith) n high (omega arith) upto,
    )

pub newest_told : (host : List ℕ) (entry : Entry) (s : State) (at : ℕ) (asked : Call) →
    SoundState s →
    all_gone s.head.tally < all_gone (step host entry s at asked).1.head.tally → (n : ℕ) →
    Newest entry.history s (step host entry s at asked).1 n
newest_told host entry s at asked h =
    let r = done host entry s at asked h in
    newest_by entry.history at s (step host entry s at asked).1 r.gone r.counted r.kept

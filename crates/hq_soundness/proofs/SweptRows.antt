-- A sweep keeps a customer's state sound: each message is dropped, put with a warning, or left
-- alone.
use Rattle.std.proofs.Common.{◌≡◌, ℕ, ◌+◌, Bool, true, false, List, [], ◌∷◌, map, refl, sym, ap}
use Rattle.std.proofs.Common.{◌∙◌, subst, Some, arith}
use Rattle.std.specs.Prelude.{if◌then◌else◌, ◌==◌, ◌&&◌}
use Rattle.std.specs.List.{sum_by, flat_map}
use Rattle.std.specs.FinMap.{get, values}
use Rattle.std.proofs.lemmas.List.Folds.{flat_map-map}
use Rattle.std.proofs.lemmas.List.Sums.{sum_by-cons}
use Rattle.hq_rules.specs.Ages.{swept, after_sweep}
use Rattle.hq_kept.specs.declared.account.Entry.{Entry}
use Rattle.hq_kept.specs.declared.message.Message.{Message}
use Rattle.hq_rules.specs.declared.swept.Swept.{Swept}
use Rattle.hq_rules.specs.declared.swept.Swept.TheVariants.{Expired, Warned, Untouched}
use Rattle.hq_tables.specs.Readings.{saturated}
use Rattle.hq_tables.specs.Sound.{SoundState, ShapedState}
use Rattle.hq_tables.specs.Tables.{State, change_all}
use Rattle.hq_isolation.proofs.Many.{Does, Done, each_done, stand_values, does_nothing, does_put}
use Rattle.hq_isolation.proofs.Many.{does_drop}
use Rattle.hq_rules.specs.Answering.{tell}
use Rattle.hq_rules.specs.Notices.{carried_out}
use Rattle.hq_rules.specs.Sweeps.{message_met, changed_by, given_up, messages_that, swept_all}
use Rattle.hq_rules.specs.Sweeps.{sweep}
use Rattle.hq_rules.specs.declared.answer.Answer.TheVariants as answer
use Rattle.hq_soundness.proofs.Kept.{Keeps, saturated_is}
use Rattle.hq_soundness.proofs.Settled.{taken_fits, carried_out_kept}

-- a sum over rows that were made one from each is a sum over what they were made from
sum_by_made : {X Y : Type 0} (f : Y → ℕ) (g : X → Y) (xs : List X) →
    sum_by f (map g xs) ≡ sum_by (λ x. f (g x)) xs
sum_by_made f g [] = refl
sum_by_made f g (x ∷ xs) = sum_by-cons f (g x) (map g xs)
    ∙ ap (λ n. f (g x) + n) (sum_by_made f g xs) ∙ sym (sum_by-cons (λ y. f (g y)) x xs)

-- one message: as many recipients are gone as are given up
met_does : (s : State) (m : Message) (v : Swept) → ShapedState s → get s.messages m.serial ≡ Some m
    → Does s (change_all (changed_by (after_sweep v m, v)) s) m (given_up (after_sweep v m, v))
met_does s m Expired h there = does_drop s m h there
met_does s m Warned h there = does_put s m (record m { warned = true }) h there refl refl refl
    (λ right. right)
met_does s m Untouched h there = does_nothing s m h

-- all of them: as many recipients are gone as are given up together
rows_done : (at delay : ℕ) (s : State) → SoundState s →
    (let rows = map (message_met at delay) (values s.messages) in
    Done s (change_all (flat_map changed_by rows) s) (sum_by given_up rows))
rows_done at delay s h =
    let ms = values s.messages in
    let did = each_done (λ m. changed_by (message_met at delay m))
    (λ m. given_up (message_met at delay m))
    (λ u m shaped there. met_does u m (swept at delay m) shaped there) ms s h.shaped
    (stand_values s.messages (λ k m f. (h.shaped.messages k m f).own_serial)) in
    subst (λ cs. Done s (change_all cs s) (sum_by given_up (map (message_met at delay) ms)))
    (sym (flat_map-map changed_by (message_met at delay) ms))
    (subst (λ w. Done s (change_all (flat_map (λ m. changed_by (message_met at delay m)) ms) s) w)
    (sym (sum_by_made given_up (message_met at delay) ms)) did)

-- a sweep, whether it changes a message or none
pub sweep_kept : (host : List ℕ) (entry : Entry) (s : State) (at : ℕ) → SoundState s →
    Keeps s (sweep host entry at s.head (values s.messages))
sweep_kept host entry s at h = cases (expired == 0 && warned == 0) where
  rows : List (Message × Swept)
  rows = map (message_met at entry.delay) (values s.messages)

  expired : ℕ
  expired = messages_that Expired rows

  warned : ℕ
  warned = messages_that Warned rows

  cases : (b : Bool) → Keeps s (if b then
      tell (answer.Swept (record { expired = 0; notices = 0; warned = 0 })) else
      carried_out host entry at (swept_all s.head rows expired warned))
  cases true = h
  cases false =
      let w = sum_by given_up rows in
      let did = rows_done at entry.delay s h in
      let fits = taken_fits s (change_all (flat_map changed_by rows) s) w h did in
      let exact : saturated (s.head.tally.expired + w) ≡ s.head.tally.expired + w =
      saturated_is (s.head.tally.expired + w) (omega arith) in
      carried_out_kept host entry s at (swept_all s.head rows expired warned) w h did refl refl refl
      (omega arith)

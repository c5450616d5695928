-- A sweep: whoever left is told.
use Rattle.std.proofs.Common.{◌≡◌, inl, inr, ℕ, ◌+◌, ◌^◌, ◌<◌, Bool, true}
use Rattle.std.proofs.Common.{false, cond, List, [], ◌∷◌, ◌++◌, map, filter, length, refl, sym, ap}
use Rattle.std.proofs.Common.{◌∙◌}
use Rattle.std.proofs.Common.{subst, Some, None, Option, arith}
use Rattle.std.specs.Prelude.{◌==◌, ◌&&◌, if◌then◌else◌, option_and_then}
use Rattle.std.specs.List.{flat_map, sum_by}
use Rattle.std.specs.List as lists
use Rattle.std.specs.FinMap.{get, values}
use Rattle.std.proofs.lemmas.List.{length-append, length-map}
use Rattle.std.proofs.lemmas.List.Sums.{sum_by-cons}
use Rattle.hq_owned.specs.Owned.{given}
use Rattle.hq_kept.specs.Tallies.{all_gone}
use Rattle.hq_kept.specs.declared.account.Entry.{Entry}
use Rattle.hq_kept.specs.declared.account.Head.{Head}
use Rattle.hq_kept.specs.declared.message.Message.{Message}
use Rattle.hq_kept.specs.declared.outcome.Ended.{Ended}
use Rattle.hq_kept.specs.declared.outcome.Fate.TheVariants as fate
use Rattle.hq_tables.specs.Sound.{SoundState}
use Rattle.hq_tables.specs.Tables.{State, change_all}
use Rattle.hq_rules.specs.Answering.{tell}
use Rattle.hq_rules.specs.Leaving.{all_ended}
use Rattle.hq_rules.specs.Notices.{carried_out}
use Rattle.hq_rules.specs.Sweeps.{message_met, changed_by, given_up, ended_in, messages_that}
use Rattle.hq_rules.specs.Sweeps.{with_expired, swept_all, sweep}
use Rattle.hq_rules.specs.declared.answer.Answer.TheVariants as answer
use Rattle.hq_laws.proofs.Among.{Among}
use Rattle.hq_isolation.proofs.Many.{stand_values}
use Rattle.hq_laws.proofs.Standing.{at_serial, each_at, picked, pick}
use Rattle.std.specs.Prelude.{unwrap_or}
use Rattle.hq_rules.specs.Ages.{swept, after_sweep}
use Rattle.hq_rules.specs.declared.swept.Swept.{Swept}
use Rattle.hq_rules.specs.declared.swept.Swept.TheVariants.{Expired, Warned, Untouched}
use Rattle.hq_laws.proofs.Standing.{one_put}
use Rattle.hq_laws.proofs.Standing.{one_drop}
use Rattle.hq_laws.proofs.LeftOrPending.{some_left, among_left}
use Rattle.hq_laws.proofs.LeftOrPending.{among_right}
use Rattle.hq_laws.proofs.LeftInCalls.{Tells, carried_out_tells, unchanged}

rows_counted : (rows : List (Message × Swept)) →
    length (flat_map ended_in rows) ≡ sum_by given_up rows
rows_counted [] = refl
rows_counted ((m, Expired) ∷ rows) =
    let one : length (all_ended fate.Expired m) ≡ length m.pending = length-map m.pending _ in
    length-append (all_ended fate.Expired m) (flat_map ended_in rows)
    ∙ (λ i. one i + rows_counted rows i) ∙ sym (sum_by-cons given_up (m, Expired) rows)
rows_counted ((m, Warned) ∷ rows) =
    let rest = rows_counted rows in
    let cons = sum_by-cons given_up (m, Warned) rows in
    omega arith
rows_counted ((m, Untouched) ∷ rows) =
    let rest = rows_counted rows in
    let cons = sum_by-cons given_up (m, Untouched) rows in
    omega arith

expired_more : (n : ℕ) (head : Head) → all_gone (with_expired n head).tally < 2 ^ 63 →
    all_gone (with_expired n head).tally ≡ all_gone head.tally + n
expired_more n head few = omega arith

abbrev is_expired : Swept → Bool
is_expired Expired = true
is_expired Warned = false
is_expired Untouched = false

-- what a sweep leaves of a message
abbrev left_of : Swept → Message → Option Message
left_of Expired m = None
left_of Warned m = Some (record m { warned = true })
left_of Untouched m = Some m

module _ (at delay : ℕ) where
  abbrev goes : Message → Bool
  goes m = is_expired (swept at delay m)

  all_pass : (ms : List Message) → filter (λ m. true) ms ≡ ms
  all_pass [] = refl
  all_pass (m ∷ ms) = ap (λ xs. m ∷ xs) (all_pass ms)

  met_each : (ms : List Message) → flat_map (λ m. changed_by (message_met at delay m)) ms ≡
      flat_map changed_by (map (message_met at delay) ms)
  met_each [] = refl
  met_each (m ∷ ms) = ap (λ cs. changed_by (message_met at delay m) ++ cs) (met_each ms)

  swept_told : (ms : List Message) (m : Message) (e : Ended) → Among m (filter goes ms) →
      Among e (all_ended fate.Expired m) →
      Among e (flat_map ended_in (map (message_met at delay) ms))
  swept_told [] m e h k = absurd h
  swept_told (x ∷ ms) m e h k = by (swept_told ms m e) (swept at delay x) h where
    by : (Among m (filter goes ms) → Among e (all_ended fate.Expired m) →
        Among e (flat_map ended_in (map (message_met at delay) ms))) → (w : Swept) →
        Among m (cond (is_expired w) (x ∷ filter goes ms) (filter goes ms)) →
        Among e (ended_in (after_sweep w x, w)
        ++ flat_map ended_in (map (message_met at delay) ms))
    by rest Expired (inl same) = among_left e (all_ended fate.Expired x)
        (flat_map ended_in (map (message_met at delay) ms))
        (subst (λ (y : Message). Among e (all_ended fate.Expired y)) same k)
    by rest Expired (inr more) = among_right e (all_ended fate.Expired x)
        (flat_map ended_in (map (message_met at delay) ms)) (rest more k)
    by rest Warned h = rest h k
    by rest Untouched h = rest h k

  one_swept : (s : State) (m : Message) → get s.messages m.serial ≡ Some m → (k : ℕ) →
      get (change_all (changed_by (message_met at delay m)) s).messages k ≡
      cond (m.serial == k) (left_of (swept at delay m) m) (get s.messages k)
  one_swept s m stands k = by (swept at delay m) where
    by : (w : Swept) → get (change_all (changed_by (after_sweep w m, w)) s).messages k ≡
        cond (m.serial == k) (left_of w m) (get s.messages k)
    by Expired = one_drop s m stands k
    by Warned = one_put s m stands k (Some (record m { warned = true })) (λ n is. same n is)
      where
        same : (n : Message) → Some (record m { warned = true }) ≡ Some n → n.serial ≡ m.serial
        same n is = ap (λ o. (unwrap_or o n).serial) (sym is)
    by Untouched = one_put s m stands k None (λ n is. absurd (none_some is))
      where
        none_some : {x : Message} → ◌≡◌ {A = Option Message} None (Some x) → ⊥
        none_some h = cc

  stays_swept : (s : State) → SoundState s → (k : ℕ) (m : Message) →
      get s.messages k ≡ Some m → goes m ≡ false →
      (n : Message) × (get (change_all (flat_map changed_by
      (map (message_met at delay) (values s.messages))) s).messages k ≡ Some n)
      × (n.pending ≡ m.pending)
  stays_swept s sound k m found stays = by (swept at delay m) stays after where
    own : (k : ℕ) (m : Message) → get s.messages k ≡ Some m → m.serial ≡ k
    own k m f = (sound.shaped.messages k m f).own_serial

    after : get (change_all (flat_map changed_by
        (map (message_met at delay) (values s.messages))) s).messages k ≡
        left_of (swept at delay m) m
    after = ap (λ cs. get (change_all cs s).messages k) (sym (met_each (values s.messages)))
        ∙ each_at (λ m. changed_by (message_met at delay m))
        (λ m. left_of (swept at delay m) m) one_swept (values s.messages) s
        (stand_values s.messages own) k
        ∙ ap (given (get s.messages k) (λ m. left_of (swept at delay m) m))
        (ap (lists.find (at_serial k)) (sym (all_pass (values s.messages)))
        ∙ picked s.messages own (λ m. true) k ∙ ap (option_and_then (pick (λ m. true))) found)

    by : (w : Swept) → is_expired w ≡ false →
        get (change_all (flat_map changed_by
        (map (message_met at delay) (values s.messages))) s).messages k ≡ left_of w m →
        (n : Message) × (get (change_all (flat_map changed_by
        (map (message_met at delay) (values s.messages))) s).messages k ≡ Some n)
        × (n.pending ≡ m.pending)
    by Expired is e = absurd (true_false is)
      where
        true_false : ◌≡◌ {A = Bool} true false → ⊥
        true_false h = cc
    by Warned is e = (record m { warned = true }, e, refl)
    by Untouched is e = (m, e, refl)

pub sweep_tells : (host : List ℕ) (entry : Entry) (at : ℕ) (s : State) → SoundState s →
    Tells entry at s (change_all (sweep host entry at s.head (values s.messages)).changes s)
sweep_tells host entry at s sound = cases (expired == 0 && warned == 0) where
  rows : List (Message × Swept)
  rows = map (message_met at entry.delay) (values s.messages)

  expired : ℕ
  expired = messages_that Expired (map (message_met at entry.delay) (values s.messages))

  warned : ℕ
  warned = messages_that Warned (map (message_met at entry.delay) (values s.messages))

  cases : (b : Bool) → (let d = if b then
      tell (answer.Swept (record { expired = 0; notices = 0; warned = 0 })) else
      carried_out host entry at (swept_all s.head
      (map (message_met at entry.delay) (values s.messages)) expired warned) in
      Tells entry at s (change_all d.changes s))
  cases true = unchanged entry at s
  cases false = carried_out_tells host entry s at (swept_all s.head
      (map (message_met at entry.delay) (values s.messages)) expired warned)
      (some_left s (change_all (flat_map changed_by
      (map (message_met at entry.delay) (values s.messages))) s) sound.shaped
      (goes at entry.delay) fate.Expired
      (flat_map ended_in (map (message_met at entry.delay) (values s.messages)))
      (swept_told at entry.delay (values s.messages)) (stays_swept at entry.delay s sound))
      (λ few. expired_more
      (sum_by given_up (map (message_met at entry.delay) (values s.messages))) s.head few
      ∙ ap (λ k. all_gone s.head.tally + k)
      (sym (rows_counted (map (message_met at entry.delay) (values s.messages)))))

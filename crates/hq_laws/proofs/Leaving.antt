-- Each call remembers those who left the queue in it, under the numbers that the tally gives them.
use Rattle.std.proofs.Common.{◌≡◌, ℕ, ◌+◌, ◌^◌, ◌<◌, Bool, true, false, List, [], ◌∷◌, ◌++◌}
use Rattle.std.proofs.Common.{map, length, refl, sym, ap, ◌∙◌, subst, Some, None, Option, Ok, Err}
use Rattle.std.proofs.Common.{arith}
use Rattle.std.specs.Prelude.{if◌then◌else◌, ◌==◌, ◌&&◌, suc, cond, nat_le, nat_lt}
use Rattle.std.specs.List.{All, flat_map, sum_by, cons_option, list_any}
use Rattle.std.proofs.lemmas.List.{length-append, length-map}
use Rattle.std.proofs.lemmas.List.Sums.{sum_by-cons}
use Rattle.hq_values.specs.declared.failure.Refusal.TheVariants as refusal
use Rattle.hq_rules.specs.Admission.{spent}
use Rattle.hq_rules.specs.Attempts.{ended, ended_with, failed, told_with, delivered, delivered_with}
use Rattle.hq_rules.specs.Attempts.{deferred, outcome_of, done, after_attempt, is_doubled}
use Rattle.hq_rules.specs.Attempts.{is_unknown, ended_by, told_by, is_delivered}
use Rattle.hq_kept.specs.Tallies.{all_gone}
use Rattle.hq_rules.specs.Leaving.{all_ended}
use Rattle.hq_kept.specs.declared.account.Entry.{Entry}
use Rattle.hq_kept.specs.declared.account.Head.{Head}
use Rattle.hq_kept.specs.declared.message.Message.{Message}
use Rattle.hq_kept.specs.declared.message.Pending.{Pending}
use Rattle.hq_kept.specs.declared.outcome.Delivery.{Delivery}
use Rattle.hq_kept.specs.declared.outcome.Delivery.TheVariants as delivery
use Rattle.hq_kept.specs.declared.outcome.Told.{Told}
use Rattle.hq_kept.specs.declared.outcome.Ended.{Ended}
use Rattle.hq_kept.specs.declared.outcome.Fate.TheVariants as fate
use Rattle.hq_kept.specs.declared.outcome.Outcome.{Outcome}
use Rattle.hq_kept.specs.declared.outcome.Reported.TheVariants as reported
use Rattle.hq_rules.specs.declared.swept.Swept.{Swept}
use Rattle.hq_rules.specs.declared.swept.Swept.TheVariants.{Expired, Warned, Untouched}
use Rattle.hq_tables.specs.Sound.{SoundState, pending_count}
use Rattle.hq_tables.specs.declared.change.Change.{Change}
use Rattle.hq_tables.specs.declared.change.Change.TheVariants.{PutHead, DropMessage, AddNotice}
use Rattle.hq_tables.specs.Tables.{State, change, change_all}
use Rattle.hq_isolation.proofs.Many.{change_all-append}
use Rattle.hq_rules.specs.Answering.{tell, refuse}
use Rattle.hq_rules.specs.Histories.{kept_history}
use Rattle.hq_rules.specs.Messages as messages
use Rattle.hq_rules.specs.Notices.{noticed, added_from, kept_below, with_notices, planned}
use Rattle.hq_rules.specs.Notices.{carried_out}
use Rattle.hq_rules.specs.Outcomes.{put_or_dropped, with_attempted, attempted, outcome_with}
use Rattle.hq_rules.specs.Outcomes.{outcome}
use Rattle.hq_rules.specs.Queues as queues
use Rattle.hq_rules.specs.Sweeps.{message_met, changed_by, given_up, ended_in, messages_that}
use Rattle.hq_rules.specs.Sweeps.{with_expired, swept_all, sweep}
use Rattle.hq_rules.specs.declared.answer.Answer.TheVariants as answer
use Rattle.hq_rules.specs.declared.call.AttemptReport.{AttemptReport}
use Rattle.hq_rules.specs.declared.plan.Draft.{Draft}
use Rattle.hq_rules.specs.declared.plan.Plan.{Plan}
use Rattle.hq_laws.specs.Queued.{WasQueued}
use Rattle.hq_laws.proofs.Queued.{Stands, all_were, each_were, rows_were, attempt_were}
use Rattle.hq_laws.proofs.Past.{Remembers, nobody, remembers_past, few_after}

-- ---- deletion

deleted_more : (n : ℕ) (head : Head) →
    all_gone (messages.with_deleted n head).tally < 2 ^ 63 →
    all_gone (messages.with_deleted n head).tally ≡ all_gone head.tally + n
deleted_more n head few = omega arith

pub delete_remembers : (s : State) (entry : Entry) (at : ℕ) (o : Option Message) →
    ((m : Message) → o ≡ Some m → Stands s.messages m) →
    SoundState (change_all (messages.delete entry at s.head o).changes s) →
    Remembers entry.history at s (change_all (messages.delete entry at s.head o).changes s)
delete_remembers s entry at None stands h =
    nobody entry.history at s s (record { ends = refl; gone = refl })
delete_remembers s entry at (Some m) stands h =
    let head = messages.with_deleted (length m.pending) s.head in
    let es = all_ended fate.Deleted m in
    let t = change (PutHead head) (change (DropMessage m.serial) s) in
    let few = few_after entry at head es t refl h in
    let many : length es ≡ length m.pending = length-map m.pending _ in
    remembers_past entry at head es s t refl refl few
    (deleted_more (length m.pending) s.head few
    ∙ ap (λ n. all_gone s.head.tally + n) (sym many))
    (all_were s fate.Deleted m (stands m refl))

drops_ends : (ms : List Message) (s : State) → (change_all (map queues.drop ms) s).ends ≡ s.ends
drops_ends [] s = refl
drops_ends (m ∷ ms) s = drops_ends ms (change (queues.drop m) s)

all_counted : (ms : List Message) →
    length (flat_map (all_ended fate.Deleted) ms) ≡ pending_count ms
all_counted [] = refl
all_counted (m ∷ ms) =
    let one : length (all_ended fate.Deleted m) ≡ length m.pending = length-map m.pending _ in
    length-append (all_ended fate.Deleted m) (flat_map (all_ended fate.Deleted) ms)
    ∙ (λ i. one i + all_counted ms i)
    ∙ sym (sum_by-cons (λ (x : Message). length x.pending) m ms)

pub delete_all_remembers : (s : State) (entry : Entry) (at : ℕ) (ms : List Message) →
    All (Stands s.messages) ms →
    SoundState (change_all (queues.delete_all entry at s.head ms).changes s) →
    Remembers entry.history at s (change_all (queues.delete_all entry at s.head ms).changes s)
delete_all_remembers s entry at ms stand = cases (length ms == 0) where
  head : Head
  head = messages.with_deleted (pending_count ms) s.head

  es : List Ended
  es = flat_map (all_ended fate.Deleted) ms

  past : List Change
  past = kept_history entry at head es

  t : State
  t = change (PutHead head) (change_all (map queues.drop ms) s)

  parts : change_all (map queues.drop ms ++ PutHead head ∷ past) s ≡ change_all past t
  parts = change_all-append (map queues.drop ms) (PutHead head ∷ past) s

  some : SoundState (change_all (map queues.drop ms ++ PutHead head ∷ past) s) →
      Remembers entry.history at s (change_all (map queues.drop ms ++ PutHead head ∷ past) s)
  some h =
      let few = few_after entry at head es t refl (subst SoundState parts h) in
      subst (Remembers entry.history at s) (sym parts)
      (remembers_past entry at head es s t (drops_ends ms s) refl few
      (deleted_more (pending_count ms) s.head few
      ∙ ap (λ n. all_gone s.head.tally + n) (sym (all_counted ms)))
      (each_were s fate.Deleted ms stand))

  cases : (b : Bool) → SoundState (change_all (if b then tell (answer.Changed 0) else
      queues.all_deleted entry at head ms).changes s) →
      Remembers entry.history at s (change_all (if b then tell (answer.Changed 0) else
      queues.all_deleted entry at head ms).changes s)
  cases true h = nobody entry.history at s s (record { ends = refl; gone = refl })
  cases false h = some h

-- ---- plans

made_head : (host : List ℕ) (at k : ℕ) (ds : List Draft) (s : State) →
    (change_all (added_from host at k ds) s).head ≡ s.head
made_head host at k [] s = refl
made_head host at k (d ∷ ds) s =
    made_head host at (suc k) ds (change (AddNotice (noticed host at k d)) s)

made_ends : (host : List ℕ) (at k : ℕ) (ds : List Draft) (s : State) →
    (change_all (added_from host at k ds) s).ends ≡ s.ends
made_ends host at k [] s = refl
made_ends host at k (d ∷ ds) s =
    made_ends host at (suc k) ds (change (AddNotice (noticed host at k d)) s)

old_head : (quota next : ℕ) (ds : List Draft) (s : State) →
    (change_all (kept_below quota next ds) s).head ≡ s.head
old_head quota next [] s = refl
old_head quota next (d ∷ ds) s = refl

old_ends : (quota next : ℕ) (ds : List Draft) (s : State) →
    (change_all (kept_below quota next ds) s).ends ≡ s.ends
old_ends quota next [] s = refl
old_ends quota next (d ∷ ds) s = refl

-- a plan whose changes of messages leave the history
carried_out_remembers : (host : List ℕ) (entry : Entry) (s : State) (at : ℕ) (plan : Plan) →
    (change_all plan.changes s).ends ≡ s.ends
    → (all_gone plan.head.tally < 2 ^ 63 →
    all_gone plan.head.tally ≡ all_gone s.head.tally + length plan.ended)
    → All (WasQueued s) plan.ended
    → SoundState (change_all (carried_out host entry at plan).changes s)
    → Remembers entry.history at s (change_all (carried_out host entry at plan).changes s)
carried_out_remembers host entry s at plan leave count were =
    cases (nat_lt spent (plan.head.next_notice + length plan.drafts))
  where
    head : Head
    head = with_notices (length plan.drafts) plan.head

    made : List Change
    made = added_from host at plan.head.next_notice plan.drafts

    old : List Change
    old = kept_below entry.quota.notices head.next_notice plan.drafts

    past : List Change
    past = kept_history entry at head plan.ended

    first : State
    first = change (PutHead head) (change_all plan.changes s)

    t : State
    t = change_all old (change_all made first)

    parts : change_all (planned host entry at plan) s ≡ change_all past t
    parts = change_all-append plan.changes (PutHead head ∷ (made ++ (old ++ past))) s
        ∙ change_all-append made (old ++ past) first
        ∙ change_all-append old past (change_all made first)

    is : t.head ≡ head
    is = old_head entry.quota.notices head.next_notice plan.drafts (change_all made first)
        ∙ made_head host at plan.head.next_notice plan.drafts first

    ends : t.ends ≡ s.ends
    ends = old_ends entry.quota.notices head.next_notice plan.drafts (change_all made first)
        ∙ made_ends host at plan.head.next_notice plan.drafts first ∙ leave

    cases : (b : Bool) → SoundState (change_all (if b then refuse refusal.NoticesSpent else
        record { answer = plan.answer; changes = planned host entry at plan }).changes s) →
        Remembers entry.history at s (change_all (if b then refuse refusal.NoticesSpent else
        record { answer = plan.answer; changes = planned host entry at plan }).changes s)
    cases true h = nobody entry.history at s s (record { ends = refl; gone = refl })
    cases false h =
        let few = few_after entry at head plan.ended t is (subst SoundState parts h) in
        subst (Remembers entry.history at s) (sym parts)
        (remembers_past entry at head plan.ended s t ends is few (count few) were)

-- ---- the report of an attempt

-- each recipient that left was delivered, or failed
by_delivery : (m : Message) (p : Pending) (es : List Ended) (gave : ℕ) (ts : List Told)
    (d : Delivery) → length es ≡ gave + length ts → length (cons_option (ended_by m p d) es) ≡
    cond (is_delivered d) 1 0 + gave + length (cons_option (told_by p d) ts)
by_delivery m p es gave ts (delivery.Delivered status text) h = omega arith
by_delivery m p es gave ts (delivery.Deferred status text) h = omega arith
by_delivery m p es gave ts (delivery.Failed status text) h = omega arith

by_outcome : (m : Message) (p : Pending) (es : List Ended) (gave : ℕ) (ts : List Told)
    (o : Option Outcome) → length es ≡ gave + length ts →
    length (cons_option (ended_with m p o) es) ≡ cond (delivered_with o) 1 0 + gave + length
    (cons_option (told_with p o) ts)
by_outcome m p es gave ts None h = omega arith
by_outcome m p es gave ts (Some o) h = by_delivery m p es gave ts o.result h

attempt_counted : (m : Message) (os : List Outcome) (ps : List Pending) →
    length (ended m os ps) ≡ delivered os ps + length (failed os ps)
attempt_counted m os [] = refl
attempt_counted m os (p ∷ ps) =
    let one = by_outcome m p (ended m os ps) (delivered os ps) (failed os ps) (outcome_of os p)
    (attempt_counted m os ps) in
    let cons = sum_by-cons (λ (x : Pending). cond (delivered_with (outcome_of os x)) 1 0) p ps in
    one ∙ ap (λ n. n + length (failed os (p ∷ ps))) (sym cons)

attempted_more : (gave lost : ℕ) (head : Head) →
    all_gone (with_attempted gave lost head).tally < 2 ^ 63 →
    all_gone (with_attempted gave lost head).tally ≡ all_gone head.tally + (gave + lost)
attempted_more gave lost head few = omega arith

one_ends : (n : Message) (ps : List Pending) (s : State) →
    (change_all (put_or_dropped n ps ∷ []) s).ends ≡ s.ends
one_ends n [] s = refl
one_ends n (p ∷ ps) s = refl

-- by the tests of a report, in their order
tests_remember : (host : List ℕ) (entry : Entry) (s : State) (at attempt : ℕ)
    (os : List Outcome) (m : Message) (again ahead none doubled unknown : Bool)
    → Stands s.messages m
    → (let d = outcome_with host entry at s.head m (if again then Ok (reported.Repeat, m) else
    (if ahead then Err (refusal.AttemptAhead m.attempts) else
    (if none then Err refusal.NoOutcome else
    (if doubled then Err refusal.DoubledRecipient else
    (if unknown then Err refusal.UnknownRecipient else
    Ok (done m os, after_attempt m at attempt os)))))) in
    SoundState (change_all d.changes s) → Remembers entry.history at s (change_all d.changes s))
tests_remember host entry s at attempt os m true ahead none doubled unknown =
    λ stands h. nobody entry.history at s s (record { ends = refl; gone = refl })
tests_remember host entry s at attempt os m false true none doubled unknown =
    λ stands h. nobody entry.history at s s (record { ends = refl; gone = refl })
tests_remember host entry s at attempt os m false false true doubled unknown =
    λ stands h. nobody entry.history at s s (record { ends = refl; gone = refl })
tests_remember host entry s at attempt os m false false false true unknown =
    λ stands h. nobody entry.history at s s (record { ends = refl; gone = refl })
tests_remember host entry s at attempt os m false false false false true =
    λ stands h. nobody entry.history at s s (record { ends = refl; gone = refl })
tests_remember host entry s at attempt os m false false false false false = λ stands.
    let n = after_attempt m at attempt os in
    let gave = delivered os m.pending in
    let lost = failed os m.pending in
    carried_out_remembers host entry s at (attempted s.head n gave (deferred os m.pending) lost
    (ended m os m.pending)) (one_ends n n.pending s)
    (λ few. attempted_more gave (length lost) s.head few
    ∙ ap (λ k. all_gone s.head.tally + k) (sym (attempt_counted m os m.pending)))
    (attempt_were s m stands os)

pub outcome_remembers : (host : List ℕ) (entry : Entry) (s : State) (at : ℕ)
    (report : AttemptReport) (o : Option Message) →
    ((m : Message) → o ≡ Some m → Stands s.messages m) →
    SoundState (change_all (outcome host entry at s.head report o).changes s) →
    Remembers entry.history at s (change_all (outcome host entry at s.head report o).changes s)
outcome_remembers host entry s at report None stands h =
    nobody entry.history at s s (record { ends = refl; gone = refl })
outcome_remembers host entry s at report (Some m) stands h =
    tests_remember host entry s at report.attempt report.outcomes m
    (nat_le report.attempt m.attempts) (nat_lt (m.attempts + 1) report.attempt)
    (length report.outcomes == 0) (is_doubled report.outcomes)
    (list_any (is_unknown m.pending) report.outcomes) (stands m refl) h

-- ---- a sweep

rows_ends : (rows : List (Message × Swept)) (s : State) →
    (change_all (flat_map changed_by rows) s).ends ≡ s.ends
rows_ends [] s = refl
rows_ends ((m, Expired) ∷ rows) s = rows_ends rows (change_all (changed_by (m, Expired)) s)
rows_ends ((m, Warned) ∷ rows) s = rows_ends rows (change_all (changed_by (m, Warned)) s)
rows_ends ((m, Untouched) ∷ rows) s = rows_ends rows s

rows_counted : (rows : List (Message × Swept)) →
    length (flat_map ended_in rows) ≡ sum_by given_up rows
rows_counted [] = refl
rows_counted ((m, Expired) ∷ rows) =
    let one : length (all_ended fate.Expired m) ≡ length m.pending = length-map m.pending _ in
    length-append (all_ended fate.Expired m) (flat_map ended_in rows)
    ∙ (λ i. one i + rows_counted rows i) ∙ sym (sum_by-cons given_up (m, Expired) rows)
rows_counted ((m, Warned) ∷ rows) =
    let rest = rows_counted rows in
    let cons = sum_by-cons given_up (m, Warned) rows in
    omega arith
rows_counted ((m, Untouched) ∷ rows) =
    let rest = rows_counted rows in
    let cons = sum_by-cons given_up (m, Untouched) rows in
    omega arith

expired_more : (n : ℕ) (head : Head) → all_gone (with_expired n head).tally < 2 ^ 63 →
    all_gone (with_expired n head).tally ≡ all_gone head.tally + n
expired_more n head few = omega arith

pub sweep_remembers : (host : List ℕ) (entry : Entry) (s : State) (at : ℕ) (ms : List Message) →
    All (Stands s.messages) ms → SoundState (change_all (sweep host entry at s.head ms).changes s) →
    Remembers entry.history at s (change_all (sweep host entry at s.head ms).changes s)
sweep_remembers host entry s at ms stand = cases (expired == 0 && warned == 0) where
  rows : List (Message × Swept)
  rows = map (message_met at entry.delay) ms

  expired : ℕ
  expired = messages_that Expired rows

  warned : ℕ
  warned = messages_that Warned rows

  cases : (b : Bool) → (let d = if b then
      tell (answer.Swept (record { expired = 0; notices = 0; warned = 0 })) else
      carried_out host entry at (swept_all s.head rows expired warned) in
      SoundState (change_all d.changes s) → Remembers entry.history at s (change_all d.changes s))
  cases true = λ h. nobody entry.history at s s (record { ends = refl; gone = refl })
  cases false = carried_out_remembers host entry s at (swept_all s.head rows expired warned)
      (rows_ends rows s)
      (λ few. expired_more (sum_by given_up rows) s.head few
      ∙ ap (λ k. all_gone s.head.tally + k) (sym (rows_counted rows)))
      (rows_were s at entry.delay ms stand)

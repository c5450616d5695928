-- Call by call: whoever left is told.
use Rattle.std.proofs.Common.{◌≡◌, ◌⊎◌, inl, inr, ⊎_elim, ℕ, suc, ◌+◌, ◌-◌, ◌^◌, ◌<◌, ◌≤◌, Bool}
use Rattle.std.proofs.Common.{true}
use Rattle.std.proofs.Common.{false, cond, List, [], ◌∷◌, ◌++◌, map, filter, length, refl, sym, ap}
use Rattle.std.proofs.Common.{◌∙◌}
use Rattle.std.proofs.Common.{subst, Some, None, Option, Ok, Err, arith}
use Rattle.std.specs.Prelude.{◌==◌, if◌then◌else◌, option_and_then, nat_le, nat_lt}
use Rattle.std.specs.List.{flat_map, cons_option, list_any}
use Rattle.std.specs.FinMap.{get, values}
use Rattle.std.proofs.lemmas.List.{length-append, length-map}
use Rattle.std.proofs.lemmas.List.Sums.{sum_by-cons}
use Rattle.hq_owned.specs.Owned.{given}
use Rattle.hq_values.specs.declared.failure.Refusal.TheVariants as refusal
use Rattle.hq_kept.specs.Tallies.{all_gone}
use Rattle.hq_kept.specs.declared.account.Entry.{Entry}
use Rattle.hq_kept.specs.declared.account.Head.{Head}
use Rattle.hq_kept.specs.declared.message.Message.{Message}
use Rattle.hq_kept.specs.declared.message.Pending.{Pending}
use Rattle.hq_kept.specs.declared.outcome.Delivery.{Delivery}
use Rattle.hq_kept.specs.declared.outcome.Delivery.TheVariants as delivery
use Rattle.hq_kept.specs.declared.outcome.Ended.{Ended}
use Rattle.hq_kept.specs.declared.outcome.Fate.TheVariants as fate
use Rattle.hq_kept.specs.declared.outcome.Outcome.{Outcome}
use Rattle.hq_kept.specs.declared.outcome.Reported.TheVariants as reported
use Rattle.hq_kept.specs.declared.outcome.Told.{Told}
use Rattle.hq_tables.specs.Sound.{SoundState, pending_count}
use Rattle.hq_tables.specs.declared.change.Change.TheVariants.{PutHead, DropMessage, AddNotice}
use Rattle.hq_tables.specs.Tables.{State, change, change_all}
use Rattle.hq_rules.specs.Admission.{spent}
use Rattle.hq_rules.specs.Answering.{tell, refuse}
use Rattle.hq_rules.specs.Attempts.{ended, ended_with, failed, told_with, delivered, delivered_with}
use Rattle.hq_rules.specs.Attempts.{deferred, outcome_of, done, after_attempt, is_doubled}
use Rattle.hq_rules.specs.Attempts.{is_unknown, ended_by, told_by, is_delivered}
use Rattle.hq_rules.specs.Histories.{kept_history}
use Rattle.hq_rules.specs.Leaving.{all_ended}
use Rattle.hq_rules.specs.Messages as messages
use Rattle.hq_rules.specs.Notices.{noticed, added_from, kept_below, with_notices, planned}
use Rattle.hq_rules.specs.Notices.{carried_out}
use Rattle.hq_rules.specs.Outcomes.{put_or_dropped, with_attempted, attempted, outcome_with}
use Rattle.hq_rules.specs.Outcomes.{outcome}
use Rattle.hq_rules.specs.Queues as queues
use Rattle.hq_rules.specs.declared.answer.Answer.TheVariants as answer
use Rattle.hq_rules.specs.declared.call.AttemptReport.{AttemptReport}
use Rattle.hq_rules.specs.declared.plan.Draft.{Draft}
use Rattle.hq_rules.specs.declared.plan.Plan.{Plan}
use Rattle.hq_laws.specs.Leaving.{IsRecorded}
use Rattle.hq_laws.proofs.Among.{Among}
use Rattle.hq_laws.proofs.There.{IsThere}
use Rattle.hq_isolation.proofs.Many.{Stand, stand_in}
use Rattle.hq_laws.proofs.Standing.{each_at, picked, pick}
use Rattle.hq_isolation.proofs.Many.{change_all-append}
use Rattle.hq_laws.proofs.Standing.{one_drop, each_drop}
use Rattle.hq_laws.proofs.LeftOrPending.{one_left, some_left, attempt_left, among_flat}
use Rattle.hq_laws.proofs.LeftTold.{Parts, all_told}

abbrev pub Tells : Entry → ℕ → State → State → Type 0
Tells entry at s after = SoundState after
    → all_gone after.head.tally - all_gone s.head.tally ≤ entry.history → (serial : ℕ) (m : Message)
    (p : Pending) → get s.messages serial ≡ Some m → Among p m.pending
    → IsThere after serial p.address ⊎ IsRecorded s after at serial p.address

pub unchanged : (entry : Entry) (at : ℕ) (s : State) → Tells entry at s s
unchanged entry at s sound history serial m p stands there = inl (m, stands, (p, there, refl))

stands_own : (s : State) (serial : ℕ) → SoundState s → (m : Message) →
    get s.messages serial ≡ Some m → get s.messages m.serial ≡ Some m
stands_own s serial sound m found =
    ap (get s.messages) (sound.shaped.messages serial m found).own_serial ∙ found

-- ---- deletion

deleted_more : (n : ℕ) (head : Head) →
    all_gone (messages.with_deleted n head).tally < 2 ^ 63 →
    all_gone (messages.with_deleted n head).tally ≡ all_gone head.tally + n
deleted_more n head few = omega arith

pub delete_tells : (entry : Entry) (at : ℕ) (s : State) (serial : ℕ) → SoundState s →
    (o : Option Message) → get s.messages serial ≡ o →
    Tells entry at s (change_all (messages.delete entry at s.head o).changes s)
delete_tells entry at s serial sound None is = unchanged entry at s
delete_tells entry at s serial sound (Some m) is = λ after.
    let head = messages.with_deleted (length m.pending) s.head in
    let many : length (all_ended fate.Deleted m) ≡ length m.pending = length-map m.pending _ in
    all_told entry at head (all_ended fate.Deleted m) s
    (change (PutHead head) (change (DropMessage m.serial) s)) refl
    (one_left fate.Deleted s (change (PutHead head) (change (DropMessage m.serial) s)) m
    (stands_own s serial sound m is) refl) after
    (λ few. deleted_more (length m.pending) s.head few
    ∙ ap (λ n. all_gone s.head.tally + n) (sym many))

all_counted : (ms : List Message) →
    length (flat_map (all_ended fate.Deleted) ms) ≡ pending_count ms
all_counted [] = refl
all_counted (m ∷ ms) =
    let one : length (all_ended fate.Deleted m) ≡ length m.pending = length-map m.pending _ in
    length-append (all_ended fate.Deleted m) (flat_map (all_ended fate.Deleted) ms)
    ∙ (λ i. one i + all_counted ms i)
    ∙ sym (sum_by-cons (λ (x : Message). length x.pending) m ms)

pub delete_all_tells : (entry : Entry) (at : ℕ) (s : State) (goes : Message → Bool) →
    SoundState s → Tells entry at s
    (change_all (queues.delete_all entry at s.head (filter goes (values s.messages))).changes s)
delete_all_tells entry at s goes sound = cases (length (filter goes (values s.messages)) == 0)
  where
    ms : List Message
    ms = filter goes (values s.messages)

    stand : Stand s.messages (filter goes (values s.messages))
    stand = stand_in goes s sound.shaped

    dropped : (k : ℕ) (m : Message) → get s.messages k ≡ Some m → goes m ≡ false →
        get (change_all (map queues.drop (filter goes (values s.messages))) s).messages k ≡ Some m
    dropped k m found stays =
        ap (λ cs. get (change_all cs s).messages k)
        (sym (each_drop (filter goes (values s.messages))))
        ∙ each_at (λ m. queues.drop m ∷ []) (λ m. None) one_drop
        (filter goes (values s.messages)) s stand k
        ∙ ap (given (get s.messages k) (λ m. None))
        (picked s.messages (λ k m f. (sound.shaped.messages k m f).own_serial) goes k
        ∙ ap (option_and_then (pick goes)) found ∙ ap (λ b. if b then Some m else None) stays)
        ∙ found

    cases : (b : Bool) → Tells entry at s (change_all (if b then tell (answer.Changed 0) else
        queues.all_deleted entry at (messages.with_deleted
        (pending_count (filter goes (values s.messages))) s.head)
        (filter goes (values s.messages))).changes s)
    cases true = unchanged entry at s
    cases false =
        let head = messages.with_deleted (pending_count (filter goes (values s.messages))) s.head in
        let gone = flat_map (all_ended fate.Deleted) (filter goes (values s.messages)) in
        let t = change (PutHead head)
        (change_all (map queues.drop (filter goes (values s.messages))) s) in
        subst (Tells entry at s)
        (sym (change_all-append (map queues.drop (filter goes (values s.messages)))
        (PutHead head ∷ kept_history entry at head gone) s))
        (λ after. all_told entry at head gone s t refl
        (some_left s t sound.shaped goes fate.Deleted gone
        (λ m e among it. among_flat (all_ended fate.Deleted) m e
        (filter goes (values s.messages)) among it)
        (λ k m found stays. (m, dropped k m found stays, refl))) after
        (λ few. deleted_more (pending_count (filter goes (values s.messages))) s.head few
        ∙ ap (λ n. all_gone s.head.tally + n)
        (sym (all_counted (filter goes (values s.messages))))))

-- ---- plans

made_head : (host : List ℕ) (at k : ℕ) (ds : List Draft) (s : State) →
    (change_all (added_from host at k ds) s).head ≡ s.head
made_head host at k [] s = refl
made_head host at k (d ∷ ds) s =
    made_head host at (suc k) ds (change (AddNotice (noticed host at k d)) s)

made_queue : (host : List ℕ) (at k : ℕ) (ds : List Draft) (s : State) →
    (change_all (added_from host at k ds) s).messages ≡ s.messages
made_queue host at k [] s = refl
made_queue host at k (d ∷ ds) s =
    made_queue host at (suc k) ds (change (AddNotice (noticed host at k d)) s)

old_head : (quota next : ℕ) (ds : List Draft) (s : State) →
    (change_all (kept_below quota next ds) s).head ≡ s.head
old_head quota next [] s = refl
old_head quota next (d ∷ ds) s = refl

old_queue : (quota next : ℕ) (ds : List Draft) (s : State) →
    (change_all (kept_below quota next ds) s).messages ≡ s.messages
old_queue quota next [] s = refl
old_queue quota next (d ∷ ds) s = refl

parts_by : (s u t : State) (gone : List Ended) → t.messages ≡ u.messages → Parts s u gone →
    Parts s t gone
parts_by s u t gone same parts serial m p found there = ⊎_elim
    (λ (it : IsThere u serial p.address).
    inl (it.0, ap (λ q. get q serial) same ∙ it.1, it.2))
    (λ (it : (e : Ended) × Among e gone × (e.serial ≡ serial) × (e.recipient ≡ p.address)).
    inr it) (parts serial m p found there)

pub carried_out_tells : (host : List ℕ) (entry : Entry) (s : State) (at : ℕ) (plan : Plan) →
    Parts s (change_all plan.changes s) plan.ended
    → (all_gone plan.head.tally < 2 ^ 63 →
    all_gone plan.head.tally ≡ all_gone s.head.tally + length plan.ended)
    → Tells entry at s (change_all (carried_out host entry at plan).changes s)
carried_out_tells host entry s at plan parts count =
    cases (nat_lt spent (plan.head.next_notice + length plan.drafts))
  where
    head : Head
    head = with_notices (length plan.drafts) plan.head

    cases : (b : Bool) → Tells entry at s (change_all (if b then refuse refusal.NoticesSpent else
        record { answer = plan.answer; changes = planned host entry at plan }).changes s)
    cases true = unchanged entry at s
    cases false =
        let head = with_notices (length plan.drafts) plan.head in
        let made = added_from host at plan.head.next_notice plan.drafts in
        let old = kept_below entry.quota.notices head.next_notice plan.drafts in
        let past = kept_history entry at head plan.ended in
        let first = change (PutHead head) (change_all plan.changes s) in
        let t = change_all old (change_all made first) in
        let whole : change_all (planned host entry at plan) s ≡ change_all past t =
        change_all-append plan.changes (PutHead head ∷ (made ++ (old ++ past))) s
        ∙ change_all-append made (old ++ past) first
        ∙ change_all-append old past (change_all made first) in
        let is : t.head ≡ head =
        old_head entry.quota.notices head.next_notice plan.drafts (change_all made first)
        ∙ made_head host at plan.head.next_notice plan.drafts first in
        let queue : t.messages ≡ (change_all plan.changes s).messages =
        old_queue entry.quota.notices head.next_notice plan.drafts (change_all made first)
        ∙ made_queue host at plan.head.next_notice plan.drafts first in
        subst (Tells entry at s) (sym whole)
        (λ after. all_told entry at head plan.ended s t is
        (parts_by s (change_all plan.changes s) t plan.ended queue parts) after count)

-- ---- the report of an attempt

by_delivery : (m : Message) (p : Pending) (es : List Ended) (gave : ℕ) (ts : List Told)
    (d : Delivery) → length es ≡ gave + length ts → length (cons_option (ended_by m p d) es) ≡
    cond (is_delivered d) 1 0 + gave + length (cons_option (told_by p d) ts)
by_delivery m p es gave ts (delivery.Delivered status text) h = omega arith
by_delivery m p es gave ts (delivery.Deferred status text) h = omega arith
by_delivery m p es gave ts (delivery.Failed status text) h = omega arith

by_outcome : (m : Message) (p : Pending) (es : List Ended) (gave : ℕ) (ts : List Told)
    (o : Option Outcome) → length es ≡ gave + length ts →
    length (cons_option (ended_with m p o) es) ≡ cond (delivered_with o) 1 0 + gave + length
    (cons_option (told_with p o) ts)
by_outcome m p es gave ts None h = omega arith
by_outcome m p es gave ts (Some o) h = by_delivery m p es gave ts o.result h

attempt_counted : (m : Message) (os : List Outcome) (ps : List Pending) →
    length (ended m os ps) ≡ delivered os ps + length (failed os ps)
attempt_counted m os [] = refl
attempt_counted m os (p ∷ ps) =
    let one = by_outcome m p (ended m os ps) (delivered os ps) (failed os ps) (outcome_of os p)
    (attempt_counted m os ps) in
    let cons = sum_by-cons (λ (x : Pending). cond (delivered_with (outcome_of os x)) 1 0) p ps in
    one ∙ ap (λ n. n + length (failed os (p ∷ ps))) (sym cons)

attempted_more : (gave lost : ℕ) (head : Head) →
    all_gone (with_attempted gave lost head).tally < 2 ^ 63 →
    all_gone (with_attempted gave lost head).tally ≡ all_gone head.tally + (gave + lost)
attempted_more gave lost head few = omega arith

tests_tell : (host : List ℕ) (entry : Entry) (s : State) (at attempt : ℕ)
    (os : List Outcome) (m : Message) (again ahead none doubled unknown : Bool)
    → get s.messages m.serial ≡ Some m
    → (let d = outcome_with host entry at s.head m (if again then Ok (reported.Repeat, m) else
    (if ahead then Err (refusal.AttemptAhead m.attempts) else
    (if none then Err refusal.NoOutcome else
    (if doubled then Err refusal.DoubledRecipient else
    (if unknown then Err refusal.UnknownRecipient else
    Ok (done m os, after_attempt m at attempt os)))))) in
    Tells entry at s (change_all d.changes s))
tests_tell host entry s at attempt os m true ahead none doubled unknown =
    λ stands. unchanged entry at s
tests_tell host entry s at attempt os m false true none doubled unknown =
    λ stands. unchanged entry at s
tests_tell host entry s at attempt os m false false true doubled unknown =
    λ stands. unchanged entry at s
tests_tell host entry s at attempt os m false false false true unknown =
    λ stands. unchanged entry at s
tests_tell host entry s at attempt os m false false false false true =
    λ stands. unchanged entry at s
tests_tell host entry s at attempt os m false false false false false = λ stands.
    let n = after_attempt m at attempt os in
    let gave = delivered os m.pending in
    let lost = failed os m.pending in
    carried_out_tells host entry s at (attempted s.head n gave (deferred os m.pending) lost
    (ended m os m.pending))
    (attempt_left s (change_all (put_or_dropped n n.pending ∷ []) s) m n os stands refl refl refl)
    (λ few. attempted_more gave (length lost) s.head few
    ∙ ap (λ k. all_gone s.head.tally + k) (sym (attempt_counted m os m.pending)))

pub outcome_tells : (host : List ℕ) (entry : Entry) (at : ℕ) (s : State) (report : AttemptReport) →
    SoundState s → (o : Option Message) → get s.messages report.serial ≡ o →
    Tells entry at s (change_all (outcome host entry at s.head report o).changes s)
outcome_tells host entry at s report sound None is = unchanged entry at s
outcome_tells host entry at s report sound (Some m) is =
    tests_tell host entry s at report.attempt report.outcomes m
    (nat_le report.attempt m.attempts) (nat_lt (m.attempts + 1) report.attempt)
    (length report.outcomes == 0) (is_doubled report.outcomes)
    (list_any (is_unknown m.pending) report.outcomes) (stands_own s report.serial sound m is)

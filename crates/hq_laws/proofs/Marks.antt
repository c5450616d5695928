-- No call but an import touches the marks of imports.
use Rattle.std.proofs.Common.{◌≡◌, ℕ, suc, ◌+◌, ◌-◌, Bool, true, false, List, [], ◌∷◌, ◌++◌, map}
use Rattle.std.proofs.Common.{length}
use Rattle.std.proofs.Common.{refl, ap, ◌∙◌, Some, None, Option, Ok, Err, Result}
use Rattle.std.specs.Prelude.{if◌then◌else◌, ◌==◌, ◌&&◌, nat_lt, nat_le}
use Rattle.std.specs.List.{flat_map}
use Rattle.hq_values.specs.declared.failure.Refusal.{Refusal}
use Rattle.hq_values.specs.declared.failure.Refusal.TheVariants.{QuotaLines, SerialsSpent}
use Rattle.hq_values.specs.declared.failure.Refusal.TheVariants.{NoticesSpent}
use Rattle.hq_kept.specs.declared.action.Action.{Action}
use Rattle.hq_kept.specs.declared.pattern.Class.{Class}
use Rattle.hq_kept.specs.declared.pattern.Line.{Line}
use Rattle.hq_rules.specs.declared.verdict.Verdict.{Verdict}
use Rattle.hq_rules.specs.declared.verdict.Verdict.TheVariants as verdict
use Rattle.hq_values.specs.Words.{customer_hold}
use Rattle.hq_rules.specs.Admission.{spent}
use Rattle.hq_rules.specs.Attempts.{reported}
use Rattle.hq_rules.specs.Moves.{held, released, requeued}
use Rattle.hq_kept.specs.declared.account.Entry.{Entry}
use Rattle.hq_kept.specs.declared.account.Head.{Head}
use Rattle.hq_kept.specs.declared.message.Message.{Message}
use Rattle.hq_kept.specs.declared.message.Pending.{Pending}
use Rattle.hq_kept.specs.declared.outcome.Reported.{Reported}
use Rattle.hq_kept.specs.declared.outcome.Reported.TheVariants.{Repeat, Done}
use Rattle.hq_rules.specs.declared.swept.Swept.{Swept}
use Rattle.hq_rules.specs.declared.swept.Swept.TheVariants.{Expired, Warned, Untouched}
use Rattle.hq_tables.specs.Readings.{read_state}
use Rattle.hq_tables.specs.declared.change.Change.{Change}
use Rattle.hq_tables.specs.declared.change.Change.TheVariants.{PutHead, PutMessage, DropMessage}
use Rattle.hq_tables.specs.declared.change.Change.TheVariants.{AddNotice, DropEndsTo}
use Rattle.hq_rules.specs.Leaving.{all_ended}
use Rattle.hq_kept.specs.Tallies.{last_gone}
use Rattle.hq_kept.specs.declared.outcome.Ended.{Ended}
use Rattle.hq_kept.specs.declared.outcome.Fate.TheVariants as fate
use Rattle.hq_kept.specs.declared.notice.Notice.{Notice}
use Rattle.hq_tables.specs.Sound.{pending_count}
use Rattle.hq_tables.specs.Tables.{State, change, change_all}
use Rattle.hq_isolation.proofs.Many.{change_all-append}
use Rattle.hq_rules.specs.AccessLines as lines
use Rattle.hq_rules.specs.Answering.{tell, refuse}
use Rattle.hq_rules.specs.Messages as messages
use Rattle.hq_rules.specs.Histories.{last_of, put_to, kept_history}
use Rattle.hq_rules.specs.Notices.{noticed, added_from, kept_below, with_notices, planned}
use Rattle.hq_rules.specs.Notices.{carried_out, show_notice}
use Rattle.hq_rules.specs.Outcomes.{put_or_dropped, attempted, outcome_with, outcome}
use Rattle.hq_rules.specs.Queues as queues
use Rattle.hq_rules.specs.Submissions as submissions
use Rattle.hq_rules.specs.Sweeps.{message_met, changed_by, messages_that, swept_all, sweep}
use Rattle.hq_rules.specs.declared.answer.Answer.TheVariants as answer
use Rattle.hq_rules.specs.declared.answer.LinePut.TheVariants.{Added, Changed, Same}
use Rattle.hq_rules.specs.declared.call.AttemptReport.{AttemptReport}
use Rattle.hq_rules.specs.declared.call.Origin.{Origin}
use Rattle.hq_rules.specs.declared.call.Submission.{Submission}
use Rattle.hq_rules.specs.declared.decision.Decision.{Decision}
use Rattle.hq_rules.specs.declared.plan.Draft.{Draft}
use Rattle.hq_rules.specs.declared.plan.Plan.{Plan}
use Rattle.hq_rules.specs.declared.call.Move.{Move}

-- what a decision leaves of the marks
abbrev pub Leaves : State → Decision → Type 0
Leaves s d = (change_all d.changes s).marks ≡ s.marks

-- changes that leave the marks of any state as they are
abbrev LeavesAll : List Change → Type 0
LeavesAll cs = (s : State) → (change_all cs s).marks ≡ s.marks

-- so do some and then others, where each do
both_leave : (xs ys : List Change) → LeavesAll xs → LeavesAll ys → LeavesAll (xs ++ ys)
both_leave xs ys first second s = ap (λ (u : State). u.marks) (change_all-append xs ys s)
    ∙ second (change_all xs s) ∙ first s

-- changes made of each of many leave them, where those of one do
each_leaves : {X : Type 0} (f : X → List Change) → ((x : X) → LeavesAll (f x)) → (xs : List X) →
    LeavesAll (flat_map f xs)
each_leaves f one [] s = refl
each_leaves f one (x ∷ xs) s = both_leave (f x) (flat_map f xs) (one x) (each_leaves f one xs) s

-- what is kept of recipients that left the queue does
put_leaves_all : (at last : ℕ) (es : List Ended) → LeavesAll (put_to at last es)
put_leaves_all at last [] s = refl
put_leaves_all at last (e ∷ es) s = refl

history_leaves : (entry : Entry) (at : ℕ) (head : Head) (es : List Ended) →
    LeavesAll (kept_history entry at head es)
history_leaves entry at head [] s = refl
history_leaves entry at head (e ∷ es) s =
    let last = last_gone head.tally in
    put_leaves_all at last (last_of entry.history (e ∷ es))
    (change (DropEndsTo (last - entry.history)) s)

-- ---- calls on messages and on lines, and mail that comes in, each on what it finds

moved_leaves : (s : State) (o : Option Message) → Leaves s (messages.moved o)
moved_leaves s None = refl
moved_leaves s (Some m) = refl

pub hold_leaves : (s : State) (o : Option Message) → Leaves s (messages.hold o)
hold_leaves s None = refl
hold_leaves s (Some m) = moved_leaves s (held customer_hold m)

pub release_leaves : (s : State) (at : ℕ) (o : Option Message) → Leaves s (messages.release at o)
release_leaves s at None = refl
release_leaves s at (Some m) = moved_leaves s (released at m)

pub requeue_leaves : (s : State) (at : ℕ) (o : Option Message) →
    Leaves s (messages.requeue s.head at o)
requeue_leaves s at None = refl
requeue_leaves s at (Some m) = cases (s.head.next_serial == spent) where
  cases : (b : Bool) → Leaves s (if b then refuse SerialsSpent else
      record {
        answer = answer.Requeued s.head.next_serial;
        changes = DropMessage m.serial
            ∷ PutHead (messages.next_head s.head)
            ∷ PutMessage (requeued at s.head.next_serial m) ∷ [];
      })
  cases true = refl
  cases false = refl

pub delete_leaves : (s : State) (entry : Entry) (at : ℕ) (o : Option Message) →
    Leaves s (messages.delete entry at s.head o)
delete_leaves s entry at None = refl
delete_leaves s entry at (Some m) =
    let head = messages.with_deleted (length m.pending) s.head in
    history_leaves entry at head (all_ended fate.Deleted m)
    (change (PutHead head) (change (DropMessage m.serial) s))

pub show_leaves : (s : State) (o : Option Message) → Leaves s (messages.show o)
show_leaves s None = refl
show_leaves s (Some m) = refl

settled_leaves : (s : State) (at : ℕ) (origin : Origin) (serial : Result ℕ Refusal) (v : Verdict) →
    Leaves s (submissions.settled s.head at origin serial v)
settled_leaves s at origin serial (verdict.Rejected refused) = refl
settled_leaves s at origin serial (verdict.Discarded refused) = refl
settled_leaves s at origin (Err refusal) (verdict.Queue kept refused redirect held) = refl
settled_leaves s at origin (Ok serial) (verdict.Queue kept refused redirect held) = refl

pub submit_leaves : (s : State) (entry : Entry) (at : ℕ) (sub : Submission) (o : Option Message) →
    Leaves s (submissions.submit entry (read_state s) at sub o)
submit_leaves s entry at sub (Some m) = refl
submit_leaves s entry at sub None = settled_leaves s at (submissions.origin_of sub) _ _

pub put_leaves : (s : State) (quota count : ℕ) (line : Line) (o : Option Action) →
    Leaves s (lines.put_line quota count line o)
put_leaves s quota count line (Some known) = over (lines.same_action known line.action) where
  over : (b : Bool) → Leaves s (if b then tell (answer.LinePut Same) else lines.set Changed line)
  over true = refl
  over false = refl
put_leaves s quota count line None = beside (nat_le quota count) where
  beside : (b : Bool) → Leaves s (if b then refuse QuotaLines else lines.set Added line)
  beside true = refl
  beside false = refl

pub drop_leaves : (s : State) (pattern : Class × List ℕ) (o : Option Action) →
    Leaves s (lines.drop_line pattern o)
drop_leaves s pattern None = refl
drop_leaves s pattern (Some action) = refl

-- ---- plans, and the calls that make them

-- notices that are added do
added_leave : (host : List ℕ) (at k : ℕ) (ds : List Draft) → LeavesAll (added_from host at k ds)
added_leave host at k [] s = refl
added_leave host at k (d ∷ ds) s =
    added_leave host at (suc k) ds (change (AddNotice (noticed host at k d)) s)

-- and a drop of notices
kept_leave : (quota next : ℕ) (ds : List Draft) → LeavesAll (kept_below quota next ds)
kept_leave quota next [] s = refl
kept_leave quota next (d ∷ ds) s = refl

-- a plan leaves the marks where its changes of messages do
planned_leave : (host : List ℕ) (entry : Entry) (at : ℕ) (plan : Plan) → LeavesAll plan.changes →
    LeavesAll (planned host entry at plan)
planned_leave host entry at plan leave =
    let head = with_notices (length plan.drafts) plan.head in
    let made = added_from host at plan.head.next_notice plan.drafts in
    let old = kept_below entry.quota.notices head.next_notice plan.drafts in
    let past = kept_history entry at head plan.ended in
    both_leave plan.changes (PutHead head ∷ (made ++ (old ++ past))) leave
    (λ s. both_leave made (old ++ past) (added_leave host at plan.head.next_notice plan.drafts)
    (both_leave old past (kept_leave entry.quota.notices head.next_notice plan.drafts)
    (history_leaves entry at head plan.ended)) (change (PutHead head) s))

-- whether or not it finds the numbers for its notices
carried_out_leaves : (host : List ℕ) (entry : Entry) (s : State) (at : ℕ) (plan : Plan) →
    LeavesAll plan.changes → Leaves s (carried_out host entry at plan)
carried_out_leaves host entry s at plan leave =
    cases (nat_lt spent (plan.head.next_notice + length plan.drafts)) where
      cases : (b : Bool) → Leaves s (if b then refuse NoticesSpent else
          record { answer = plan.answer; changes = planned host entry at plan })
      cases true = refl
      cases false = planned_leave host entry at plan leave s

-- a message put or dropped after an attempt leaves the marks
put_or_dropped_leaves : (m : Message) (ps : List Pending) → LeavesAll (put_or_dropped m ps ∷ [])
put_or_dropped_leaves m [] s = refl
put_or_dropped_leaves m (p ∷ ps) s = refl

-- whatever a report comes to
reported_leaves : (host : List ℕ) (entry : Entry) (s : State) (at : ℕ) (m : Message)
    (r : Result (Reported × Message) Refusal) → Leaves s (outcome_with host entry at s.head m r)
reported_leaves host entry s at m (Err refusal) = refl
reported_leaves host entry s at m (Ok (Repeat, after)) = refl
reported_leaves host entry s at m (Ok (Done delivered deferred failed ended, after)) =
    carried_out_leaves host entry s at (attempted s.head after delivered deferred failed ended)
    (put_or_dropped_leaves after after.pending)

-- a report leaves them, of a message that is there or not
pub outcome_leaves : (host : List ℕ) (entry : Entry) (s : State) (at : ℕ) (report : AttemptReport)
    (o : Option Message) → Leaves s (outcome host entry at s.head report o)
outcome_leaves host entry s at report None = refl
outcome_leaves host entry s at report (Some m) =
    reported_leaves host entry s at m (reported m at report.attempt report.outcomes)

-- what a sweep changes of one message leaves the marks
changed_by_leaves : (row : Message × Swept) → LeavesAll (changed_by row)
changed_by_leaves (m, Expired) s = refl
changed_by_leaves (m, Warned) s = refl
changed_by_leaves (m, Untouched) s = refl

-- a sweep leaves them
pub sweep_leaves : (host : List ℕ) (entry : Entry) (s : State) (at : ℕ) (ms : List Message) →
    Leaves s (sweep host entry at s.head ms)
sweep_leaves host entry s at ms = cases (expired == 0 && warned == 0) where
  rows : List (Message × Swept)
  rows = map (message_met at entry.delay) ms

  expired : ℕ
  expired = messages_that Expired rows

  warned : ℕ
  warned = messages_that Warned rows

  cases : (b : Bool) → Leaves s (if b then
      tell (answer.Swept (record { expired = 0; notices = 0; warned = 0 })) else
      carried_out host entry at (swept_all s.head rows expired warned))
  cases true = refl
  cases false = carried_out_leaves host entry s at (swept_all s.head rows expired warned)
      (each_leaves changed_by changed_by_leaves rows)

-- a notice that is told leaves them
pub show_notice_leaves : (s : State) (o : Option Notice) → Leaves s (show_notice o)
show_notice_leaves s None = refl
show_notice_leaves s (Some notice) = refl

-- ---- calls on all messages

put_leaves_marks : (o : Option Message) → LeavesAll (queues.put o)
put_leaves_marks None s = refl
put_leaves_marks (Some m) s = refl

pub move_all_leaves : (s : State) (move : Move) (ms : List Message) →
    Leaves s (queues.move_all move ms)
move_all_leaves s move ms = each_leaves (λ m. queues.put (queues.moved_by move m))
    (λ m. put_leaves_marks (queues.moved_by move m)) ms s

drops_leave : (ms : List Message) → LeavesAll (map queues.drop ms)
drops_leave [] s = refl
drops_leave (m ∷ ms) s = drops_leave ms (change (queues.drop m) s)

pub delete_all_leaves : (s : State) (entry : Entry) (at : ℕ) (ms : List Message) →
    Leaves s (queues.delete_all entry at s.head ms)
delete_all_leaves s entry at ms = cases (length ms == 0) where
  head : Head
  head = messages.with_deleted (pending_count ms) s.head

  past : List Change
  past = kept_history entry at head (flat_map (all_ended fate.Deleted) ms)

  cases : (b : Bool) → Leaves s (if b then tell (answer.Changed 0) else
      queues.all_deleted entry at head ms)
  cases true = refl
  cases false = both_leave (map queues.drop ms) (PutHead head ∷ past) (drops_leave ms)
      (λ u. history_leaves entry at head (flat_map (all_ended fate.Deleted) ms)
      (change (PutHead head) u)) s

-- What tells of no change has no changes, for each kind of call; nor has a call that only reads,
-- nor an import under a label that was used.
use Rattle.std.proofs.Common.{◌≡◌, ℕ, suc, ◌+◌, Bool, true, false, List, [], ◌∷◌, map, length}
use Rattle.std.proofs.Common.{refl, ap, ◌∙◌, Option, Some, None, Result, Ok, Err, arith}
use Rattle.std.specs.Prelude.{if◌then◌else◌, ◌==◌, nat_le, nat_lt, filter}
use Rattle.std.proofs.lemmas.Bool.Decides.{nat_tests}
use Rattle.std.specs.Str.{bytes_eq}
use Rattle.sha2.specs.Sha256.{sha256}
use Rattle.hq_rules.specs.TableFiles.{table_lines}
use Rattle.hq_values.specs.declared.failure.Refusal.{Refusal}
use Rattle.hq_values.specs.declared.failure.Refusal.TheVariants.{LabelUsed}
use Rattle.hq_kept.specs.declared.action.Action.{Action}
use Rattle.hq_kept.specs.declared.pattern.Class.{Class}
use Rattle.hq_kept.specs.declared.pattern.Line.{Line}
use Rattle.hq_rules.specs.declared.verdict.Refused.{Refused}
use Rattle.hq_rules.specs.declared.verdict.Verdict.{Verdict}
use Rattle.hq_rules.specs.declared.verdict.Verdict.TheVariants as verdict
use Rattle.hq_values.specs.Words.{customer_hold}
use Rattle.hq_rules.specs.Admission.{admitted, spent}
use Rattle.hq_rules.specs.Attempts.{reported}
use Rattle.hq_rules.specs.Moves.{held, released}
use Rattle.hq_kept.specs.declared.account.Entry.{Entry}
use Rattle.hq_kept.specs.declared.account.Head.{Head}
use Rattle.hq_kept.specs.declared.message.Message.{Message}
use Rattle.hq_kept.specs.declared.outcome.Reported.{Reported}
use Rattle.hq_kept.specs.declared.outcome.Reported.TheVariants.{Repeat, Done}
use Rattle.hq_rules.specs.declared.swept.Swept.{Swept}
use Rattle.hq_rules.specs.declared.swept.Swept.TheVariants.{Expired, Warned}
use Rattle.hq_tables.specs.Readings.{Readings}
use Rattle.hq_tables.specs.Sound.{pending_count}
use Rattle.hq_tables.specs.declared.change.Change.{Change}
use Rattle.hq_kept.specs.declared.mark.Mark.{Mark}
use Rattle.hq_kept.specs.declared.notice.Notice.{Notice}
use Rattle.hq_rules.specs.AccessLines.{same_action, set, put_line, drop_line}
use Rattle.hq_rules.specs.Answering.{tell, refuse}
use Rattle.hq_rules.specs.Decision.{decide}
use Rattle.hq_rules.specs.Imports.{rows_that, line_met, first_import, import, repeated}
use Rattle.hq_rules.specs.Messages.{moved, show, hold, release, requeue, delete, with_deleted}
use Rattle.hq_rules.specs.Notices.{carried_out, show_notice}
use Rattle.hq_rules.specs.Outcomes.{attempted, outcome, outcome_with}
use Rattle.hq_rules.specs.Queues.{moves_of, move_all, all_deleted, delete_all}
use Rattle.hq_rules.specs.Selections.{is_selected}
use Rattle.hq_rules.specs.Submissions.{admit, settled, submit, judged, distinct, receivers}
use Rattle.hq_rules.specs.Submissions.{origin_of}
use Rattle.hq_rules.specs.Sweeps.{message_met as met_by, messages_that as made, swept_all}
use Rattle.hq_rules.specs.Sweeps.{is_none_changed}
use Rattle.hq_rules.specs.Sweeps.{sweep_with, sweep}
use Rattle.hq_rules.specs.Unchanged.{only_reads, tells_no_change}
use Rattle.hq_rules.specs.declared.answer.Answer.TheVariants as answer
use Rattle.hq_rules.specs.declared.call.AttemptReport.{AttemptReport}
use Rattle.hq_rules.specs.declared.call.Call.{Call}
use Rattle.hq_rules.specs.declared.call.Call.TheVariants as call
use Rattle.hq_rules.specs.declared.answer.LinePut.TheVariants.{Added, Changed, Same}
use Rattle.hq_rules.specs.declared.call.Origin.{Origin}
use Rattle.hq_rules.specs.declared.call.Submission.{Submission}
use Rattle.hq_rules.specs.declared.decision.Decision.{Decision}
use Rattle.hq_rules.specs.declared.plan.Plan.{Plan}
use Rattle.hq_rules.specs.declared.call.Move.{Move}
use Rattle.hq_rules.specs.declared.call.Move.TheVariants as move

-- what tells of no change has none
abbrev Honest : Decision → Type 0
Honest decision = tells_no_change decision.answer ≡ true → decision.changes ≡ []

-- a change is told
told : (b : Bool) (changes : List Change) → b ≡ false → b ≡ true → changes ≡ []
told b changes isnt is = cc

-- ---- one message

moved_honest : (m : Option Message) → Honest (moved m)
moved_honest None = λ h. refl
moved_honest (Some m) = told false _ refl

hold_honest : (m : Option Message) → Honest (hold m)
hold_honest None = λ h. refl
hold_honest (Some m) = moved_honest (held customer_hold m)

release_honest : (at : ℕ) (m : Option Message) → Honest (release at m)
release_honest at None = λ h. refl
release_honest at (Some m) = moved_honest (released at m)

-- a test that refuses, or else a change that is told
refused_or : (b : Bool) (refusal : Refusal) (decision : Decision) → Honest decision →
    Honest (if b then refuse refusal else decision)
refused_or true refusal decision h = λ none. refl
refused_or false refusal decision h = h

requeue_honest : (head : Head) (at : ℕ) (m : Option Message) → Honest (requeue head at m)
requeue_honest head at None = λ h. refl
requeue_honest head at (Some m) = refused_or (head.next_serial == spent) _ _ (told false _ refl)

delete_honest : (entry : Entry) (at : ℕ) (head : Head) (m : Option Message) →
    Honest (delete entry at head m)
delete_honest entry at head None = λ h. refl
delete_honest entry at head (Some m) = told false _ refl

-- ---- all messages

some_is_not_none : (n : ℕ) → (suc n == 0) ≡ true → ⊥
some_is_not_none n h = grind (arith, nat_tests)

-- a list of no change
none_of : (changes : List Change) → (length changes == 0) ≡ true → changes ≡ []
none_of [] h = refl
none_of (c ∷ cs) h = absurd (some_is_not_none (length cs) h)

-- told is how many changes there are
move_all_honest : (move : Move) (ms : List Message) → Honest (move_all move ms)
move_all_honest move ms = none_of (moves_of move ms)

delete_all_honest : (entry : Entry) (at : ℕ) (head : Head) (ms : List Message) →
    Honest (delete_all entry at head ms)
delete_all_honest entry at head ms = cases (length ms == 0) refl where
  cases : (b : Bool) → (length ms == 0) ≡ b →
      Honest (if b then tell (answer.Changed 0) else
      all_deleted entry at (with_deleted (pending_count ms) head) ms)
  cases true e = λ h. refl
  cases false e = told (length ms == 0) _ e

-- ---- lines

put_line_honest : (quota count : ℕ) (line : Line) (known : Option Action) →
    Honest (put_line quota count line known)
put_line_honest quota count line None = refused_or (nat_le quota count) _ _ (told false _ refl)
put_line_honest quota count line (Some known) = cases (same_action known line.action) where
  cases : (b : Bool) → Honest (if b then tell (answer.LinePut Same) else set Changed line)
  cases true = λ h. refl
  cases false = told false _ refl

drop_line_honest : (pattern : Class × List ℕ) (known : Option Action) →
    Honest (drop_line pattern known)
drop_line_honest pattern None = λ h. refl
drop_line_honest pattern (Some action) = told false _ refl

-- ---- imports

-- whatever the file
used_label : (digest : List ℕ) (mark : Mark) → (repeated digest mark).changes ≡ []
used_label digest mark = cases (bytes_eq digest mark.digest) where
  cases : (b : Bool) → (if b then
      tell (answer.Imported (record {
        added = mark.added;
        changed = mark.changed;
        same = mark.same;
      })) else refuse LabelUsed).changes ≡ []
  cases true = refl
  cases false = refl

first_import_honest : (quota : ℕ) (readings : Readings) (label digest : List ℕ)
    (lines : Result (List Line) Refusal) → Honest (first_import quota readings label digest lines)
first_import_honest quota readings label digest (Err refusal) = λ h. refl
first_import_honest quota readings label digest (Ok lines) =
    refused_or (nat_lt quota (readings.counts.lines + rows_that Added
    (map (line_met readings) lines))) _
    _ (told false _ refl)

import_honest : (quota : ℕ) (readings : Readings) (label file : List ℕ) (mark : Option Mark) →
    Honest (import quota readings label file mark)
import_honest quota readings label file None =
    first_import_honest quota readings label (sha256 file) (table_lines file)
import_honest quota readings label file (Some mark) = λ h. used_label (sha256 file) mark

-- ---- submissions

admit_honest : (head : Head) (at : ℕ) (origin : Origin) (addresses : List (List ℕ))
    (held : Option (List ℕ)) (refused : List Refused) (serial : Result ℕ Refusal) →
    Honest (admit head at origin addresses held refused serial)
admit_honest head at origin addresses held refused (Err refusal) = λ h. refl
admit_honest head at origin addresses held refused (Ok serial) = told false _ refl

settled_honest : (head : Head) (at : ℕ) (origin : Origin) (serial : Result ℕ Refusal) (v : Verdict)
    → Honest (settled head at origin serial v)
settled_honest head at origin serial (verdict.Rejected refused) = λ h. refl
settled_honest head at origin serial (verdict.Discarded refused) = λ h. refl
settled_honest head at origin serial (verdict.Queue kept refused redirect held) =
    admit_honest head at origin (receivers kept redirect) held refused serial

submit_honest : (entry : Entry) (readings : Readings) (at : ℕ) (sub : Submission)
    (m : Option Message) → Honest (submit entry readings at sub m)
submit_honest entry readings at sub (Some m) = λ h. refl
submit_honest entry readings at sub None =
    settled_honest readings.head at (origin_of sub)
    (admitted readings.head entry.quota readings.counts sub.size)
    (judged readings sub.sender (distinct sub.recipients))

-- ---- plans

-- a plan whose answer tells of a change
carried_out_honest : (host : List ℕ) (entry : Entry) (at : ℕ) (plan : Plan) →
    tells_no_change plan.answer ≡ false → Honest (carried_out host entry at plan)
carried_out_honest host entry at plan tells =
    refused_or (nat_lt spent (plan.head.next_notice + length plan.drafts)) _ _
    (told (tells_no_change plan.answer) _ tells)

outcome_with_honest : (host : List ℕ) (entry : Entry) (at : ℕ) (head : Head) (m : Message)
    (done : Result (Reported × Message) Refusal) → Honest (outcome_with host entry at head m done)
outcome_with_honest host entry at head m (Err refusal) = λ h. refl
outcome_with_honest host entry at head m (Ok (Repeat, after)) = λ h. refl
outcome_with_honest host entry at head m (Ok (Done delivered deferred failed ended, after)) =
    carried_out_honest host entry at (attempted head after delivered deferred failed ended) refl

outcome_honest : (host : List ℕ) (entry : Entry) (at : ℕ) (head : Head) (report : AttemptReport)
    (m : Option Message) → Honest (outcome host entry at head report m)
outcome_honest host entry at head report None = λ h. refl
outcome_honest host entry at head report (Some m) =
    outcome_with_honest host entry at head m (reported m at report.attempt report.outcomes)

-- a sweep that expires and warns none has nothing to do
sweep_with_honest : (host : List ℕ) (entry : Entry) (at : ℕ) (head : Head)
    (rows : List (Message × Swept)) (expired warned : ℕ) →
    Honest (sweep_with host entry at head rows expired warned)
sweep_with_honest host entry at head rows expired warned =
    cases (is_none_changed expired warned) refl where
      cases : (b : Bool) → is_none_changed expired warned ≡ b →
          Honest (if b then tell (answer.Swept (record {
            expired = 0;
            notices = 0;
            warned = 0;
          })) else
          carried_out host entry at (swept_all head rows expired warned))
      cases true e = λ h. refl
      cases false e = carried_out_honest host entry at (swept_all head rows expired warned) e

sweep_honest : (host : List ℕ) (entry : Entry) (at : ℕ) (head : Head) (ms : List Message) →
    Honest (sweep host entry at head ms)
sweep_honest host entry at head ms =
    let rows = map (met_by at entry.delay) ms in
    sweep_with_honest host entry at head rows (made Expired rows) (made Warned rows)

-- ---- what is shown

show_reads : (m : Option Message) → (show m).changes ≡ []
show_reads None = refl
show_reads (Some m) = refl

show_notice_reads : (notice : Option Notice) → (show_notice notice).changes ≡ []
show_notice_reads None = refl
show_notice_reads (Some notice) = refl

-- ---- all kinds of call

pub no_changes : (host : List ℕ) (entry : Entry) (readings : Readings) (at : ℕ) (asked : Call) →
    Honest (decide host entry readings at asked)
unfolding decide
no_changes host entry readings at (call.Submit sub) =
    submit_honest entry readings at sub (readings.by_spool sub.spool)
no_changes host entry readings at (call.Admit envelope) = λ h. refl
no_changes host entry readings at (call.List after which) = λ h. refl
no_changes host entry readings at (call.Show serial) = λ h. show_reads (readings.message serial)
no_changes host entry readings at (call.Hold serial) = hold_honest (readings.message serial)
no_changes host entry readings at (call.Release serial) =
    release_honest at (readings.message serial)
no_changes host entry readings at (call.Requeue serial) =
    requeue_honest readings.head at (readings.message serial)
no_changes host entry readings at (call.Delete serial) =
    delete_honest entry at readings.head (readings.message serial)
no_changes host entry readings at (call.HoldAll which) =
    move_all_honest move.Hold (filter (is_selected which) readings.messages)
no_changes host entry readings at (call.ReleaseAll which) =
    move_all_honest (move.Release at) (filter (is_selected which) readings.messages)
no_changes host entry readings at (call.DeleteAll which) =
    delete_all_honest entry at readings.head (filter (is_selected which) readings.messages)
no_changes host entry readings at (call.Lines after) = λ h. refl
no_changes host entry readings at (call.PutLine line) =
    put_line_honest entry.quota.lines readings.counts.lines line
    (readings.line line.pattern.0 line.pattern.1)
no_changes host entry readings at (call.DropLine pattern) =
    drop_line_honest pattern (readings.line pattern.0 pattern.1)
no_changes host entry readings at (call.Check class who) = λ h. refl
no_changes host entry readings at (call.Import label file) =
    import_honest entry.quota.lines readings label file (readings.mark label)
no_changes host entry readings at (call.Outcome report) =
    outcome_honest host entry at readings.head report (readings.message report.serial)
no_changes host entry readings at (call.Due after) = λ h. refl
no_changes host entry readings at call.Sweep =
    sweep_honest host entry at readings.head readings.messages
no_changes host entry readings at (call.Notices after) = λ h. refl
no_changes host entry readings at (call.Notice number) =
    λ h. show_notice_reads (readings.notice number)
no_changes host entry readings at (call.History before) = λ h. refl
no_changes host entry readings at (call.FindHistory pattern before) = λ h. refl
no_changes host entry readings at call.Usage = λ h. refl
no_changes host entry readings at call.Limits = λ h. refl
no_changes host entry readings at (call.Report which) = λ h. refl

pub reading_has_none : (host : List ℕ) (entry : Entry) (readings : Readings) (at : ℕ) (asked : Call)
    → only_reads asked ≡ true → (decide host entry readings at asked).changes ≡ []
unfolding decide
reading_has_none host entry readings at (call.Admit envelope) h = refl
reading_has_none host entry readings at (call.List after which) h = refl
reading_has_none host entry readings at (call.Show serial) h = show_reads (readings.message serial)
reading_has_none host entry readings at (call.Lines after) h = refl
reading_has_none host entry readings at (call.Check class who) h = refl
reading_has_none host entry readings at (call.Due after) h = refl
reading_has_none host entry readings at (call.Notices after) h = refl
reading_has_none host entry readings at (call.Notice number) h =
    show_notice_reads (readings.notice number)
reading_has_none host entry readings at (call.History before) h = refl
reading_has_none host entry readings at (call.FindHistory pattern before) h = refl
reading_has_none host entry readings at call.Usage h = refl
reading_has_none host entry readings at call.Limits h = refl
reading_has_none host entry readings at (call.Report which) h = refl
reading_has_none host entry readings at asked h = told false _ refl h

pub used_label_has_none : (host : List ℕ) (entry : Entry) (readings : Readings) (at : ℕ)
    (label file : List ℕ) (mark : Mark) → readings.mark label ≡ Some mark →
    (decide host entry readings at (call.Import label file)).changes ≡ []
unfolding decide
used_label_has_none host entry readings at label file mark used =
    ap (λ (m : Option Mark). (import entry.quota.lines readings label file m).changes) used
    ∙ used_label (sha256 file) mark

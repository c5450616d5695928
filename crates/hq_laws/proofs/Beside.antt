-- Calls by which nobody leaves the queue: they touch neither the history nor the count of those who
-- left.
use Rattle.std.proofs.Common.{◌≡◌, ℕ, Bool, true, false, List, [], ◌∷◌, ◌++◌, map, refl}
use Rattle.std.proofs.Common.{ap, ◌∙◌, Some, None, Option, Ok, Err, Result}
use Rattle.std.specs.Prelude.{if◌then◌else◌, ◌==◌, nat_le, nat_lt}
use Rattle.std.specs.List.{flat_map}
use Rattle.std.specs.Str.{bytes_eq}
use Rattle.sha2.specs.Sha256.{sha256}
use Rattle.hq_rules.specs.TableFiles.{table_lines}
use Rattle.hq_values.specs.declared.failure.Refusal.{Refusal}
use Rattle.hq_values.specs.declared.failure.Refusal.TheVariants.{QuotaLines, SerialsSpent}
use Rattle.hq_values.specs.declared.failure.Refusal.TheVariants.{LabelUsed}
use Rattle.hq_kept.specs.declared.action.Action.{Action}
use Rattle.hq_kept.specs.declared.pattern.Class.{Class}
use Rattle.hq_kept.specs.declared.pattern.Line.{Line}
use Rattle.hq_rules.specs.declared.verdict.Verdict.{Verdict}
use Rattle.hq_rules.specs.declared.verdict.Verdict.TheVariants as verdict
use Rattle.hq_values.specs.Words.{customer_hold}
use Rattle.hq_rules.specs.Admission.{spent}
use Rattle.hq_kept.specs.Tallies.{all_gone}
use Rattle.hq_rules.specs.Moves.{held, released, requeued}
use Rattle.hq_kept.specs.declared.account.Entry.{Entry}
use Rattle.hq_kept.specs.declared.message.Message.{Message}
use Rattle.hq_tables.specs.Readings.{read_state}
use Rattle.hq_tables.specs.declared.change.Change.{Change}
use Rattle.hq_tables.specs.declared.change.Change.TheVariants.{PutHead, PutMessage, DropMessage}
use Rattle.hq_tables.specs.declared.change.Change.TheVariants.{PutMark}
use Rattle.hq_kept.specs.declared.mark.Mark.{Mark}
use Rattle.hq_kept.specs.declared.notice.Notice.{Notice}
use Rattle.hq_tables.specs.Tables.{State, change_all}
use Rattle.hq_isolation.proofs.Many.{change_all-append}
use Rattle.hq_rules.specs.AccessLines as lines
use Rattle.hq_rules.specs.Answering.{tell, refuse}
use Rattle.hq_rules.specs.Imports.{line_met, counts_of, mark_of, set_by, changes_of}
use Rattle.hq_rules.specs.Imports.{taken, first_import, import}
use Rattle.hq_rules.specs.Messages as messages
use Rattle.hq_rules.specs.Notices.{show_notice}
use Rattle.hq_rules.specs.Queues as queues
use Rattle.hq_rules.specs.Submissions as submissions
use Rattle.hq_rules.specs.declared.answer.Answer.TheVariants as answer
use Rattle.hq_rules.specs.declared.answer.LinePut.{LinePut}
use Rattle.hq_rules.specs.declared.answer.LinePut.TheVariants.{Added, Changed, Same}
use Rattle.hq_rules.specs.declared.call.Origin.{Origin}
use Rattle.hq_rules.specs.declared.call.Submission.{Submission}
use Rattle.hq_rules.specs.declared.call.Move.{Move}
use Rattle.hq_rules.specs.declared.decision.Decision.{Decision}

-- the same history, and as many who left
pub record IsBeside (s t : State) : Type 0 where
  pub ends : t.ends ≡ s.ends
  pub gone : all_gone t.head.tally ≡ all_gone s.head.tally

abbrev pub Leaves : State → Decision → Type 0
Leaves s d = IsBeside s (change_all d.changes s)

abbrev LeavesAll : List Change → Type 0
LeavesAll cs = (s : State) → IsBeside s (change_all cs s)

pub itself : (s : State) → IsBeside s s
itself s = record { ends = refl; gone = refl }

both_leave : (xs ys : List Change) → LeavesAll xs → LeavesAll ys → LeavesAll (xs ++ ys)
both_leave xs ys first second s =
    let a = first s in
    let b = second (change_all xs s) in
    record {
      ends = ap (λ (u : State). u.ends) (change_all-append xs ys s) ∙ b.ends ∙ a.ends;
      gone = ap (λ (u : State). all_gone u.head.tally) (change_all-append xs ys s) ∙ b.gone
          ∙ a.gone;
    }

each_leaves : {X : Type 0} (f : X → List Change) → ((x : X) → LeavesAll (f x)) → (xs : List X) →
    LeavesAll (flat_map f xs)
each_leaves f one [] s = itself s
each_leaves f one (x ∷ xs) s = both_leave (f x) (flat_map f xs) (one x) (each_leaves f one xs) s

-- ---- one message, and mail that comes in

moved_leaves : (s : State) (o : Option Message) → Leaves s (messages.moved o)
moved_leaves s None = itself s
moved_leaves s (Some m) = record { ends = refl; gone = refl }

pub hold_leaves : (s : State) (o : Option Message) → Leaves s (messages.hold o)
hold_leaves s None = itself s
hold_leaves s (Some m) = moved_leaves s (held customer_hold m)

pub release_leaves : (s : State) (at : ℕ) (o : Option Message) → Leaves s (messages.release at o)
release_leaves s at None = itself s
release_leaves s at (Some m) = moved_leaves s (released at m)

pub requeue_leaves : (s : State) (at : ℕ) (o : Option Message) →
    Leaves s (messages.requeue s.head at o)
requeue_leaves s at None = itself s
requeue_leaves s at (Some m) = cases (s.head.next_serial == spent) where
  cases : (b : Bool) → Leaves s (if b then refuse SerialsSpent else
      record {
        answer = answer.Requeued s.head.next_serial;
        changes = DropMessage m.serial
            ∷ PutHead (messages.next_head s.head)
            ∷ PutMessage (requeued at s.head.next_serial m) ∷ [];
      })
  cases true = itself s
  cases false = record { ends = refl; gone = refl }

pub show_leaves : (s : State) (o : Option Message) → Leaves s (messages.show o)
show_leaves s None = itself s
show_leaves s (Some m) = itself s

settled_leaves : (s : State) (at : ℕ) (origin : Origin) (serial : Result ℕ Refusal) (v : Verdict) →
    Leaves s (submissions.settled s.head at origin serial v)
settled_leaves s at origin serial (verdict.Rejected refused) = itself s
settled_leaves s at origin serial (verdict.Discarded refused) = itself s
settled_leaves s at origin (Err refusal) (verdict.Queue kept refused redirect held) = itself s
settled_leaves s at origin (Ok serial) (verdict.Queue kept refused redirect held) =
    record { ends = refl; gone = refl }

pub submit_leaves : (s : State) (entry : Entry) (at : ℕ) (sub : Submission) (o : Option Message) →
    Leaves s (submissions.submit entry (read_state s) at sub o)
submit_leaves s entry at sub (Some m) = itself s
submit_leaves s entry at sub None = settled_leaves s at (submissions.origin_of sub) _ _

pub show_notice_leaves : (s : State) (o : Option Notice) → Leaves s (show_notice o)
show_notice_leaves s None = itself s
show_notice_leaves s (Some notice) = itself s

-- ---- lines

pub put_leaves : (s : State) (quota count : ℕ) (line : Line) (o : Option Action) →
    Leaves s (lines.put_line quota count line o)
put_leaves s quota count line (Some known) = over (lines.same_action known line.action) where
  over : (b : Bool) → Leaves s (if b then tell (answer.LinePut Same) else lines.set Changed line)
  over true = itself s
  over false = record { ends = refl; gone = refl }
put_leaves s quota count line None = beside (nat_le quota count) where
  beside : (b : Bool) → Leaves s (if b then refuse QuotaLines else lines.set Added line)
  beside true = itself s
  beside false = record { ends = refl; gone = refl }

pub drop_leaves : (s : State) (pattern : Class × List ℕ) (o : Option Action) →
    Leaves s (lines.drop_line pattern o)
drop_leaves s pattern None = itself s
drop_leaves s pattern (Some action) = record { ends = refl; gone = refl }

set_leaves : (row : Line × LinePut) → LeavesAll (set_by row)
set_leaves (line, Same) s = itself s
set_leaves (line, Added) s = record { ends = refl; gone = refl }
set_leaves (line, Changed) s = record { ends = refl; gone = refl }

taken_leaves : (s : State) (quota count : ℕ) (label digest : List ℕ) (ls : List Line) →
    Leaves s (taken quota count label digest (map (line_met (read_state s)) ls))
taken_leaves s quota count label digest ls = cases (nat_lt quota _) where
  rows : List (Line × LinePut)
  rows = map (line_met (read_state s)) ls

  new : Mark
  new = mark_of label digest (counts_of rows)

  cases : (b : Bool) → Leaves s (if b then refuse QuotaLines else
      record {
        answer = answer.Imported (counts_of rows);
        changes = changes_of label digest rows;
      })
  cases true = itself s
  cases false = both_leave (flat_map set_by rows) (PutMark new ∷ [])
      (each_leaves set_by set_leaves rows) (λ u. record { ends = refl; gone = refl }) s

pub import_leaves : (s : State) (quota : ℕ) (label file : List ℕ) (o : Option Mark) →
    Leaves s (import quota (read_state s) label file o)
import_leaves s quota label file (Some found) = known (bytes_eq (sha256 file) found.digest) where
  known : (b : Bool) → Leaves s (if b then
      tell (answer.Imported (record {
        added = found.added;
        changed = found.changed;
        same = found.same;
      })) else refuse LabelUsed)
  known true = itself s
  known false = itself s
import_leaves s quota label file None = rows (table_lines file) where
  rows : (read : Result (List Line) Refusal) →
      Leaves s (first_import quota (read_state s) label (sha256 file) read)
  rows (Err refusal) = itself s
  rows (Ok ls) = taken_leaves s quota (read_state s).counts.lines label (sha256 file) ls

-- ---- moves of all

put_moved_leaves : (o : Option Message) → LeavesAll (queues.put o)
put_moved_leaves None s = itself s
put_moved_leaves (Some m) s = record { ends = refl; gone = refl }

pub move_all_leaves : (s : State) (move : Move) (ms : List Message) →
    Leaves s (queues.move_all move ms)
move_all_leaves s move ms = each_leaves (λ m. queues.put (queues.moved_by move m))
    (λ m. put_moved_leaves (queues.moved_by move m)) ms s

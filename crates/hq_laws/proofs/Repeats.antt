-- An import that was done is kept for good: whatever the customer calls for afterwards, the same
-- file under its label is told the same and changes nothing.
use Rattle.std.proofs.Common.{◌≡◌, ◌≢◌, ⊎_elim, ℕ, Bool, true, false, cond, List, [], ◌∷◌, map}
use Rattle.std.proofs.Common.{refl, sym, ap, ◌∙◌, subst, Some, None, Option, Ok, Err, Result}
use Rattle.std.specs.Prelude.{if◌then◌else◌, nat_lt, filter}
use Rattle.std.specs.List.{flat_map}
use Rattle.std.specs.FinMap.{get, insert, values, get-insert}
use Rattle.std.specs.Cmp.Lexicographic.{nat_list_cmp_total}
use Rattle.std.specs.Str.{bytes_eq}
use Rattle.std.proofs.lemmas.Slice.Eq.{bytes_eq-Decides}
use Rattle.std.proofs.lemmas.Map.Lookups.{exact_bytes}
use Rattle.sha2.specs.Sha256.{sha256}
use Rattle.hq_owned.proofs.Parts.{tied_true, tied_false}
use Rattle.hq_values.specs.declared.failure.Refusal.{Refusal}
use Rattle.hq_values.specs.declared.failure.Refusal.TheVariants.{QuotaLines, LabelUsed}
use Rattle.hq_rules.specs.TableFiles.{table_lines}
use Rattle.hq_kept.specs.declared.pattern.Line.{Line}
use Rattle.hq_kept.specs.declared.account.Entry.{Entry}
use Rattle.hq_tables.specs.Readings.{read_state}
use Rattle.hq_tables.specs.declared.change.Change.TheVariants.{PutMark}
use Rattle.hq_kept.specs.declared.mark.Mark.{Mark}
use Rattle.hq_tables.specs.Tables.{State, change_all}
use Rattle.hq_tables.proofs.Customers.{cases_name}
use Rattle.hq_isolation.proofs.Many.{change_all-append}
use Rattle.hq_rules.specs.Answering.{tell, refuse}
use Rattle.hq_rules.specs.Decision.{decide}
use Rattle.hq_rules.specs.Imports.{line_met, counts_of, mark_of, set_by, changes_of, repeated}
use Rattle.hq_rules.specs.Imports.{taken}
use Rattle.hq_rules.specs.Imports.{first_import, import}
use Rattle.hq_rules.specs.Machine.{step}
use Rattle.hq_rules.specs.Selections.{is_selected}
use Rattle.hq_rules.specs.declared.answer.Answer.{Answer}
use Rattle.hq_rules.specs.declared.answer.Answer.TheVariants as answer
use Rattle.hq_rules.specs.declared.answer.ImportCounts.{ImportCounts}
use Rattle.hq_rules.specs.declared.answer.LinePut.{LinePut}
use Rattle.hq_rules.specs.declared.call.Call.{Call}
use Rattle.hq_rules.specs.declared.call.Call.TheVariants as call
use Rattle.hq_rules.specs.declared.decision.Decision.{Decision}
use Rattle.hq_rules.specs.declared.call.Move.TheVariants as move
use Rattle.hq_laws.specs.Entries.{TimedCall, state_over}
use Rattle.hq_soundness.proofs.Imported.{same_marks}
use Rattle.hq_laws.proofs.Marks.{hold_leaves, release_leaves, requeue_leaves, delete_leaves}
use Rattle.hq_laws.proofs.Marks.{show_leaves, submit_leaves, put_leaves, drop_leaves}
use Rattle.hq_laws.proofs.Marks.{outcome_leaves, sweep_leaves, show_notice_leaves}
use Rattle.hq_laws.proofs.Marks.{move_all_leaves, delete_all_leaves}

none_some : {A : Type 0} (a : A) → ◌≡◌ {A = Option A} None (Some a) → ⊥
none_some a e = cc

-- ---- a mark stays, whatever is done

-- a mark that is there is there after an import under any label
abbrev Has : List ℕ → Mark → State → Type 0
Has label mark s = get s.marks label ≡ Some mark

put_elsewhere : (s : State) (label : List ℕ) (mark : Mark) (new : Mark) → Has label mark s →
    get s.marks new.label ≡ None → get (insert s.marks new.label new) label ≡ Some mark
put_elsewhere s label mark new has none = ⊎_elim
    (λ (same : label ≡ new.label). absurd (none_some mark (sym none ∙ ap (get s.marks) (sym same)
    ∙ has)))
    (λ (apart : label ≢ new.label). get-insert nat_list_cmp_total s.marks new.label new label
    ∙ ap (λ b. cond b (Some new) (get s.marks label))
    (tied_false exact_bytes label new.label apart) ∙ has)
    (cases_name label new.label)

taken_has : (s : State) (label : List ℕ) (mark : Mark) (quota count : ℕ) (other digest : List ℕ)
    (ls : List Line) → Has label mark s → get s.marks other ≡ None →
    Has label mark (change_all (taken quota count other digest
    (map (line_met (read_state s)) ls)).changes s)
taken_has s label mark quota count other digest ls has none = cases (nat_lt quota _) where
  rows : List (Line × LinePut)
  rows = map (line_met (read_state s)) ls

  new : Mark
  new = mark_of other digest (counts_of rows)

  cases : (b : Bool) → Has label mark
      (change_all (if b then refuse QuotaLines else
      record {
        answer = answer.Imported (counts_of rows);
        changes = changes_of other digest rows;
      }).changes s)
  cases true = has
  cases false =
      subst (Has label mark) (sym (change_all-append (flat_map set_by rows) (PutMark new ∷ []) s))
      (ap (λ marks. get (insert marks other new) label) (same_marks rows s)
      ∙ put_elsewhere s label mark new has none)

import_has : (s : State) (label : List ℕ) (mark : Mark) (quota : ℕ) (other file : List ℕ) →
    Has label mark s → Has label mark
    (change_all (import quota (read_state s) other file (get s.marks other)).changes s)
import_has s label mark quota other file has = cases (get s.marks other) refl where
  known : (found : Mark) (b : Bool) →
      Has label mark (change_all (if b then
      tell (answer.Imported (record {
        added = found.added;
        changed = found.changed;
        same = found.same;
      })) else refuse LabelUsed).changes s)
  known found true = has
  known found false = has

  rows : (read : Result (List Line) Refusal) → get s.marks other ≡ None →
      Has label mark (change_all (first_import quota (read_state s) other (sha256 file)
      read).changes s)
  rows (Err refusal) none = has
  rows (Ok ls) none = taken_has s label mark quota (read_state s).counts.lines other (sha256 file)
      ls has none

  cases : (o : Option Mark) → get s.marks other ≡ o →
      Has label mark (change_all (import quota (read_state s) other file o).changes s)
  cases (Some found) e = known found (bytes_eq (sha256 file) found.digest)
  cases None e = rows (table_lines file) e

step_has : (host : List ℕ) (entry : Entry) (s : State) (label : List ℕ) (mark : Mark) (at : ℕ)
    (call : Call) → Has label mark s → Has label mark (step host entry s at call).1
unfolding decide
step_has host entry s label mark at (call.Submit sub) has =
    ap (λ marks. get marks label) (submit_leaves s entry at sub ((read_state s).by_spool sub.spool))
    ∙ has
step_has host entry s label mark at (call.List after which) has = has
step_has host entry s label mark at (call.Show serial) has =
    ap (λ marks. get marks label) (show_leaves s (get s.messages serial)) ∙ has
step_has host entry s label mark at (call.Hold serial) has =
    ap (λ marks. get marks label) (hold_leaves s (get s.messages serial)) ∙ has
step_has host entry s label mark at (call.Release serial) has =
    ap (λ marks. get marks label) (release_leaves s at (get s.messages serial)) ∙ has
step_has host entry s label mark at (call.Requeue serial) has =
    ap (λ marks. get marks label) (requeue_leaves s at (get s.messages serial)) ∙ has
step_has host entry s label mark at (call.Delete serial) has =
    ap (λ marks. get marks label) (delete_leaves s entry at (get s.messages serial)) ∙ has
step_has host entry s label mark at (call.HoldAll which) has =
    ap (λ marks. get marks label)
    (move_all_leaves s move.Hold (filter (is_selected which) (values s.messages))) ∙ has
step_has host entry s label mark at (call.ReleaseAll which) has =
    ap (λ marks. get marks label)
    (move_all_leaves s (move.Release at) (filter (is_selected which) (values s.messages))) ∙ has
step_has host entry s label mark at (call.DeleteAll which) has =
    ap (λ marks. get marks label)
    (delete_all_leaves s entry at (filter (is_selected which) (values s.messages))) ∙ has
step_has host entry s label mark at (call.Lines after) has = has
step_has host entry s label mark at (call.PutLine line) has =
    ap (λ marks. get marks label)
    (put_leaves s entry.quota.lines (read_state s).counts.lines line (get s.lines line.pattern))
    ∙ has
step_has host entry s label mark at (call.DropLine pattern) has =
    ap (λ marks. get marks label) (drop_leaves s pattern (get s.lines pattern)) ∙ has
step_has host entry s label mark at (call.Check class who) has = has
step_has host entry s label mark at (call.Admit envelope) has = has
step_has host entry s label mark at (call.Import other file) has =
    import_has s label mark entry.quota.lines other file has
step_has host entry s label mark at (call.Outcome report) has =
    ap (λ marks. get marks label) (outcome_leaves host entry s at report
    (get s.messages report.serial)) ∙ has
step_has host entry s label mark at (call.Due after) has = has
step_has host entry s label mark at call.Sweep has =
    ap (λ marks. get marks label) (sweep_leaves host entry s at (values s.messages)) ∙ has
step_has host entry s label mark at (call.Notices after) has = has
step_has host entry s label mark at (call.Notice number) has =
    ap (λ marks. get marks label) (show_notice_leaves s ((read_state s).notice number)) ∙ has
step_has host entry s label mark at (call.History before) has = has
step_has host entry s label mark at (call.FindHistory pattern before) has = has
step_has host entry s label mark at call.Usage has = has
step_has host entry s label mark at call.Limits has = has
step_has host entry s label mark at (call.Report which) has = has

calls_have : (s : State) (label : List ℕ) (mark : Mark) (calls : List TimedCall) →
    Has label mark s → Has label mark (state_over s calls)
calls_have s label mark [] has = has
calls_have s label mark (it ∷ more) has =
    calls_have (step it.host it.entry s it.at it.call).1 label mark more
    (step_has it.host it.entry s label mark it.at it.call has)

-- ---- what an accepted import leaves

-- the same file is told these counts by this mark
abbrev Tells : List ℕ → ImportCounts → Mark → Type 0
Tells file counts mark = repeated (sha256 file) mark ≡ tell (answer.Imported counts)

same_counts : (a b : ImportCounts) → ◌≡◌ {A = Answer} (answer.Imported a) (answer.Imported b) →
    a ≡ b
same_counts a b e = cc

refused_imported : (refusal : Refusal) (counts : ImportCounts) →
    ◌≡◌ {A = Answer} (answer.Refused refusal) (answer.Imported counts) → ⊥
refused_imported refusal counts e = cc

-- after an import that was answered these counts, its mark is there and tells them
record Accepted (label file : List ℕ) (counts : ImportCounts) (s : State) : Type 0 where
  mark : Mark
  has : Has label mark s
  tells : Tells file counts mark

same_bytes : (bytes : List ℕ) → bytes_eq bytes bytes ≡ true
same_bytes bytes = (bytes_eq-Decides bytes bytes).1 refl

accepted : (quota : ℕ) (s : State) (label file : List ℕ) (counts : ImportCounts) →
    (import quota (read_state s) label file (get s.marks label)).answer ≡ answer.Imported counts
    → Accepted label file counts (change_all (import quota (read_state s) label file
    (get s.marks label)).changes s)
accepted quota s label file counts told = cases (get s.marks label) refl told where
  known : (mark : Mark) (b : Bool) → Has label mark s → (d : Decision) →
      d ≡ (if b then tell (answer.Imported
      (record { added = mark.added; changed = mark.changed; same = mark.same })) else
      refuse LabelUsed)
      → repeated (sha256 file) mark ≡ d → d.answer ≡ answer.Imported counts →
      Accepted label file counts (change_all d.changes s)
  known mark true has d is same told =
      let c : ImportCounts = record { added = mark.added; changed = mark.changed; same = mark.same }
      in
      subst (λ (x : Decision). Accepted label file counts (change_all x.changes s)) (sym is)
      (record {
        mark = mark;
        has = has;
        tells = same ∙ is
            ∙ ap (λ x. tell (answer.Imported x)) (same_counts c counts
            (sym (ap (λ (x : Decision). x.answer) is) ∙ told));
      })
  known mark false has d is same told =
      absurd (refused_imported LabelUsed counts (sym (ap (λ (x : Decision). x.answer) is) ∙ told))

  set : (ls : List Line) (b : Bool) → get s.marks label ≡ None →
      (let rows = map (line_met (read_state s)) ls in
      let d = if b then refuse QuotaLines else
      record {
        answer = answer.Imported (counts_of rows);
        changes = changes_of label (sha256 file) rows;
      } in
      d.answer ≡ answer.Imported counts → Accepted label file counts (change_all d.changes s))
  set ls true none told = absurd (refused_imported QuotaLines counts told)
  set ls false none told =
      let rows = map (line_met (read_state s)) ls in
      let digest = sha256 file in
      let mark = mark_of label digest (counts_of rows) in
      subst (Accepted label file counts)
      (sym (change_all-append (flat_map set_by rows) (PutMark mark ∷ []) s))
      (record {
        mark = mark;
        has = ap (λ marks. get (insert marks label mark) label) (same_marks rows s)
            ∙ get-insert nat_list_cmp_total s.marks label mark label
            ∙ ap (λ b. cond b (Some mark) (get s.marks label)) (tied_true nat_list_cmp_total label);
        tells = ap (λ b. if b then tell (answer.Imported (counts_of rows)) else refuse LabelUsed)
            (same_bytes digest) ∙ ap (λ x. tell (answer.Imported x))
            (same_counts (counts_of rows) counts told);
      })

  rows : (read : Result (List Line) Refusal) → get s.marks label ≡ None →
      (first_import quota (read_state s) label (sha256 file) read).answer ≡ answer.Imported counts
      → Accepted label file counts (change_all
      (first_import quota (read_state s) label (sha256 file) read).changes s)
  rows (Err refusal) none told = absurd (refused_imported refusal counts told)
  rows (Ok ls) none told = set ls (nat_lt quota _) none told

  cases : (o : Option Mark) → get s.marks label ≡ o →
      (import quota (read_state s) label file o).answer ≡ answer.Imported counts →
      Accepted label file counts (change_all (import quota (read_state s) label file o).changes s)
  cases (Some mark) e told = known mark (bytes_eq (sha256 file) mark.digest) e
      (repeated (sha256 file) mark) refl refl told
  cases None e told = rows (table_lines file) e told

pub repeats : (host later_host : List ℕ) (entry later_entry : Entry) (s : State) (at : ℕ)
    (label file : List ℕ) (counts : ImportCounts) (calls : List TimedCall) (later : ℕ) →
    (step host entry s at (call.Import label file)).0 ≡ answer.Imported counts
    → (let after = state_over (step host entry s at (call.Import label file)).1 calls in
    step later_host later_entry after later (call.Import label file)
    ≡ (answer.Imported counts, after))
unfolding decide
repeats host later_host entry later_entry s at label file counts calls later told =
    let done = accepted entry.quota.lines s label file counts told in
    let after = state_over (step host entry s at (call.Import label file)).1 calls in
    let has = calls_have (step host entry s at (call.Import label file)).1 label done.mark calls
    done.has in
    ap (λ (d : Decision). (d.answer, change_all d.changes after))
    (ap (import later_entry.quota.lines (read_state after) label file) has ∙ done.tells)

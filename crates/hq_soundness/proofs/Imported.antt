-- An import keeps a customer's state sound: the lines that it adds were counted before, and they
-- are no more than the quota.
use Rattle.std.proofs.Common.{◌≡◌, ℕ, ◌+◌, ◌<◌, ◌≤◌, Bool, true, false, cond, List, [], ◌∷◌, map}
use Rattle.std.proofs.Common.{length, refl, sym, ap, ◌∙◌, subst, Some, None, Option, Ok, Err}
use Rattle.std.proofs.Common.{Result, arith}
use Rattle.std.specs.Prelude.{if◌then◌else◌, nat_lt, is_none, is_some}
use Rattle.std.specs.List.{flat_map}
use Rattle.std.specs.FinMap.{FinMap, get, insert, entries, len, get-insert, len-insert, len-entries}
use Rattle.std.specs.Ordering.{eq_by_cmp}
use Rattle.std.proofs.lemmas.Bool.Decides.{nat_tests}
use Rattle.std.proofs.lemmas.List.Sums.{sum_by-cons}
use Rattle.std.specs.Str.{bytes_eq}
use Rattle.sha2.specs.Sha256.{sha256}
use Rattle.hq_rules.specs.TableFiles.{table_lines}
use Rattle.hq_values.specs.declared.failure.Refusal.{Refusal}
use Rattle.hq_values.specs.declared.failure.Refusal.TheVariants.{QuotaLines, LabelUsed}
use Rattle.hq_kept.specs.declared.action.Action.{Action}
use Rattle.hq_kept.specs.declared.pattern.Class.{Class}
use Rattle.hq_kept.specs.declared.pattern.Line.{Line}
use Rattle.hq_kept.specs.declared.account.Entry.{Entry}
use Rattle.hq_tables.specs.declared.change.Change.TheVariants.{PutLine, PutMark}
use Rattle.hq_kept.specs.declared.mark.Mark.{Mark}
use Rattle.hq_tables.specs.Readings.{read_state}
use Rattle.hq_tables.specs.Sound.{SoundState}
use Rattle.hq_tables.specs.Tables.{State, line_cmp, change, change_all}
use Rattle.hq_tables.proofs.Orders.{line_total}
use Rattle.hq_isolation.proofs.Many.{change_all-append}
use Rattle.hq_isolation.proofs.States.{change_shaped}
use Rattle.hq_rules.specs.Answering.{tell, refuse}
use Rattle.hq_rules.specs.AccessLines.{same_action}
use Rattle.hq_rules.specs.Imports.{beside, line_met, is_put, rows_that, counts_of, mark_of, set_by}
use Rattle.hq_rules.specs.Imports.{changes_of, first_import, import}
use Rattle.hq_rules.specs.declared.answer.Answer.TheVariants as answer
use Rattle.hq_rules.specs.declared.answer.LinePut.{LinePut}
use Rattle.hq_rules.specs.declared.answer.LinePut.TheVariants.{Added, Changed, Same}
use Rattle.hq_soundness.proofs.Kept.{Keeps, quota_of, set_kept}

abbrev Actions : Type 0
Actions = FinMap line_cmp Action

abbrev Rows : Type 0
Rows = List (Line × LinePut)

-- ---- the lines are set one after another

-- how many of the rows are of patterns without a line
abbrev news : Actions → Rows → ℕ
news ls [] = 0
news ls (row ∷ rows) = cond (is_none (get ls row.0.pattern)) 1 0 + news ls rows

-- after a line was set, no pattern is without one that was not
still_known : (ls : Actions) (k p : Class × List ℕ) (a : Action) →
    cond (is_none (get (insert ls k a) p)) 1 0 ≤ cond (is_none (get ls p)) 1 0
still_known ls k p a = subst (λ o. cond (is_none o) 1 0 ≤ cond (is_none (get ls p)) 1 0)
    (sym (get-insert line_total ls k a p)) (cases (eq_by_cmp line_cmp p k) (is_none (get ls p))
    refl) where
      cases : (b c : Bool) → is_none (get ls p) ≡ c →
          cond (is_none (cond b (Some a) (get ls p))) 1 0 ≤ cond (is_none (get ls p)) 1 0
      cases true true e = omega arith
      cases true false e = omega arith
      cases false c e = omega arith

fewer_news : (ls : Actions) (k : Class × List ℕ) (a : Action) (rows : Rows) →
    news (insert ls k a) rows ≤ news ls rows
fewer_news ls k a [] = omega arith
fewer_news ls k a (row ∷ rows) = let one = still_known ls k row.0.pattern a in let rest =
    fewer_news ls k a rows in omega arith

-- there is room for the first, and then for the rest
room_for : (n rest : ℕ) (o : Option Action) → n + (cond (is_none o) 1 0 + rest) ≤ 5000 → o ≡ None →
    n < 5000
room_for n rest None few e = omega arith
room_for n rest (Some a) few e = cc

room_then : (n rest later : ℕ) (o : Option Action) → n + (cond (is_none o) 1 0 + rest) ≤ 5000 →
    later ≤ rest → cond (is_some o) n (n + 1) + later ≤ 5000
room_then n rest later None few e = omega arith
room_then n rest later (Some a) few e = omega arith

put_all : (rows : Rows) (s : State) → SoundState s → len s.lines + news s.lines rows ≤ 5000 →
    SoundState (change_all (flat_map set_by rows) s)
put_all [] s h few = h
put_all ((line, Same) ∷ rows) s h few =
    put_all rows s h (fewer (len s.lines) (news s.lines rows)
    (cond (is_none (get s.lines line.pattern)) 1 0) few) where
      fewer : (n rest one : ℕ) → n + (one + rest) ≤ 5000 → n + rest ≤ 5000
      fewer n rest one h = omega arith
put_all ((line, Added) ∷ rows) s h few = put_all rows (change (PutLine line) s)
    (set_kept s line h (room_for (len s.lines) (news s.lines rows) (get s.lines line.pattern) few))
    (subst (λ n. n + news (insert s.lines line.pattern line.action) rows ≤ 5000)
    (sym (len-insert line_total s.lines line.pattern line.action))
    (room_then (len s.lines) (news s.lines rows) _ (get s.lines line.pattern) few
    (fewer_news s.lines line.pattern line.action rows)))
put_all ((line, Changed) ∷ rows) s h few = put_all rows (change (PutLine line) s)
    (set_kept s line h (room_for (len s.lines) (news s.lines rows) (get s.lines line.pattern) few))
    (subst (λ n. n + news (insert s.lines line.pattern line.action) rows ≤ 5000)
    (sym (len-insert line_total s.lines line.pattern line.action))
    (room_then (len s.lines) (news s.lines rows) _ (get s.lines line.pattern) few
    (fewer_news s.lines line.pattern line.action rows)))

-- no mark is touched meanwhile
pub same_marks : (rows : Rows) (s : State) → (change_all (flat_map set_by rows) s).marks ≡ s.marks
same_marks [] s = refl
same_marks ((line, Same) ∷ rows) s = same_marks rows s
same_marks ((line, Added) ∷ rows) s = same_marks rows (change (PutLine line) s)
same_marks ((line, Changed) ∷ rows) s = same_marks rows (change (PutLine line) s)

-- ---- they were counted

-- the rows that are told as added are those of patterns without a line
added_are_new : (s : State) (lines : List Line) →
    news s.lines (map (line_met (read_state s)) lines)
    ≡ rows_that Added (map (line_met (read_state s)) lines)
added_are_new s [] = refl
added_are_new s (line ∷ lines) =
    let rows = map (line_met (read_state s)) lines in
    (λ i. one line.action (get s.lines line.pattern) i + added_are_new s lines i)
    ∙ sym (sum_by-cons (λ (row : Line × LinePut). cond (is_put Added row.1) 1 0)
    (line_met (read_state s) line) rows) where
      weight : Bool → ℕ
      weight b = cond b 1 0

      one : (action : Action) (o : Option Action) →
          weight (is_none o) ≡ weight (is_put Added (beside action o))
      one action None = refl
      one action (Some known) = told (same_action known action) where
        told : (b : Bool) → weight false ≡ weight (is_put Added (if b then Same else Changed))
        told true = refl
        told false = refl

within : (quota n : ℕ) → nat_lt quota n ≡ false → n ≤ quota
within quota n h = grind (arith, nat_tests)

-- a mark under a new label
mark_kept : (s : State) (mark : Mark) → SoundState s → get s.marks mark.label ≡ None →
    SoundState (change (PutMark mark) s)
mark_kept s mark h new = record {
  shaped = change_shaped s (PutMark mark) h.shaped new;
  conserved = h.conserved;
  bounded = h.bounded;
}

pub import_kept : (s : State) (entry : Entry) (label file : List ℕ) → SoundState s →
    Keeps s (import entry.quota.lines (read_state s) label file (get s.marks label))
import_kept s entry label file h = cases (get s.marks label) refl where
  known : (mark : Mark) (b : Bool) → Keeps s (if b then
      tell (answer.Imported (record {
        added = mark.added;
        changed = mark.changed;
        same = mark.same;
      })) else refuse LabelUsed)
  known mark true = h
  known mark false = h

  fits : (lines : List Line) (b : Bool) → get s.marks label ≡ None →
      nat_lt entry.quota.lines (length (entries s.lines) + rows_that Added
      (map (line_met (read_state s)) lines)) ≡ b
      → Keeps s (let rows = map (line_met (read_state s)) lines in if b then refuse QuotaLines else
      record {
        answer = answer.Imported (counts_of rows);
        changes = changes_of label (sha256 file) rows;
      })
  fits lines true new e = h
  fits lines false new e =
      let rows = map (line_met (read_state s)) lines in
      let few = within entry.quota.lines _ e in
      let most = (quota_of entry).1 in
      let counted = len-entries s.lines in
      let told = added_are_new s lines in
      let mark = mark_of label (sha256 file) (counts_of rows) in
      let set = put_all rows s h (omega arith) in
      subst SoundState (sym (change_all-append (flat_map set_by rows) (PutMark mark ∷ []) s))
      (mark_kept (change_all (flat_map set_by rows) s) mark set
      (ap (λ marks. get marks label) (same_marks rows s) ∙ new))

  rows : (read : Result (List Line) Refusal) → get s.marks label ≡ None →
      Keeps s (first_import entry.quota.lines (read_state s) label (sha256 file) read)
  rows (Err refusal) new = h
  rows (Ok lines) new = fits lines
      (nat_lt entry.quota.lines (length (entries s.lines) + rows_that Added
      (map (line_met (read_state s)) lines))) new refl

  cases : (o : Option Mark) → get s.marks label ≡ o →
      Keeps s (import entry.quota.lines (read_state s) label file o)
  cases (Some mark) e = known mark (bytes_eq (sha256 file) mark.digest)
  cases None e = rows (table_lines file) e

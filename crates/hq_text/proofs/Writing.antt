-- A report that is written message by message is that of the list.
use Rattle.std.proofs.Common.{◌≡◌, ℕ, suc, ◌+◌, ◌==◌, false, List, [], ◌∷◌, ◌++◌, length, sym, ap}
use Rattle.std.proofs.Common.{◌≤◌, Bool, true, Result, Ok, Err, refl, ◌∙◌, append-nil, lit≤, arith}
use Rattle.std.specs.Prelude.{codes, if◌then◌else◌}
use Rattle.std.proofs.lemmas.Bool.Decides.{nat_tests}
use Rattle.std.specs.List.{flat_map}
use Rattle.std.proofs.lemmas.Grind.{common_steps, flat_map-append}
use Rattle.hq_memory.specs.Making.{MadeIn}
use Rattle.hq_kept.specs.declared.message.Message.{Message}
use Rattle.hq_kept.specs.Messages.{is_on_hold}
use Rattle.hq_rules.specs.TextLines.{lf, text_of}
use Rattle.hq_rules.specs.QueueReports.{Written, header, head_lines, message_lines, bytes_of}
use Rattle.hq_rules.specs.QueueReports.{held_of, hold_lines, message_line, recipient_lines}
use Rattle.hq_rules.specs.QueueReports.{top_lines}
use Rattle.hq_rules.specs.QueueReports.{written, written_with, added_lines, last_lines, summary}
use Rattle.hq_rules.specs.QueueReports.{report_lines, report_text}
use Rattle.hq_text.proofs.Joined.{text_of-nil, text_of-cons, text_of-append}

-- what was made in this way is so in that one too
pub made_weaker : {A E : Type 0} (refused : Type 0) (made : Result A E) (P Q : A → Type 0) →
    ((x : A) → P x → Q x) → MadeIn refused made P → MadeIn refused made Q
made_weaker refused (Ok x) P Q more is = more x is
made_weaker refused (Err e) P Q more is = is

length_more : (ms : List Message) (m : Message) → length (ms ++ m ∷ []) ≡ length ms + 1
length_more ms m = grind (arith, common_steps)

bytes_more : (ms : List Message) (m : Message) → bytes_of (ms ++ m ∷ []) ≡ bytes_of ms + m.size
bytes_more ms m = grind (arith, common_steps)

held_more : (ms : List Message) (m : Message) → held_of (ms ++ m ∷ []) ≡ held_of ms +
    (if is_on_hold m.state then 1 else 0)
held_more ms m = grind (arith, common_steps)

all_more : (ms : List Message) (m : Message) →
    flat_map message_lines (ms ++ m ∷ []) ≡ flat_map message_lines ms ++ message_lines m
all_more ms m = flat_map-append message_lines ms (m ∷ [])
    ∙ ap (λ lines. flat_map message_lines ms ++ lines) (append-nil (message_lines m))

pub not_none : (n : ℕ) → (n ≡ 0 → ⊥) → (n == 0) ≡ false
not_none n h = grind (arith, nat_tests)

some : (n : ℕ) → (suc n == 0) ≡ false
some n = not_none (suc n) (λ e. omega arith)

headed : (n : ℕ) → head_lines (suc n) ≡ header ∷ []
headed n = ap (λ none. if none then [] else header ∷ []) (some n)

not_headed : (n : ℕ) (m : Message) → added_lines (suc n) m ≡ message_lines m
not_headed n m = ap (λ none. (if none then header ∷ [] else []) ++ message_lines m) (some n)

lines_more : (ms : List Message) (m : Message) →
    text_of lf (head_lines (length (ms ++ m ∷ [])) ++ flat_map message_lines (ms ++ m ∷ []))
    ≡ text_of lf (head_lines (length ms) ++ flat_map message_lines ms)
    ++ text_of lf (added_lines (length ms) m)
lines_more [] m =
    ap (λ lines. text_of lf (header ∷ lines)) (append-nil (message_lines m))
    ∙ sym (ap (λ text. text ++ text_of lf (header ∷ message_lines m)) (text_of-nil lf))
lines_more (x ∷ xs) m =
    let lines : List (List ℕ) = flat_map message_lines (x ∷ xs) in
    ap (λ heads. text_of lf (heads ++ flat_map message_lines (x ∷ (xs ++ m ∷ []))))
    (headed (length (xs ++ m ∷ [])))
    ∙ ap (λ rest. text_of lf (header ∷ rest)) (all_more (x ∷ xs) m)
    ∙ text_of-append lf (header ∷ lines) (message_lines m)
    ∙ ap (λ more. text_of lf (header ∷ lines) ++ text_of lf more) (sym (not_headed (length xs) m))
    ∙ ap (λ heads. text_of lf (heads ++ lines) ++ text_of lf (added_lines (suc (length xs)) m))
    (sym (headed (length xs)))

same_written : (a b : Written) → a.text ≡ b.text → a.queued ≡ b.queued → a.bytes ≡ b.bytes →
    a.held ≡ b.held → a ≡ b
same_written a b text queued bytes held =
    ap (λ x. record { text = x; queued = a.queued; bytes = a.bytes; held = a.held }) text
    ∙ ap (λ x. record { text = b.text; queued = x; bytes = a.bytes; held = a.held }) queued
    ∙ ap (λ x. record { text = b.text; queued = b.queued; bytes = x; held = a.held }) bytes
    ∙ ap (λ x. record { text = b.text; queued = b.queued; bytes = b.bytes; held = x }) held

-- one message more
pub written_more : (ms : List Message) (m : Message) →
    written (ms ++ m ∷ []) ≡ written_with m (written ms)
unfolding written written_with
written_more ms m = same_written _ _ (lines_more ms m) (length_more ms m) (bytes_more ms m)
    (held_more ms m)

with_one : (old new : Written) (m : Message) → new.text ≡ old.text
    ++ text_of lf (added_lines old.queued m) → new.queued ≡ old.queued + 1 →
    new.bytes ≡ old.bytes + m.size
    → new.held ≡ old.held + (if is_on_hold m.state then 1 else 0) → new ≡ written_with m old
unfolding written_with
with_one old new m text queued bytes held = same_written new _ text queued bytes held

-- what is added to a report is that of one message more
pub added_is : (old new : Written) (m : Message) → new.text ≡ old.text
    ++ text_of lf (added_lines old.queued m) → new.queued ≡ old.queued + 1 →
    new.bytes ≡ old.bytes + m.size
    → new.held ≡ old.held + (if is_on_hold m.state then 1 else 0) → (messages : List Message) →
    old ≡ written messages → new ≡ written (messages ++ m ∷ [])
added_is old new m text queued bytes held messages is = with_one old new m text queued bytes held
    ∙ ap (written_with m) is ∙ sym (written_more messages m)

-- the report with its last line
pub finished : (ms : List Message) → (written ms).text
    ++ text_of lf (last_lines (written ms).queued (written ms).bytes (written ms).held) ≡
    report_text ms
unfolding written report_text report_lines
finished [] = ap (λ text. text ++ text_of lf (last_lines 0 0 0)) (text_of-nil lf)
finished (m ∷ ms) =
    let lines : List (List ℕ) = flat_map message_lines (m ∷ ms) in
    let last : List ℕ = summary (suc (length ms)) (bytes_of (m ∷ ms)) (held_of (m ∷ ms)) in
    ap (λ heads. text_of lf (heads ++ lines)
    ++ text_of lf (last_lines (suc (length ms)) (bytes_of (m ∷ ms)) (held_of (m ∷ ms))))
    (headed (length ms))
    ∙ ap (λ none. text_of lf (header ∷ lines)
    ++ text_of lf (if none then codes "Mail queue is empty" ∷ [] else last ∷ []))
    (some (length ms))
    ∙ sym (text_of-append lf (header ∷ lines) (last ∷ []))

-- a report that was begun is that of no message
pub begun : (new : Written) → new.text ≡ [] → new.queued ≡ 0 → new.bytes ≡ 0 → new.held ≡ 0 →
    new ≡ written []
unfolding written
begun new text queued bytes held = same_written new _ (text ∙ sym (text_of-nil lf)) queued bytes
    held

-- the text of a report that was written, with its last line
pub finished_is : (w : Written) (text : List ℕ) → text ≡ w.text
    ++ text_of lf (last_lines w.queued w.bytes w.held) → (messages : List Message) →
    w ≡ written messages → text ≡ report_text messages
finished_is w text last messages is = last ∙ ap (λ (v : Written). v.text
    ++ text_of lf (last_lines v.queued v.bytes v.held)) is ∙ finished messages

-- ---- room for the sums

some_bytes : (end line : List ℕ) (heads lines : List (List ℕ)) → 1 ≤ length end →
    1 ≤ length (text_of end (heads ++ line ∷ lines))
some_bytes end line heads lines ended =
    let is = ap length (text_of-append end heads (line ∷ lines)
    ∙ ap (λ text. text_of end heads ++ text) (text_of-cons end line lines)) in
    grind (arith, common_steps, is, ended)

lines_of : (m : Message) →
    message_lines m ≡ message_line m ∷ (hold_lines m ++ flat_map recipient_lines m.pending)
unfolding message_lines top_lines
lines_of m = refl

-- a report has as many bytes as messages, or more
pub as_many_bytes : (old new : List ℕ) (n : ℕ) (m : Message) → n ≤ length old → new ≡ old
    ++ text_of lf (added_lines n m) → n + 1 ≤ length new
as_many_bytes old new n m fits is =
    let more : 1 ≤ length (text_of lf (added_lines n m)) =
    rw (lines_of m) (some_bytes lf (message_line m) (if n == 0 then header ∷ [] else [])
    (hold_lines m ++ flat_map recipient_lines m.pending) (lit≤ tt)) in
    let all = ap length is in
    grind (arith, common_steps, all, more, fits)

pub one_at_most : (count : ℕ) (b : Bool) → count ≡ (if b then 1 else 0) → count ≤ 1
one_at_most count true is = omega (arith, is)
one_at_most count false is = omega (arith, is)

-- The report of an attempt keeps a customer's state sound: who was delivered or failed is gone, and
-- told in the tally.
use Rattle.std.proofs.Common.{◌≡◌, ℕ, ◌+◌, Bool, true, false, List, [], ◌∷◌, length, refl, sym, ap}
use Rattle.std.proofs.Common.{◌∙◌, subst, Some, Ok, Err, arith}
use Rattle.std.specs.Prelude.{if◌then◌else◌, ◌==◌, nat_le, nat_lt}
use Rattle.std.specs.List.{list_any}
use Rattle.std.specs.FinMap.{get}
use Rattle.hq_values.specs.declared.failure.Refusal.TheVariants as refusal
use Rattle.hq_rules.specs.Attempts.{tried, after_attempt, done, left, failed, delivered, deferred}
use Rattle.hq_rules.specs.Attempts.{ended}
use Rattle.hq_rules.specs.Attempts.{is_doubled, is_unknown}
use Rattle.hq_kept.specs.Messages.{is_on_hold}
use Rattle.hq_kept.specs.declared.account.Entry.{Entry}
use Rattle.hq_kept.specs.declared.message.Message.{Message}
use Rattle.hq_kept.specs.declared.message.Pending.{Pending}
use Rattle.hq_kept.specs.declared.message.QueueState.{QueueState}
use Rattle.hq_kept.specs.declared.message.QueueState.TheVariants.{Incoming, Deferred, Hold}
use Rattle.hq_kept.specs.declared.outcome.Outcome.{Outcome}
use Rattle.hq_kept.specs.declared.outcome.Reported.TheVariants as reported
use Rattle.hq_tables.specs.declared.change.Change.TheVariants.{DropMessage}
use Rattle.hq_tables.specs.Readings.{saturated}
use Rattle.hq_tables.specs.Sound.{SoundState, ShapedState, IsReasoned, AreApart}
use Rattle.hq_tables.specs.Tables.{State, change, change_all}
use Rattle.hq_isolation.proofs.Many.{Done, does_drop}
use Rattle.hq_rules.specs.Outcomes.{put_or_dropped, attempted, outcome_with, outcome}
use Rattle.hq_rules.specs.declared.call.AttemptReport.{AttemptReport}
use Rattle.hq_soundness.proofs.Kept.{Keeps, saturated_is}
use Rattle.hq_isolation.proofs.Recipients.{none_lost, left_apart}
use Rattle.hq_soundness.proofs.Settled.{taken_fits, put_fewer, carried_out_kept}

-- a message that is put with those who are left, or dropped where nobody is
kept_done : (s : State) (m n : Message) (ps : List Pending) (w : ℕ) → ShapedState s →
    get s.messages m.serial ≡ Some m → n.serial ≡ m.serial → n.spool ≡ m.spool → n.pending ≡ ps →
    AreApart n.pending → (IsReasoned m → IsReasoned n) → length ps + w ≡ length m.pending →
    Done s (change_all (put_or_dropped n ps ∷ []) s) w
kept_done s m n [] w h there serial spool is apart right fewer =
    let drop = does_drop s m h there in
    let sums = drop.sum in
    subst (λ k. Done s (change (DropMessage k) s) w) (sym serial)
    (record { shaped = drop.shaped; head = drop.head; sum = omega arith })
kept_done s m n (p ∷ ps) w h there serial spool is apart right fewer =
    let many : length n.pending ≡ length (p ∷ ps) = ap length is in
    put_fewer s m n w h there serial spool (omega arith) apart right (omega arith)

-- an attempt puts nothing on hold, and releases nothing
tried_holds : (s : QueueState) → is_on_hold s ≡ is_on_hold (tried s)
tried_holds Incoming = refl
tried_holds Deferred = refl
tried_holds Hold = refl

-- a report that is taken
done_kept : (host : List ℕ) (entry : Entry) (s : State) (at attempt : ℕ) (outcomes : List Outcome)
    (m : Message) → SoundState s → get s.messages m.serial ≡ Some m →
    Keeps s (outcome_with host entry at s.head m
    (Ok (done m outcomes, after_attempt m at attempt outcomes)))
done_kept host entry s at attempt outcomes m h there =
    let n = after_attempt m at attempt outcomes in
    let gave = delivered outcomes m.pending in
    let lost = length (failed outcomes m.pending) in
    let did = kept_done s m n (left outcomes m.pending) (gave + lost) h.shaped there refl refl refl
    (left_apart outcomes m.pending (h.shaped.messages m.serial m there).apart) (λ right. right
    ∙ tried_holds m.state) (none_lost outcomes m.pending) in
    let fits = taken_fits s (change_all (put_or_dropped n (left outcomes m.pending) ∷ []) s)
    (gave + lost) h did in
    let exact : saturated (s.head.tally.delivered + gave) ≡ s.head.tally.delivered + gave =
    saturated_is (s.head.tally.delivered + gave) (omega arith) in
    let exact_failed : saturated (s.head.tally.failed + lost) ≡ s.head.tally.failed + lost =
    saturated_is (s.head.tally.failed + lost) (omega arith) in
    carried_out_kept host entry s at (attempted s.head n gave (deferred outcomes m.pending)
    (failed outcomes m.pending) (ended m outcomes m.pending)) (gave + lost) h did refl refl refl
    (omega arith)

-- by the tests of a report, in their order: whatever they say, a refusal and a repeat change
-- nothing
tests_kept : (host : List ℕ) (entry : Entry) (s : State) (at attempt : ℕ) (outcomes : List Outcome)
    (m : Message) → SoundState s → get s.messages m.serial ≡ Some m →
    (again ahead none doubled unknown : Bool)
    → Keeps s (outcome_with host entry at s.head m (if again then Ok (reported.Repeat, m) else
    (if ahead then Err (refusal.AttemptAhead m.attempts) else
    (if none then Err refusal.NoOutcome else
    (if doubled then Err refusal.DoubledRecipient else
    (if unknown then Err refusal.UnknownRecipient else
    Ok (done m outcomes, after_attempt m at attempt outcomes)))))))
tests_kept host entry s at attempt outcomes m h there true ahead none doubled unknown = h
tests_kept host entry s at attempt outcomes m h there false true none doubled unknown = h
tests_kept host entry s at attempt outcomes m h there false false true doubled unknown = h
tests_kept host entry s at attempt outcomes m h there false false false true unknown = h
tests_kept host entry s at attempt outcomes m h there false false false false true = h
tests_kept host entry s at attempt outcomes m h there false false false false false =
    done_kept host entry s at attempt outcomes m h there

-- a report on a message that is there
pub outcome_kept : (host : List ℕ) (entry : Entry) (s : State) (at : ℕ) (report : AttemptReport)
    (m : Message) → SoundState s → get s.messages m.serial ≡ Some m →
    Keeps s (outcome host entry at s.head report (Some m))
outcome_kept host entry s at report m h there =
    tests_kept host entry s at report.attempt report.outcomes m h there
    (nat_le report.attempt m.attempts) (nat_lt (m.attempts + 1) report.attempt)
    (length report.outcomes == 0) (is_doubled report.outcomes)
    (list_any (is_unknown m.pending) report.outcomes)

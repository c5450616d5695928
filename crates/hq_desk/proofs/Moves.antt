-- Moves and deletions of all messages of a customer at once.
use Rattle.std.proofs.Common.{◌≡◌, ◌⊎◌, inl, inr, ℕ, zero, suc, Bool, true, false, List, [], ◌∷◌}
use Rattle.std.proofs.Common.{◌++◌, Option, None, Some, filter, map, take, length, ◌∙◌, arith}
use Rattle.std.proofs.lemmas.Bool.Decides.{nat_tests}
use Rattle.std.proofs.Common.{Result, Ok, Err}
use Rattle.std.proofs.Common.{refl, sym, subst, ap}
use Rattle.std.specs.Prelude.{IfErr, is_some, option_map, ◌==◌, if◌then◌else◌}
use Rattle.hq_values.specs.Refusals.{no_memory}
use Rattle.hq_values.specs.declared.failure.Fault.{Fault}
use Rattle.hq_kept.specs.declared.account.Entry.{Entry}
use Rattle.hq_kept.specs.declared.account.Head.{Head}
use Rattle.hq_kept.specs.declared.message.Message.{Message}
use Rattle.hq_tables.specs.declared.change.Change.{Change}
use Rattle.hq_tables.specs.Readings.{Readings, read_tables}
use Rattle.hq_tables.specs.Shelves.{Sight, KeepsOnErr}
use Rattle.hq_tables.specs.Sound.{Sound, pending_count}
use Rattle.hq_tables.specs.Tables.{Tables, write_all}
use Rattle.hq_rules.specs.Decision.{decide}
use Rattle.hq_rules.specs.Machine.{shared}
use Rattle.hq_rules.specs.Answering.{tell}
use Rattle.hq_rules.specs.Queues.{move_all, moved_by, put, delete_all, all_deleted, drop}
use Rattle.hq_rules.specs.Messages.{moved, with_deleted}
use Rattle.hq_rules.specs.Selections.{is_selected}
use Rattle.hq_rules.specs.declared.answer.Answer.{Answer}
use Rattle.hq_rules.specs.declared.call.Call.{Call}
use Rattle.hq_rules.specs.declared.answer.Answer.TheVariants.{Changed}
use Rattle.hq_rules.specs.declared.call.Call.TheVariants as call
use Rattle.hq_rules.specs.declared.call.Call.TheVariants.{HoldAll, ReleaseAll, DeleteAll}
use Rattle.hq_rules.specs.declared.call.Move.{Move}
use Rattle.hq_rules.specs.declared.call.Move.TheVariants.{Hold, Release}
use Rattle.hq_rules.specs.declared.decision.Decision.{Decision}
use Rattle.hq_moves.specs.Moved.{all_moved, one_moved, move_found, move_of, would_move}
use Rattle.hq_moves.proofs.Moving.{changes_so}
use Rattle.hq_soundness.proofs.Soundness.{shared_sound}
use Rattle.hq_desk.specs.Moves.{IsMoveOfAll, IsMoveOfOne, DropsWhere, move_step, one_step}
use Rattle.hq_desk.specs.Moves.{told_answer}

-- ---- calls that are such moves

-- without a pattern every message is selected
all_selected : (ms : List Message) → filter (is_selected None) ms ≡ ms
all_selected [] = refl
all_selected (m ∷ ms) = ap (λ xs. m ∷ xs) (all_selected ms)

pub hold_is_move : (at : ℕ) → IsMoveOfAll at (HoldAll None) Hold
unfolding decide
hold_is_move at host entry rows = ap (move_all Hold) (all_selected rows.messages)

pub release_is_move : (at : ℕ) → IsMoveOfAll at (ReleaseAll None) (Release at)
unfolding decide
release_is_move at host entry rows = ap (move_all (Release at)) (all_selected rows.messages)

-- the shared step of such a call
pub step_moves : (host : List ℕ) (entry : Entry) (t : Tables) (at : ℕ) (call : Call) (by : Move) →
    IsMoveOfAll at call by → shared host entry t at call ≡ move_step entry.name by t
step_moves host entry t at call by is =
    ap (λ (d : Decision). (d.answer, write_all entry.name d.changes t))
    (is host entry (read_tables entry.name t))

-- it keeps sound tables sound
pub moved_sound : (entry : Entry) (by : Move) (t : Tables) → Sound t →
    Sound (all_moved entry.name by t)
moved_sound entry Hold t h = subst Sound
    (ap (λ (p : Answer × Tables). p.1)
    (step_moves [] entry t 0 (HoldAll None) Hold (hold_is_move 0)))
    (shared_sound [] entry t 0 (HoldAll None) h)
moved_sound entry (Release at) t h = subst Sound
    (ap (λ (p : Answer × Tables). p.1)
    (step_moves [] entry t at (ReleaseAll None) (Release at) (release_is_move at)))
    (shared_sound [] entry t at (ReleaseAll None) h)

-- ---- one message

pub hold_is_one : (at serial : ℕ) → IsMoveOfOne at (call.Hold serial) serial Hold
unfolding decide
hold_is_one at serial host entry rows = refl

pub release_is_one : (at serial : ℕ) → IsMoveOfOne at (call.Release serial) serial (Release at)
unfolding decide
release_is_one at serial host entry rows = refl

told_so : (by : Move) (found : Option Message) → (move_found by found).answer ≡ told_answer
    (option_map (λ (m : Message). is_some (moved_by by m)) found)
told_so Hold None = refl
told_so (Release at) None = refl
told_so Hold (Some m) = go (moved_by Hold m)
  where
    go : (o : Option Message) → (moved o).answer ≡ told_answer (Some (is_some o))
    go None = refl
    go (Some n) = refl
told_so (Release at) (Some m) = go (moved_by (Release at) m)
  where
    go : (o : Option Message) → (moved o).answer ≡ told_answer (Some (is_some o))
    go None = refl
    go (Some n) = refl

-- the shared step of such a call
pub steps_one : (host : List ℕ) (entry : Entry) (t : Tables) (at : ℕ) (asked : Call) (serial : ℕ)
    (by : Move) → IsMoveOfOne at asked serial by →
    shared host entry t at asked ≡ one_step entry.name serial by t
steps_one host entry t at asked serial by is =
    let found = (read_tables entry.name t).message serial in
    ap (λ (d : Decision). (d.answer, write_all entry.name d.changes t))
    (is host entry (read_tables entry.name t))
    ∙ (λ i. (told_so by found i, write_all entry.name (changes_so by found i) t))

-- it keeps sound tables sound
pub one_sound : (entry : Entry) (serial : ℕ) (by : Move) (t : Tables) → Sound t →
    Sound (one_moved entry.name serial by t)
one_sound entry serial Hold t h = subst Sound
    (ap (λ (p : Answer × Tables). p.1)
    (steps_one [] entry t 0 (call.Hold serial) serial Hold (hold_is_one 0 serial)))
    (shared_sound [] entry t 0 (call.Hold serial) h)
one_sound entry serial (Release at) t h = subst Sound
    (ap (λ (p : Answer × Tables). p.1)
    (steps_one [] entry t at (call.Release serial) serial (Release at) (release_is_one at serial)))
    (shared_sound [] entry t at (call.Release serial) h)

-- ---- the deletion of all

take_none : (n : ℕ) → ◌≡◌ {A = List Change} (take n []) []
take_none zero = refl
take_none (suc n) = refl

first_drops : (ms : List Message) (rest : List Change) →
    take (length ms) (map drop ms ++ rest) ≡ map drop ms
first_drops [] rest = refl
first_drops (m ∷ ms) rest = ap (λ xs. drop m ∷ xs) (first_drops ms rest)

none_counted : (ms : List Message) → (length ms == 0) ≡ true → ms ≡ []
none_counted [] h = refl
none_counted (m ∷ ms) h =
    let none : length (m ∷ ms) ≡ 0 = grind (arith, nat_tests) in
    absurd (omega (arith, none))

drops_first : (entry : Entry) (at : ℕ) (head : Head) (ms : List Message) (count : ℕ) →
    (delete_all entry at head ms).answer ≡ Changed count →
    take count (delete_all entry at head ms).changes ≡ map drop ms
drops_first entry at head ms count = go (length ms == 0) refl
  where
    after : Head
    after = with_deleted (pending_count ms) head

    go : (b : Bool) → (length ms == 0) ≡ b →
        (if b then tell (Changed 0) else all_deleted entry at after ms).answer ≡ Changed count →
        take count (if b then tell (Changed 0) else all_deleted entry at after ms).changes ≡ map
        drop ms
    go true e told = take_none count ∙ ap (map drop) (sym (none_counted ms e))
    go false e told =
        let many : length ms ≡ count = let f = told in cc in
        subst (λ n. take n (all_deleted entry at after ms).changes ≡ map drop ms) many
        (first_drops ms _)

-- what is decided on a call that deletes all begins with the drops of all
deletion_drops : (host : List ℕ) (entry : Entry) (rows : Readings) (at : ℕ) (asked : Call)
    (all : Bool) (decision : Decision) → (all ≡ true → asked ≡ DeleteAll None) →
    decision ≡ decide host entry rows at asked → DropsWhere all decision rows
unfolding decide
deletion_drops host entry rows at asked all decision asks is deletes count told =
    let made : decision ≡ delete_all entry at rows.head rows.messages =
    is ∙ ap (decide host entry rows at) (asks deletes)
    ∙ ap (delete_all entry at rows.head) (all_selected rows.messages) in
    ap (λ (d : Decision). take count d.changes) made
    ∙ drops_first entry at rows.head rows.messages count
    (sym (ap (λ (d : Decision). d.answer) made) ∙ told)

-- it does so in the tables that are found the same
pub drops_still : (host : List ℕ) (entry : Entry) (t u : Tables) (at : ℕ) (asked : Call)
    (all : Bool) (decision : Decision) → (all ≡ true → asked ≡ DeleteAll None) →
    decision ≡ decide host entry (read_tables entry.name t) at asked → u ≡ t →
    DropsWhere all decision (read_tables entry.name u)
drops_still host entry t u at asked all decision asks is same =
    subst (λ x. DropsWhere all decision (read_tables entry.name x)) (sym same)
    (deletion_drops host entry (read_tables entry.name t) at asked all decision asks is)

-- ---- faults

-- a call keeps no less where more faults may be answered
pub keeps_wider : {S X : Type 0} (sight : Sight S) (may : Fault → Type 0) (old new : S)
    (result : Result X Fault) → ((fault : Fault) → sight.may_answer fault → may fault) →
    KeepsOnErr sight old new result → KeepsOnErr (record sight { may_answer = may }) old new result
keeps_wider {S} {X} sight may old new result more kept = record {
  none = kept.none;
  ours = kept.ours;
  round = kept.round;
  quiet = kept.quiet;
  tally = kept.tally;
  cause = cause result kept.cause;
  rests = kept.rests;
  shut = kept.shut;
} where
  cause : (result : Result X Fault) → IfErr result sight.may_answer → IfErr result may
  cause (Ok x) answered = tt
  cause (Err fault) answered = more fault answered

-- of two reasons for want of memory one, where the other is no other
pub one_reason : (refused wide : Type 0) (may : Fault → Type 0) → (refused → wide) →
    (fault : Fault) →
    ((fault ≡ no_memory) × wide) ⊎ (((fault ≡ no_memory) × refused) ⊎ may fault) →
    ((fault ≡ no_memory) × wide) ⊎ may fault
one_reason refused wide may widens fault (inl why) = inl why
one_reason refused wide may widens fault (inr (inl why)) = inl (why.0, widens why.1)
one_reason refused wide may widens fault (inr (inr other)) = inr other

-- A submission keeps the state of one customer sound.
use Rattle.std.proofs.Common.{◌≡◌, ◌≢◌, ℕ, suc, ◌+◌, ◌^◌, ◌<◌, ◌≤◌, Bool, true, false, cond, not}
use Rattle.std.proofs.Common.{List, [], ◌∷◌, map, filter, length, sym, refl, ap, ◌∙◌, subst, Some}
use Rattle.std.proofs.Common.{None, Option, Result, Ok, Err, arith}
use Rattle.std.specs.Prelude.{IsTrue, IfSome, ⊤, if◌then◌else◌, nat_le, nat_lt, nat_eq, option_map}
use Rattle.std.specs.List as list
use Rattle.std.specs.List.{IsDistinct, AllByRecursion, list_any}
use Rattle.std.specs.Ordering.{nat_cmp, eq_by_cmp}
use Rattle.std.specs.Cmp.{nat_cmp_total}
use Rattle.std.specs.Cmp.Lexicographic.{nat_list_cmp_total}
use Rattle.std.specs.FinMap.{get, entries, values, len, find, get-entries, len-entries}
use Rattle.std.proofs.lemmas.Bool.{eqb-false, false≢true}
use Rattle.std.proofs.lemmas.Bool.Decides.{nat_tests}
use Rattle.std.proofs.lemmas.List.{length-map}
use Rattle.std.proofs.lemmas.Map.Lookups.{exact_unsigned}
use Rattle.hq_values.specs.declared.failure.Refusal.{Refusal}
use Rattle.hq_values.specs.declared.failure.Refusal.TheVariants as refusal
use Rattle.hq_values.specs.declared.address.Sender.{Sender}
use Rattle.hq_values.specs.declared.address.Sender.TheVariants.{From}
use Rattle.hq_rules.specs.Verdicts as access
use Rattle.hq_kept.specs.declared.action.Action.{Action}
use Rattle.hq_kept.specs.declared.pattern.Class.TheVariants.{SenderSide, RecipientSide}
use Rattle.hq_rules.specs.declared.verdict.Refused.{Refused}
use Rattle.hq_rules.specs.declared.verdict.Verdict.{Verdict}
use Rattle.hq_rules.specs.declared.verdict.Verdict.TheVariants as verdict
use Rattle.hq_rules.specs.Admission.{admitted}
use Rattle.hq_kept.specs.Limits.{is_within}
use Rattle.hq_kept.specs.Messages.{is_on_hold}
use Rattle.hq_kept.specs.declared.account.Entry.{Entry}
use Rattle.hq_kept.specs.declared.message.Message.{Message}
use Rattle.hq_kept.specs.declared.message.Pending.{Pending}
use Rattle.hq_tables.specs.declared.change.Change.TheVariants.{PutHead, PutMessage}
use Rattle.hq_isolation.specs.Fits.{HeadFits, MessageFits}
use Rattle.hq_tables.specs.Readings.{Readings, read_state, saturated, with_spool}
use Rattle.hq_tables.specs.Sound.{SoundState, ShapedState, same_address}
use Rattle.hq_tables.specs.Tables.{State, text_cmp, change}
use Rattle.hq_owned.proofs.Cases.{none_some, same_some}
use Rattle.hq_isolation.proofs.States.{change_shaped}
use Rattle.hq_owned.proofs.Parts.{tied_true}
use Rattle.hq_owned.proofs.Totals.{total-insert}
use Rattle.hq_owned.specs.Owned.{given}
use Rattle.hq_rules.specs.AccessLines.{action_for}
use Rattle.hq_rules.specs.Submissions as rules
use Rattle.hq_rules.specs.declared.call.Origin.{Origin}
use Rattle.hq_rules.specs.declared.call.Submission.{Submission}
use Rattle.hq_soundness.proofs.Kept.{Keeps, saturated_is, quota_of, below_quota}

-- ---- addresses that a message may have

-- no two the same, at least one, and at most a hundred
pub record MayReceive (addresses : List (List ℕ)) : Type 0 where
  pub apart : IsDistinct same_address addresses
  pub some : 0 < length addresses
  pub few : length addresses ≤ 100

filter_all : {X : Type 0} (P : X → Type 0) (p : X → Bool) (xs : List X) → AllByRecursion P xs →
    AllByRecursion P (filter p xs)
filter_all P p [] h = h
filter_all P p (x ∷ xs) h = cases (p x) (filter_all P p xs h.1) where
  cases : (b : Bool) → AllByRecursion P (filter p xs) →
      AllByRecursion P (cond b (x ∷ filter p xs) (filter p xs))
  cases true rest = (h.0, rest)
  cases false rest = rest

-- what a filter leaves of a list whose elements are apart
filter_distinct : {X : Type 0} (e : X → X → Bool) (p : X → Bool) (xs : List X) → IsDistinct e xs →
    IsDistinct e (filter p xs)
unfolding IsDistinct
filter_distinct e p [] h = h
filter_distinct e p (x ∷ xs) h = cases (p x) (filter_distinct e p xs h.1) where
  cases : (b : Bool) → IsDistinct e (filter p xs) →
      IsDistinct e (cond b (x ∷ filter p xs) (filter p xs))
  cases true rest = (filter_all (λ y. e x y ≡ false) p xs h.0, rest)
  cases false rest = rest

-- what is left without those that are the same as one
others_apart : {X : Type 0} (e : X → X → Bool) (x : X) (ys : List X) →
    AllByRecursion (λ y. e x y ≡ false) (filter (λ y. not (e x y)) ys)
others_apart e x [] = tt
others_apart e x (y ∷ ys) = cases (e x y) refl (others_apart e x ys) where
  cases : (b : Bool) → e x y ≡ b → AllByRecursion (λ z. e x z ≡ false)
      (filter (λ z. not (e x z)) ys) → AllByRecursion (λ z. e x z ≡ false)
      (cond (not b) (y ∷ filter (λ z. not (e x z)) ys) (filter (λ z. not (e x z)) ys))
  cases true h rest = rest
  cases false h rest = (h, rest)

distinct_apart : (xs : List (List ℕ)) → IsDistinct same_address (rules.distinct xs)
unfolding IsDistinct
distinct_apart [] = tt
distinct_apart (x ∷ xs) = (
  others_apart same_address x (rules.distinct xs),
  filter_distinct same_address (λ y. not (same_address x y)) (rules.distinct xs)
      (distinct_apart xs),
)

filter_shorter : {X : Type 0} (p : X → Bool) (xs : List X) → length (filter p xs) ≤ length xs
filter_shorter p [] = omega arith
filter_shorter p (x ∷ xs) = cases (p x) (filter_shorter p xs) where
  cases : (b : Bool) → length (filter p xs) ≤ length xs →
      length (cond b (x ∷ filter p xs) (filter p xs)) ≤ suc (length xs)
  cases true rest = omega arith
  cases false rest = omega arith

distinct_shorter : (xs : List (List ℕ)) → length (rules.distinct xs) ≤ length xs
distinct_shorter [] = omega arith
distinct_shorter (x ∷ xs) = let fewer =
    filter_shorter (λ y. not (same_address x y)) (rules.distinct xs) in let rest =
    distinct_shorter xs in omega arith

-- what is left of recipients, each with what was found for it
kept_are : {A : Type 0} (f : List ℕ → A) (p : List ℕ × A → Bool) (xs : List (List ℕ)) →
    map (λ (r : List ℕ × A). r.0) (filter p (map (λ a. (a, f a)) xs)) ≡ filter (λ a. p (a, f a)) xs
kept_are f p [] = refl
kept_are {A} f p (x ∷ xs) = cases (p (x, f x)) (kept_are f p xs) where
  cases : (b : Bool) → map (λ (r : List ℕ × A). r.0) (filter p (map (λ a. (a, f a)) xs)) ≡ filter
      (λ a. p (a, f a)) xs
      → map (λ (r : List ℕ × A). r.0) (cond b ((x, f x) ∷ filter p (map (λ a. (a, f a)) xs))
      (filter p (map (λ a. (a, f a)) xs))) ≡ cond b (x ∷ filter (λ a. p (a, f a)) xs)
      (filter (λ a. p (a, f a)) xs)
  cases true rest = ap (λ ys. x ∷ ys) rest
  cases false rest = rest

-- a text is not empty
abbrev pub HasText : List ℕ → Type 0
HasText text = nat_lt 0 (length text) ≡ true

-- so is the reason of a hold
reason_has_text : (held : Option (List ℕ)) → IfSome (option_map access.or_table held) HasText
reason_has_text None = tt
reason_has_text (Some []) = refl
reason_has_text (Some (b ∷ text)) = grind (arith, nat_tests)

-- those whom a verdict keeps may receive, and it holds for a reason
abbrev pub KeepsReceivers : Verdict → Type 0
KeepsReceivers (verdict.Rejected refused) = ⊤
KeepsReceivers (verdict.Discarded refused) = ⊤
KeepsReceivers (verdict.Queue kept refused redirect held) = MayReceive kept × IfSome held HasText

judged_keeps : (kept : List (List ℕ)) (refused : List Refused) (found : List (Option Action)) →
    IsDistinct same_address kept → length kept ≤ 100 →
    KeepsReceivers (access.verdict_on kept refused found)
judged_keeps [] refused found apart few = tt
judged_keeps (k ∷ kept) refused found apart few = cases (list_any access.discards found) where
  cases : (b : Bool) → KeepsReceivers (if b then verdict.Discarded refused else
      verdict.Queue (k ∷ kept) refused (access.redirect_of found)
      (option_map access.or_table (access.held_by found)))
  cases true = tt
  cases false = (
    record { apart = apart; some = omega arith; few = few },
    reason_has_text (access.held_by found),
  )

verdict_keeps : (readings : Readings) (sender : Sender) (xs : List (List ℕ)) →
    IsDistinct same_address xs → length xs ≤ 100 → KeepsReceivers (rules.judged readings sender xs)
verdict_keeps readings sender xs apart few =
    cases (option_map (access.refusal_of sender)
    (access.refusal (action_for readings SenderSide sender)))
  where
    found : List ℕ → Option Action
    found a = action_for readings RecipientSide (From a)

    recipients : List (List ℕ × Option Action)
    recipients = map (rules.with_action readings) xs

    is_kept : List ℕ → Bool
    is_kept a = not (access.refuses (found a))

    are : map (λ (r : List ℕ × Option Action). r.0) (access.not_refused recipients)
        ≡ filter is_kept xs
    are = kept_are found (λ r. not (access.refuses r.1)) xs

    cases : (o : Option Refused) →
        KeepsReceivers (access.after_sender o (action_for readings SenderSide sender) recipients)
    cases (Some refused) = tt
    cases None =
        let fewer = filter_shorter is_kept xs in
        judged_keeps (map (λ (r : List ℕ × Option Action). r.0) (access.not_refused recipients))
        (access.refused_in recipients) (access.found_in (action_for readings SenderSide sender)
        recipients)
        (subst (IsDistinct same_address) (sym are) (filter_distinct same_address is_kept xs apart))
        (subst (λ (ys : List (List ℕ)). length ys ≤ 100) (sym are) (omega arith))

one_may : (address : List ℕ) → MayReceive (address ∷ [])
unfolding IsDistinct
one_may address = record { apart = (tt, tt); some = omega arith; few = omega arith }

-- ---- a new message

addresses_are : (xs : List (List ℕ)) → map (λ (p : Pending). p.address) (map rules.not_tried xs) ≡
    xs
addresses_are [] = refl
addresses_are (x ∷ xs) = ap (λ ys. x ∷ ys) (addresses_are xs)

-- what no scan finds, no key has
not_there : (p : Message → Bool) (es : List (ℕ × Message)) (k : ℕ) (m : Message) →
    find nat_cmp k es ≡ Some m → list.find p (map (λ (e : ℕ × Message). e.1) es) ≡ None →
    p m ≡ false
not_there p [] k m f none = absurd (none_some m f)
not_there p (e ∷ es) k m f none = by_test (λ g rest. not_there p es k m g rest) (p e.1) refl none
  where
    by_key : (find nat_cmp k es ≡ Some m → list.find p (map (λ (x : ℕ × Message). x.1) es) ≡ None →
        p m ≡ false) → (b : Bool) → cond b (Some e.1) (find nat_cmp k es) ≡ Some m → p e.1 ≡ false →
        list.find p (map (λ (x : ℕ × Message). x.1) es) ≡ None → p m ≡ false
    by_key other true g fails rest = let same : e.1 ≡ m = same_some e.1 m g in ap p (sym same)
        ∙ fails
    by_key other false g fails rest = other g rest

    by_test : (find nat_cmp k es ≡ Some m → list.find p (map (λ (x : ℕ × Message). x.1) es) ≡ None →
        p m ≡ false) → (b : Bool) → p e.1 ≡ b →
        cond b (Some e.1) (list.find p (map (λ (x : ℕ × Message). x.1) es)) ≡ None → p m ≡ false
    by_test other true g h = absurd (none_some e.1 (sym h))
    by_test other false g h = by_key other (eq_by_cmp nat_cmp k e.0) f g h

-- a spool name that no message was found by is no message's
new_spool : (s : State) (spool : List ℕ) → with_spool spool (values s.messages) ≡ None →
    (k : ℕ) (m : Message) → get s.messages k ≡ Some m → m.spool ≡ spool → ⊥
new_spool s spool none k m there e =
    let other : eq_by_cmp text_cmp spool m.spool ≡ false =
    not_there (λ (x : Message). eq_by_cmp text_cmp spool x.spool) (entries s.messages) k m
    (sym (get-entries s.messages k) ∙ there) none in
    false≢true (sym other ∙ ap (eq_by_cmp text_cmp spool) e ∙ tied_true nat_list_cmp_total spool)

-- no message stands at the next serial
free_serial : (s : State) → ShapedState s → get s.messages s.head.next_serial ≡ None
free_serial s h = cases (get s.messages s.head.next_serial) refl where
  cases : (o : Option Message) → get s.messages s.head.next_serial ≡ o → o ≡ None
  cases None e = refl
  cases (Some m) e = let was = (h.messages s.head.next_serial m e).below in absurd (omega arith)

within_is : (low high n : ℕ) → IsTrue (is_within low high n) → (low ≤ n) × (n ≤ high)
within_is low high n h = (grind (arith, nat_tests), grind (arith, nat_tests))

recipients_of : (sub : Submission) → (1 ≤ length sub.recipients) × (length sub.recipients ≤ 100)
recipients_of sub = within_is 1 100 (length sub.recipients) sub.number

-- a new message has a reason where it is on hold
first_right : (held : Option (List ℕ)) → IfSome held HasText →
    nat_lt 0 (length (rules.first_reason held)) ≡ is_on_hold (rules.first_state held)
first_right None text = refl
first_right (Some reason) text = text

-- a new message keeps the state sound
queue_kept : (s : State) (at : ℕ) (sub : Origin) (addresses : List (List ℕ))
    (held : Option (List ℕ)) (refused : List Refused) → SoundState s → MayReceive addresses →
    IfSome held HasText → ((k : ℕ) (m : Message) → get s.messages k ≡ Some m → m.spool ≡ sub.spool →
    ⊥) → len s.messages < 1000 → s.head.next_serial < 2 ^ 40
    → Keeps s (rules.enqueued s.head (rules.new_message s.head.next_serial at sub addresses held)
    refused)
queue_kept s at sub addresses held refused h may text spool room serials =
    let n = rules.new_message s.head.next_serial at sub addresses held in
    let head = rules.head_with_message (length n.pending) s.head in
    let raised = change (PutHead head) s in
    let next = h.shaped.next_serial in
    let rises : HeadFits s head = record {
      next_serial = (omega arith, omega arith);
      next_notice = h.shaped.next_notice;
      above = λ k m f. let was = (h.shaped.messages k m f).below in
          omega arith;
      above_notices = λ k n f. (h.shaped.notices k n f).1;
      above_ends = h.shaped.ends;
    } in
    let many : length n.pending ≡ length addresses = length-map addresses rules.not_tried in
    let some = may.some in
    let most : length addresses ≤ 100 = may.few in
    let free = free_serial s h.shaped in
    let fits : MessageFits raised n = record {
      queued = record {
        own_serial = refl;
        positive = next.0;
        below = omega arith;
        some_pending = omega arith;
        apart = subst (IsDistinct same_address) (sym (addresses_are addresses))
            may.apart;
        right = first_right held text;
      };
      spool = λ k m f e. absurd (spool k m f e);
      room = λ none. room;
    } in
    let sums = total-insert nat_cmp_total exact_unsigned (λ (x : Message). length x.pending)
    s.messages n.serial n in
    let old : given 0 (λ (x : Message). length x.pending) (get s.messages n.serial) ≡ 0 =
    ap (given 0 (λ (x : Message). length x.pending)) free in
    let was = h.conserved in
    let bound = h.bounded in
    let exact : saturated (s.head.tally.accepted + length n.pending) ≡ s.head.tally.accepted +
    length n.pending = saturated_is (s.head.tally.accepted + length n.pending) (omega arith) in
    record {
      shaped = change_shaped raised (PutMessage n)
          (change_shaped s (PutHead head) h.shaped rises) fits;
      conserved = omega arith;
      bounded = omega arith;
    }

-- room and a serial are left where a submission is admitted
admit_kept : (s : State) (entry : Entry) (at : ℕ) (sub : Origin) (addresses : List (List ℕ))
    (held : Option (List ℕ)) (refused : List Refused) → SoundState s → MayReceive addresses →
    IfSome held HasText → ((k : ℕ) (m : Message) → get s.messages k ≡ Some m → m.spool ≡ sub.spool →
    ⊥)
    → (full bytes spent : Bool) → (full ≡ false → len s.messages < entry.quota.messages) →
    (spent ≡ false → s.head.next_serial ≢ 2 ^ 40)
    → Keeps s (rules.admit s.head at sub addresses held refused (if full then
    Err refusal.QuotaMessages else (if bytes then Err refusal.QuotaBytes else
    (if spent then Err refusal.SerialsSpent else Ok s.head.next_serial))))
admit_kept s entry at sub addresses held refused h may text spool true bytes spent left serials = h
admit_kept s entry at sub addresses held refused h may text spool false true spent left serials = h
admit_kept s entry at sub addresses held refused h may text spool false false true left serials = h
admit_kept s entry at sub addresses held refused h may text spool false false false left serials =
    let room = left refl in
    let other = serials refl in
    let next = h.shaped.next_serial in
    let most = (quota_of entry).0 in
    queue_kept s at sub addresses held refused h may text spool (omega arith) (omega arith)

-- whatever the verdict, if whom it keeps may receive
settled_kept : (s : State) (at : ℕ) (sub : Origin) (serial : Result ℕ Refusal) (v : Verdict) →
    SoundState s → KeepsReceivers v → ((addresses : List (List ℕ)) (held : Option (List ℕ))
    (refused : List Refused) → MayReceive addresses → IfSome held HasText →
    Keeps s (rules.admit s.head at sub addresses held refused serial))
    → Keeps s (rules.settled s.head at sub serial v)
settled_kept s at sub serial (verdict.Rejected refused) h may each = h
settled_kept s at sub serial (verdict.Discarded refused) h may each = h
settled_kept s at sub serial (verdict.Queue kept refused None held) h may each =
    each kept held refused may.0 may.1
settled_kept s at sub serial (verdict.Queue kept refused (Some address) held) h may each =
    each (address ∷ []) held refused (one_may address) may.1

not_spent : (n : ℕ) → nat_eq n (2 ^ 40) ≡ false → n ≢ 2 ^ 40
not_spent n h = eqb-false n (2 ^ 40) h

-- a submission keeps the state sound
pub submit_kept : (s : State) (entry : Entry) (at : ℕ) (sub : Submission) → SoundState s →
    Keeps s (rules.submit entry (read_state s) at sub (with_spool sub.spool (values s.messages)))
submit_kept s entry at sub h = cases (with_spool sub.spool (values s.messages)) refl where
  counted : length (values s.messages) ≡ len s.messages
  counted = length-map (entries s.messages) (λ (e : ℕ × Message). e.1)
      ∙ sym (len-entries s.messages)

  keeps : KeepsReceivers (rules.judged (read_state s) sub.sender (rules.distinct sub.recipients))
  keeps =
      let shorter = distinct_shorter sub.recipients in
      let few = (recipients_of sub).1 in
      verdict_keeps (read_state s) sub.sender (rules.distinct sub.recipients)
      (distinct_apart sub.recipients) (omega arith)

  cases : (o : Option Message) → with_spool sub.spool (values s.messages) ≡ o →
      Keeps s (rules.submit entry (read_state s) at sub o)
  cases (Some m) e = h
  cases None e =
      let counts = (read_state s).counts in
      settled_kept s at (rules.origin_of sub) (admitted s.head entry.quota counts sub.size)
      (rules.judged (read_state s) sub.sender (rules.distinct sub.recipients)) h keeps
      (λ addresses held refused may text. admit_kept s entry at (rules.origin_of sub) addresses
      held refused h may
      text (new_spool s sub.spool e)
      (nat_le entry.quota.messages counts.messages)
      (nat_lt entry.quota.bytes (counts.bytes + sub.size)) (nat_eq s.head.next_serial (2 ^ 40))
      (λ full. let few_messages = below_quota entry.quota.messages counts.messages full in
      omega (arith, counted)) (not_spent s.head.next_serial))

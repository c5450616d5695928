-- The parts of a call of all: each has room, and is told by its bytes.
use Rattle.std.proofs.Common.{◌≡◌, ◌≤◌, ◌<◌, ◌+◌, ◌^◌, ℕ, Bool, true, false, cond, List, ◌∷◌}
use Rattle.std.proofs.Common.{◌++◌, refl, ap, subst, sym, arith, length, codes, decimal, inl, inr}
use Rattle.std.specs.Prelude.{◌&&◌, nat_lt, nat_le, ⊤}
use Rattle.std.specs.List.{list_all}
use Rattle.std.proofs.lemmas.Bool.Decides.{nat_tests}
use Rattle.std.proofs.lemmas.Bool.{and_parts}
use Rattle.std.proofs.lemmas.Fmt.{length-decimal-le}
use Rattle.std.proofs.lemmas.List.{length-append}
use Rattle.json.specs.Print.{escape_byte, quoted}
use Rattle.serde_json.specs.Data.{Data, null, boolean, number, string, array, object, unsigned}
use Rattle.serde_json.specs.Data.{negative, float, Members, no_members, member}
use Rattle.serde_json.specs.Written.{comma_if, compact_text, members_text}
use Rattle.hq_values.specs.Words.{is_name, is_name_byte}
use Rattle.hq_values.specs.declared.failure.Refusal.{Refusal}
use Rattle.hq_values.specs.declared.failure.Refusal.TheVariants.{NoticesSpent, AttemptAhead, BadCsv}
use Rattle.hq_values.specs.declared.failure.Refusal.TheVariants.{DoubledPattern, BadDirectory}
use Rattle.hq_values.specs.declared.failure.Refusal.TheVariants.{DoubledName, DoubledKey}
use Rattle.hq_rules.specs.Desks.{IsAnswerTo}
use Rattle.hq_rules.specs.Each.{each_call}
use Rattle.hq_rules.specs.declared.answer.Answer.{Answer}
use Rattle.hq_rules.specs.declared.answer.Answer.TheVariants as answer
use Rattle.hq_rules.specs.declared.answer.SweepCounts.{SweepCounts}
use Rattle.hq_rules.specs.declared.answer.Usage.{Usage}
use Rattle.hq_rules.specs.declared.call.Call.{Call}
use Rattle.hq_rules.specs.declared.each.EachCall.{EachCall}
use Rattle.hq_rules.specs.declared.each.EachCall.TheVariants as each
use Rattle.hq_json.specs.AttemptReplies.{due_listed}
use Rattle.hq_json.specs.HistoryReplies.{history_listed, history_found}
use Rattle.hq_json.specs.NoticeReplies.{notices_listed, notice_json}
use Rattle.hq_json.specs.Objects.{count}
use Rattle.hq_json.specs.Replies.{admissible, answer_data, answer_text, listed, message_json}
use Rattle.hq_json.specs.Replies.{queued, refusal_data}
use Rattle.hq_json.specs.TableReplies.{check_json, lines_listed}
use Rattle.hq_json.specs.PartRoom.{TellsNumbers, HasRoom, is_for}
use Rattle.hq_json.specs.Parts.{IsObject, for_customer, part_text}
use Rattle.hq_json.proofs.Closing.{is_object}

-- ---- numbers

decimal_short : (n : ℕ) → n < 2 ^ 64 → length (decimal n) ≤ 20
decimal_short n small = length-decimal-le 20 n (omega arith) (omega (arith, small)) small

-- ---- names

name_short : (name : List ℕ) → is_name name ≡ true → length name ≤ 32
name_short name h =
    let both = (and_parts (nat_lt 0 (length name) && nat_le (length name) 32)
    (list_all is_name_byte name) h).0 in
    let short = (and_parts (nat_lt 0 (length name)) (nat_le (length name) 32) both).1 in
    grind (arith, nat_tests, short)

-- ---- how long members are

comma_short : (later : Bool) → length (comma_if later) ≤ cond later 1 0
comma_short true = omega arith
comma_short false = omega arith

-- members that are texts and numbers, and their bytes are at most these
abbrev IsFlat : Data → Type 0
IsFlat (number (unsigned n)) = n < 2 ^ 64
IsFlat (string s) = ⊤
IsFlat _ = ⊥

abbrev most : Data → ℕ
most (number n) = 20
most (string s) = length (quoted s)
most _ = 0

abbrev pub AreFlat : Members → Type 0
AreFlat no_members = ⊤
AreFlat (member k d ms) = IsFlat d × AreFlat ms

abbrev pub most_of : Bool → Members → ℕ
most_of later no_members = 1
most_of later (member k d ms) = cond later 1 0 + length (quoted k) + 1 + most d + most_of true ms

value_short : (d : Data) → IsFlat d → length (compact_text d) ≤ most d
value_short (number (unsigned n)) h = decimal_short n h
value_short (number (negative z)) h = absurd h
value_short (number (float x)) h = absurd h
value_short (string s) h = omega arith
value_short null h = absurd h
value_short (boolean b) h = absurd h
value_short (array ds) h = absurd h
value_short (object ms) h = absurd h

members_short : (later : Bool) (ms : Members) → AreFlat ms →
    length (members_text later ms) ≤ most_of later ms
members_short later no_members h = omega arith
members_short later (member k d ms) h =
    let value = compact_text d in
    let rest = members_text true ms in
    let first = length-append (comma_if later) (quoted k ++ 58 ∷ (value ++ rest)) in
    let second = length-append (quoted k) (58 ∷ (value ++ rest)) in
    let third = length-append value rest in
    let comma = comma_short later in
    let short = value_short d h.0 in
    let more = members_short true ms h.1 in
    omega (arith, first, second, third, comma, short, more)

-- ---- the part

module _ (name : List ℕ) (known : is_name name ≡ true) (ms : Members) (flat : AreFlat ms) where
  is_short : length (for_customer name (compact_text (object ms))) ≤ 47 + most_of false ms
  is_short =
      let whole = length-append (codes "{\"customer\":\"" ++ name ++ codes "\",")
      (members_text false ms) in
      let head = length-append (codes "{\"customer\":\"" ++ name) (codes "\",") in
      let opened = length-append (codes "{\"customer\":\"") name in
      let short = name_short name known in
      let more = members_short false ms flat in
      omega (arith, whole, head, opened, short, more)

-- ---- every answer is an object

abbrev members_of : Data → Members
members_of (object ms) = ms
members_of _ = no_members

refusal_object : (r : Refusal) → refusal_data r ≡ object (members_of (refusal_data r))
refusal_object (AttemptAhead attempts) = refl
refusal_object (BadCsv row) = refl
refusal_object (DoubledPattern row) = refl
refusal_object (BadDirectory row) = refl
refusal_object (DoubledName row) = refl
refusal_object (DoubledKey row) = refl
refusal_object r = refl

data_object : (a : Answer) → answer_data a ≡ object (members_of (answer_data a))
unfolding admissible listed queued message_json due_listed notices_listed notice_json history_listed
    history_found lines_listed check_json
data_object (answer.Refused r) = refusal_object r
data_object a = refl

-- so every part is one object
any_object : (name : List ℕ) (a : Answer) → is_name name ≡ true → IsObject (part_text name a)
unfolding answer_text
any_object name a known =
    subst (λ told. IsObject (for_customer name (compact_text told))) (sym (data_object a))
    (is_object name (members_of (answer_data a)) known)

-- ---- which answers a part is for

none_else : {A : Type 0} → false ≡ true → A
none_else e = absurd (let no : false ≡ true = e in cc)

module _ (name : List ℕ) (known : is_name name ≡ true) where
  abbrev Fits : EachCall → Answer → Type 0
  Fits each a = HasRoom each (part_text name a) × IsObject (part_text name a)

  swept : (counts : SweepCounts) → TellsNumbers (answer.Swept counts) →
      Fits each.Sweep (answer.Swept counts)
  unfolding answer_text escape_byte
  swept counts h =
      let ms = member (codes "expired") (count counts.expired) (member (codes "notices")
      (count counts.notices) (member (codes "warned") (count counts.warned) no_members)) in
      let flat : AreFlat ms = (h.0, (h.1, (h.2, tt))) in
      let short = is_short name known ms flat in
      (omega (arith, short), is_object name ms known)

  spent : Fits each.Sweep (answer.Refused NoticesSpent)
  unfolding answer_text escape_byte
  spent =
      let ms = member (codes "error") (count 44) (member (codes "name")
      (string (codes "NoticesSpent")) no_members) in
      let flat : AreFlat ms = (omega arith, (tt, tt)) in
      let short = is_short name known ms flat in
      (omega (arith, short), is_object name ms known)

  used : (u : Usage) → TellsNumbers (answer.Used u) → Fits each.Usage (answer.Used u)
  unfolding answer_text escape_byte
  used u h =
      let ms = member (codes "accepted") (count u.tally.accepted) (member (codes "bytes")
      (count u.counts.bytes) (member (codes "deleted") (count u.tally.deleted)
      (member (codes "delivered") (count u.tally.delivered) (member (codes "expired")
      (count u.tally.expired) (member (codes "failed") (count u.tally.failed)
      (member (codes "lines") (count u.counts.lines) (member (codes "messages")
      (count u.counts.messages) (member (codes "pending") (count u.pending) no_members)))))))) in
      let flat : AreFlat ms = (
        h.0.0,
        (h.2.1, (h.1.0, (h.0.1, (h.1.1, (h.0.2, (h.2.2, (h.2.0, (h.1.2, tt)))))))),
      ) in
      let short = is_short name known ms flat in
      (omega (arith, short), is_object name ms known)

  -- an answer to such a call has room, and is told by its bytes
  pub fits : (of : EachCall) (a : Answer) → is_for of a ≡ true → TellsNumbers a → Fits of a
  fits each.Sweep (answer.Swept counts) is h = swept counts h
  fits each.Sweep (answer.Refused NoticesSpent) is h = spent
  fits each.Usage (answer.Used u) is h = used u h
  fits each.Due a is h = (tt, any_object name a known)
  fits of a is h = none_else is

-- the answers to such a call are these
taken : (of : EachCall) (a : Answer) → IsAnswerTo (each_call of) a → is_for of a ≡ true
taken each.Sweep a (inl swept) = ap (is_for each.Sweep) swept.1
taken each.Sweep a (inr spent) = ap (is_for each.Sweep) spent
taken each.Usage a used = ap (is_for each.Usage) used.1
taken each.Due a listed = refl

pub taken_so : (of : EachCall) (call : Call) → call ≡ each_call of → (a : Answer) →
    IsAnswerTo call a → is_for of a ≡ true
taken_so of call same a h = taken of a (subst (λ k. IsAnswerTo k a) same h)

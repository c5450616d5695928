-- A migration of the tables is one of each customer's state, and sound tables stay sound.
use Rattle.std.proofs.Common.{◌≡◌, ℕ, ◌+◌, ◌<◌, ◌≤◌, T, Bool, true, false, cond, List, [], ◌∷◌}
use Rattle.std.proofs.Common.{map, filter, length, Option, Some, None, Less, is_eq, refl}
use Rattle.std.proofs.Common.{sym, ap, ◌∙◌, subst, arith}
use Rattle.std.specs.Prelude.{option_map, unwrap_or, nat_lt, ⊤, if◌then◌else◌}
use Rattle.std.specs.List.{AllByRecursion}
use Rattle.std.specs.Ordering.{nat_cmp, eq_by_cmp}
use Rattle.std.specs.Cmp.{nat_cmp_total}
use Rattle.std.specs.Cmp.Lexicographic.{nat_list_cmp_total}
use Rattle.std.specs.FinMap.{FinMap, entries, entries_sorted, find, get, len, values, get-entries}
use Rattle.std.specs.FinMap.{get-from_entries, len-entries, same_map}
use Rattle.std.proofs.lemmas.Map.Lookups.{exact_unsigned}
use Rattle.sqlite_trees.specs.Tree.{IsAscending}
use Rattle.hq_values.specs.Words.{earlier_hold}
use Rattle.hq_kept.specs.Messages.{is_on_hold}
use Rattle.hq_kept.specs.declared.message.Message.{Message}
use Rattle.hq_kept.specs.declared.message.QueueState.{QueueState}
use Rattle.hq_kept.specs.declared.message.QueueState.TheVariants.{Incoming, Deferred, Hold}
use Rattle.hq_owned.specs.Owned.{part_of, map_values}
use Rattle.hq_owned.proofs.Cases.{equal}
use Rattle.hq_owned.proofs.Pages.{AreApart}
use Rattle.hq_owned.proofs.Parts.{get_part, get-map_values, entries-map_values}
use Rattle.hq_tables.specs.Tables.{State, Tables, Row, text_cmp, message_cmp, own, joined}
use Rattle.hq_tables.specs.Tables.{message_of, pending_of, reason_of}
use Rattle.hq_tables.specs.Sound.{IsReasoned, IsQueuedBy, IsQueued, SoundStateBy, SoundState}
use Rattle.hq_tables.specs.Sound.{ShapedHolds, Sound, pending_count}
use Rattle.hq_sql_open.specs.Lifted.{lifted, lift, on_hold, holds_for, lifted_tables, FirstSound}
use Rattle.hq_tables.proofs.Orders.{message_total, message_exact}
use Rattle.hq_owned.proofs.Mapped.{same_length, same_sum}
use Rattle.hq_tables.proofs.Orders.{ascending}
use Rattle.hq_owned.proofs.Cases.{none_some, same_some}

-- ---- a look-up among the reasons

abbrev Entry : Type 0
Entry = (List ℕ × ℕ) × Row

none_of : (k : List ℕ × ℕ) (es : List Entry) →
    AllByRecursion (λ (b : Entry). message_cmp k b.0 ≡ Less) es → find message_cmp k es ≡ None
none_of k [] all = refl
none_of k (e ∷ es) all = ap (λ r. cond (is_eq r) (Some e.1) (find message_cmp k es)) all.0
    ∙ none_of k es all.1

apart_entries : (es : List Entry) → IsAscending (λ (a b : Entry). message_cmp a.0 b.0 ≡ Less) es →
    AreApart message_cmp es
apart_entries [] h = tt
apart_entries (e ∷ es) h = (none_of e.0 es h.0, apart_entries es h.1)

abbrev reasoned : List ℕ → Entry → (List ℕ × ℕ) × List ℕ
reasoned reason e = (e.0, reason)

abbrev reason_for : List ℕ → Option Row → Option (List ℕ)
reason_for reason None = None
reason_for reason (Some r) = cond (is_on_hold r.state) (Some reason) None

found : (reason : List ℕ) (q : List ℕ × ℕ) (es : List Entry) → AreApart message_cmp es →
    find message_cmp q (map (reasoned reason) (filter on_hold es)) ≡ reason_for reason
    (find message_cmp q es)
found reason q [] apart = refl
found reason q (e ∷ es) apart =
    let rest = found reason q es apart.1 in
    let left = filter on_hold es in
    elim (is_on_hold e.1.state) as (λ b. is_on_hold e.1.state ≡ b →
    find message_cmp q (map (reasoned reason) (cond b (e ∷ left) left)) ≡ reason_for reason
    (cond (eq_by_cmp message_cmp q e.0) (Some e.1) (find message_cmp q es))) [
      | true ↦ λ held. elim (eq_by_cmp message_cmp q e.0) as
          (λ b. cond b (Some reason) (find message_cmp q (map (reasoned reason) left)) ≡ reason_for
          reason (cond b (Some e.1) (find message_cmp q es))) [
            | true ↦ sym (ap (λ b. cond b (Some reason) None) held)
            | false ↦ rest
          ]
      | false ↦ λ free. elim (eq_by_cmp message_cmp q e.0) as (λ b. eq_by_cmp message_cmp q e.0 ≡ b
          → find message_cmp q (map (reasoned reason) left) ≡ reason_for reason
          (cond b (Some e.1) (find message_cmp q es))) [
            | true ↦ λ same. rest ∙ ap (reason_for reason)
                (ap (λ k. find message_cmp k es)
                (message_exact q e.0 (equal _ (subst T (sym same) tt)))
                ∙ apart.0) ∙ sym (ap (λ b. cond b (Some reason) None) free)
            | false ↦ λ same. rest
          ] refl
    ] refl

pub held_at : (reason : List ℕ) (ms : FinMap message_cmp Row) (q : List ℕ × ℕ) →
    get (holds_for reason ms) q ≡ reason_for reason (get ms q)
unfolding holds_for
held_at reason ms q =
    get-from_entries message_total (map (reasoned reason) (filter on_hold (entries ms))) q
    ∙ found reason q (entries ms)
    (apart_entries (entries ms) (ascending message_cmp (entries ms) (entries_sorted ms)))
    ∙ ap (reason_for reason) (sym (get-entries ms q))

-- ---- a customer's state

unwrapped : (b : Bool) (reason : List ℕ) →
    unwrap_or (cond b (Some reason) None) [] ≡ (if b then reason else [])
unwrapped true reason = refl
unwrapped false reason = refl

lifted_at : (c : List ℕ) (t : Tables) (serial : ℕ) (o : Option Row) → get t.messages (c, serial) ≡ o
    → option_map (joined c t.recipients (holds_for earlier_hold t.messages) serial) o ≡ option_map
    (λ (m : Message). lifted m) (option_map (joined c t.recipients t.holds serial) o)
unfolding reason_of
lifted_at c t serial None h = refl
lifted_at c t serial (Some r) h = ap
    (λ reason. Some (message_of serial r reason (pending_of c serial t.recipients)))
    (ap (λ o. unwrap_or o []) (held_at earlier_hold t.messages (c, serial)
    ∙ ap (reason_for earlier_hold) h) ∙ unwrapped (is_on_hold r.state) earlier_hold)

pub own_lifted : (c : List ℕ) (t : Tables) → own c (lifted_tables t) ≡ lift (own c t)
own_lifted c t = λ i. record (own c t) { messages = same i } where
  rows : FinMap nat_cmp Row
  rows = part_of text_cmp c t.messages

  same : map_values (joined c t.recipients (holds_for earlier_hold t.messages)) rows ≡ map_values
      (λ _ m. lifted m) (map_values (joined c t.recipients t.holds) rows)
  same = same_map nat_cmp_total exact_unsigned _ _ (λ q.
      get-map_values nat_cmp (joined c t.recipients (holds_for earlier_hold t.messages))
      exact_unsigned rows q
      ∙ lifted_at c t q (get rows q) (sym (get_part nat_cmp nat_list_cmp_total c t.messages q))
      ∙ sym (get-map_values nat_cmp (λ _ m. lifted m) exact_unsigned
      (map_values (joined c t.recipients t.holds) rows) q
      ∙ ap (option_map (λ (m : Message). lifted m))
      (get-map_values nat_cmp (joined c t.recipients t.holds) exact_unsigned rows q)))

-- ---- sound tables

lifted_right : (m : Message) → IsReasoned (lifted m)
lifted_right m = go m.state
  where
    go : (s : QueueState) → nat_lt 0 (length (if is_on_hold s then earlier_hold else [])) ≡
        is_on_hold s
    go Incoming = refl
    go Deferred = refl
    go Hold = refl

lifted_from : (m : Message) (o : Option Message) → option_map (λ (x : Message). lifted x) o ≡ Some m
    → (x : Message) × (o ≡ Some x) × (lifted x ≡ m)
lifted_from m None h = absurd (none_some m h)
lifted_from m (Some x) h = (x, refl, same_some (lifted x) m h)

module _ (s : State) where
  abbrev ms : FinMap nat_cmp Message
  ms = s.messages

  was : (serial : ℕ) (m : Message) → get (lift s).messages serial ≡ Some m → (x : Message)
      × (get ms serial ≡ Some x) × (lifted x ≡ m)
  was serial m h = lifted_from m (get ms serial)
      (sym (get-map_values nat_cmp (λ _ m. lifted m) exact_unsigned ms serial) ∙ h)

  queued : (next serial : ℕ) (x : Message) → IsQueuedBy (λ m. ⊤) next serial x →
      IsQueued next serial (lifted x)
  queued next serial x q = record {
    own_serial = q.own_serial;
    positive = q.positive;
    below = q.below;
    some_pending = q.some_pending;
    apart = q.apart;
    right = lifted_right x;
  }

  same_many : len (lift s).messages ≡ len ms
  same_many =
      len-entries (lift s).messages ∙ ap length (entries-map_values nat_cmp (λ _ m. lifted m) ms)
      ∙ same_length (λ (e : ℕ × Message). (e.0, lifted e.1)) (entries ms) ∙ sym (len-entries ms)

  seconds : (es : List (ℕ × Message)) → map (λ (e : ℕ × Message). e.1)
      (map (λ (e : ℕ × Message). (e.0, lifted e.1)) es) ≡ map (λ m. lifted m)
      (map (λ (e : ℕ × Message). e.1) es)
  seconds [] = refl
  seconds (e ∷ es) = ap (λ l. lifted e.1 ∷ l) (seconds es)

  same_pending : pending_count (values (lift s).messages) ≡ pending_count (values ms)
  same_pending =
      ap (λ es. pending_count (map (λ (e : ℕ × Message). e.1) es))
      (entries-map_values nat_cmp (λ _ m. lifted m) ms)
      ∙ ap pending_count (seconds (entries ms))
      ∙ same_sum (λ m. lifted m) (λ (m : Message). length m.pending) (values ms)

  lift_sound : SoundStateBy (λ m. ⊤) s → SoundState (lift s)
  lift_sound h = record {
    shaped = record {
      next_serial = h.shaped.next_serial;
      next_notice = h.shaped.next_notice;
      messages = λ serial m e. let it = was serial m e in
          subst (IsQueued s.head.next_serial serial) it.2
          (queued s.head.next_serial serial it.0 (h.shaped.messages serial it.0 it.1));
      spools = λ k l m n e f same. let it = was k m e in let other = was l n f in
          h.shaped.spools k l it.0 other.0 it.1 other.1 (ap (λ (x : Message). x.spool) it.2 ∙ same
          ∙ sym (ap (λ (x : Message). x.spool) other.2));
      few_messages = subst (λ n. n ≤ 1000) (sym same_many) h.shaped.few_messages;
      few_lines = h.shaped.few_lines;
      notices = h.shaped.notices;
      ends = h.shaped.ends;
    };
    conserved = h.conserved ∙ ap (λ n. n + s.head.tally.delivered + s.head.tally.failed +
        s.head.tally.deleted + s.head.tally.expired) (sym same_pending);
    bounded = h.bounded;
  }

lifted_holds : (t : Tables) → ShapedHolds (lifted_tables t)
lifted_holds t = record {
  some_reason = λ c serial x h. some (get t.messages (c, serial)) x
      (sym (held_at earlier_hold t.messages (c, serial)) ∙ h);
  no_orphans = λ c serial none. held_at earlier_hold t.messages (c, serial)
      ∙ ap (reason_for earlier_hold) none;
} where
  some_of : (b : Bool) (x : List ℕ) → cond b (Some earlier_hold) None ≡ Some x → 0 < length x
  some_of true x h = subst (λ y. 0 < length y) (same_some earlier_hold x h) (omega arith)
  some_of false x h = absurd (none_some x h)

  some : (o : Option Row) (x : List ℕ) → reason_for earlier_hold o ≡ Some x → 0 < length x
  some None x h = absurd (none_some x h)
  some (Some r) x h = some_of (is_on_hold r.state) x h

pub tables_lifted : (t : Tables) → FirstSound t → Sound (lifted_tables t)
tables_lifted t h = record {
  states = λ c. subst SoundState (sym (own_lifted c t)) (lift_sound (own c t) (h.states c));
  recipients = record { placed = h.recipients.placed; no_orphans = h.recipients.no_orphans };
  holds = lifted_holds t;
  counts = h.counts;
}

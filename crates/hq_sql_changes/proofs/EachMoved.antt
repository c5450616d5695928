-- A move of the messages of a customer, one after another: rows and reasons change, nothing else.
use Rattle.std.proofs.Common.{◌≡◌, ◌≢◌, ⊎_elim, ℕ, Bool, true, false, cond, List, [], ◌∷◌, ◌++◌}
use Rattle.std.proofs.Common.{Option, Some, None, refl, sym, ap, ◌∙◌, subst}
use Rattle.std.specs.Prelude.{option_map}
use Rattle.std.proofs.lemmas.Bool.{cases_eq}
use Rattle.std.specs.Ordering.{nat_cmp}
use Rattle.std.specs.Cmp.{nat_cmp_total}
use Rattle.std.specs.Cmp.Lexicographic.{nat_list_cmp_total}
use Rattle.std.specs.FinMap.{FinMap, entries, values, find, get, insert, get-entries, get-insert}
use Rattle.std.specs.FinMap.{same_map}
use Rattle.std.proofs.lemmas.Map.Lookups.{exact_unsigned, exact_bytes}
use Rattle.hq_kept.specs.Messages.{is_on_hold}
use Rattle.hq_kept.specs.declared.message.Message.{Message}
use Rattle.hq_kept.specs.declared.message.Pending.{Pending}
use Rattle.hq_owned.specs.Owned.{by_both, part_of, given}
use Rattle.hq_owned.proofs.Cases.{none_some, same_some}
use Rattle.hq_owned.proofs.Parts.{get_part, get-map_values, both_total, both_exact, tied_false}
use Rattle.hq_tables.proofs.Customers.{cases_name, read_own}
use Rattle.hq_tables.proofs.Orders.{message_total, message_exact}
use Rattle.hq_tables.specs.declared.change.Change.{Change}
use Rattle.hq_tables.specs.declared.change.Change.TheVariants.{PutMessage}
use Rattle.hq_tables.specs.Readings.{messages_in}
use Rattle.hq_tables.specs.Sound.{AreCounted, Sound, numbered}
use Rattle.hq_tables.specs.Tables.{Tables, Row, text_cmp, message_cmp, row_of, joined, own}
use Rattle.hq_tables.specs.Tables.{pending_of, deal, give_reason, write, write_all}
use Rattle.hq_isolation.proofs.Counted.{counts_stay}
use Rattle.hq_isolation.proofs.Dealt.{Recipients, IsPlaced, placed_same, placed_other_message}
use Rattle.hq_isolation.proofs.Dealt.{placed_other_owner, pending_same, pending_other_message}
use Rattle.hq_isolation.proofs.Dealt.{pending_other_owner}
use Rattle.hq_isolation.proofs.Many.{NotAmong, Stand, stand_values}
use Rattle.hq_isolation.proofs.Read.{same_messages}
use Rattle.hq_isolation.proofs.Reasons.{Holds}
use Rattle.hq_rules.specs.Queues.{moved_by, moves_of, put}
use Rattle.hq_rules.specs.declared.call.Move.{Move}
use Rattle.hq_rules.specs.declared.call.Move.TheVariants.{Hold, Release}
use Rattle.hq_values.specs.Words.{customer_hold}
use Rattle.hq_sql_changes.proofs.Recounted.{heads_kept}
use Rattle.hq_kept.specs.declared.message.QueueState.TheVariants as state

abbrev pub Messages : Type 0
Messages = FinMap message_cmp Row

abbrev pub Key : Type 0
Key = List ℕ × ℕ

-- ---- recipients that are dealt again

abbrev pub AllPlaced : Recipients → Type 0
AllPlaced rs = (c : List ℕ) (serial : ℕ) → IsPlaced c serial rs

module _ (c : List ℕ) (serial : ℕ) (rs : Recipients) (placed : AllPlaced rs) where
  abbrev again : Recipients
  again = deal c serial (pending_of c serial rs) rs

  abbrev part : List ℕ → ℕ → Recipients → FinMap nat_cmp Pending
  part d q all = part_of nat_cmp q (part_of text_cmp d all)

  placed_again : (d : List ℕ) (q : ℕ) → IsPlaced d q again
  placed_again d q = ⊎_elim
      (λ (e : d ≡ c). ⊎_elim
      (λ (f : q ≡ serial). subst (λ x. IsPlaced x q again) (sym e)
      (subst (λ x. IsPlaced c x again) (sym f) (placed_same c serial (pending_of c serial rs) rs)))
      (λ (f : q ≢ serial). subst (λ x. IsPlaced x q again) (sym e)
      (placed_other_message c serial q (pending_of c serial rs) rs f (placed c q)))
      (cases_eq q serial))
      (λ (e : d ≢ c). placed_other_owner c d serial q (pending_of c serial rs) rs e (placed d q))
      (cases_name d c)

  pending_again : (d : List ℕ) (q : ℕ) → pending_of d q again ≡ pending_of d q rs
  pending_again d q = ⊎_elim
      (λ (e : d ≡ c). ⊎_elim
      (λ (f : q ≡ serial). (λ i. pending_of (e i) (f i) again)
      ∙ pending_same c serial (pending_of c serial rs) rs
      ∙ sym (λ i. pending_of (e i) (f i) rs))
      (λ (f : q ≢ serial). ap (λ x. pending_of x q again) e
      ∙ pending_other_message c serial q (pending_of c serial rs) rs f
      ∙ sym (ap (λ x. pending_of x q rs) e))
      (cases_eq q serial))
      (λ (e : d ≢ c). pending_other_owner c d serial q (pending_of c serial rs) rs e)
      (cases_name d c)

  entries_again : (d : List ℕ) (q : ℕ) → entries (part d q again) ≡ entries (part d q rs)
  entries_again d q = placed_again d q ∙ ap (numbered 1) (pending_again d q) ∙ sym (placed d q)

  found_in : (all : Recipients) (d : List ℕ) (q i : ℕ) →
      get all (d, (q, i)) ≡ find nat_cmp i (entries (part d q all))
  found_in all d q i = sym (get_part (by_both nat_cmp nat_cmp) nat_list_cmp_total d all (q, i))
      ∙ sym (get_part nat_cmp nat_cmp_total q (part_of text_cmp d all) i)
      ∙ get-entries (part d q all) i

  -- a message that is dealt the recipients that it has keeps them
  pub deal_again : again ≡ rs
  deal_again = same_map (both_total nat_list_cmp_total (both_total nat_cmp_total nat_cmp_total))
      (both_exact exact_bytes (both_exact exact_unsigned exact_unsigned)) _ _
      (λ k. found_in again k.0 k.1.0 k.1.1
      ∙ ap (find nat_cmp k.1.1) (entries_again k.0 k.1.0) ∙ sym (found_in rs k.0 k.1.0 k.1.1))

-- ---- one message, put with its size and its recipients

pub put_kept : (c : List ℕ) (n : Message) (r : Row) (t : Tables) → AreCounted t →
    AllPlaced t.recipients → get t.messages (c, n.serial) ≡ Some r → r.size ≡ n.size →
    pending_of c n.serial t.recipients ≡ n.pending → write c (PutMessage n) t ≡ record t {
      messages = insert t.messages (c, n.serial) (row_of n);
      holds = give_reason c n.serial n.reason t.holds;
    }
put_kept c n r t counted placed there size pending = λ i. record t {
  heads = heads_kept c n.serial n.size t counted
      (ap Some (sym size) ∙ ap (option_map (λ (x : Row). x.size)) (sym there)) i;
  messages = insert t.messages (c, n.serial) (row_of n);
  recipients = (ap (λ ps. deal c n.serial ps t.recipients) (sym pending)
      ∙ deal_again c n.serial t.recipients placed) i;
  holds = give_reason c n.serial n.reason t.holds;
}

-- a move keeps serial, size and recipients
moved_keeps : (by : Move) (m n : Message) → moved_by by m ≡ Some n →
    (n.serial ≡ m.serial) × ((n.size ≡ m.size) × (n.pending ≡ m.pending))
moved_keeps Hold m n e = go (is_on_hold m.state) e
  where
    held : Message
    held = record m { state = state.Hold; reason = customer_hold }

    go : (b : Bool) → cond b None (Some held) ≡ Some n →
        (n.serial ≡ m.serial) × ((n.size ≡ m.size) × (n.pending ≡ m.pending))
    go true is = absurd (none_some n is)
    go false is =
        let same = sym (same_some held n is) in (
          ap (λ (x : Message). x.serial) same,
          (
            ap (λ (x : Message). x.size) same,
            ap (λ (x : Message). x.pending) same,
          ),
        )
moved_keeps (Release at) m n e = go (is_on_hold m.state) e
  where
    released : Message
    released = record m { state = state.Deferred; reason = []; next_try = at }

    go : (b : Bool) → cond b (Some released) None ≡ Some n →
        (n.serial ≡ m.serial) × ((n.size ≡ m.size) × (n.pending ≡ m.pending))
    go false is = absurd (none_some n is)
    go true is =
        let same = sym (same_some released n is) in (
          ap (λ (x : Message). x.serial) same,
          (
            ap (λ (x : Message). x.size) same,
            ap (λ (x : Message). x.pending) same,
          ),
        )

abbrev pub row_one : List ℕ → Move → Message → Messages → Messages
row_one c by m ms = given ms (λ (n : Message). insert ms (c, n.serial) (row_of n)) (moved_by by m)

abbrev pub reason_one : List ℕ → Move → Message → Holds → Holds
reason_one c by m hs = given hs (λ (n : Message). give_reason c n.serial n.reason hs)
    (moved_by by m)

moved_one : (c : List ℕ) (by : Move) (m : Message) (t : Tables) → AreCounted t →
    AllPlaced t.recipients → get t.messages (c, m.serial) ≡ Some (row_of m) →
    pending_of c m.serial t.recipients ≡ m.pending →
    write_all c (put (moved_by by m)) t ≡ record t {
      messages = row_one c by m t.messages;
      holds = reason_one c by m t.holds;
    }
moved_one c by m t counted placed there pending = go (moved_by by m) refl
  where
    go : (o : Option Message) → moved_by by m ≡ o → write_all c (put o) t ≡ record t {
      messages = given t.messages (λ (n : Message). insert t.messages (c, n.serial) (row_of n)) o;
      holds = given t.holds (λ (n : Message). give_reason c n.serial n.reason t.holds) o;
    }
    go None e = refl
    go (Some n) e =
        let keeps = moved_keeps by m n e in
        put_kept c n (row_of m) t counted placed
        (ap (λ serial. get t.messages (c, serial)) keeps.0 ∙ there) (sym keeps.1.0)
        (ap (λ serial. pending_of c serial t.recipients) keeps.0 ∙ pending ∙ sym keeps.1.1)

-- ---- all of them, one after another

-- each has its row and its recipients, and none stands twice
abbrev pub AllStand : List ℕ → Messages → Recipients → List Message → Type 0
AllStand c rows rs [] = Unit {0}
AllStand c rows rs (m ∷ ms) = (get rows (c, m.serial) ≡ Some (row_of m))
    × ((pending_of c m.serial rs ≡ m.pending) × (NotAmong m.serial ms × AllStand c rows rs ms))

row_other : (c : List ℕ) (by : Move) (m : Message) (rows : Messages) (x : ℕ) → m.serial ≢ x →
    get (row_one c by m rows) (c, x) ≡ get rows (c, x)
row_other c by m rows x apart = go (moved_by by m) refl
  where
    go : (o : Option Message) → moved_by by m ≡ o →
        get (given rows (λ (n : Message). insert rows (c, n.serial) (row_of n)) o) (c, x) ≡ get rows
        (c, x)
    go None e = refl
    go (Some n) e = get-insert message_total rows (c, n.serial) (row_of n) (c, x)
        ∙ ap (λ b. cond b (Some (row_of n)) (get rows (c, x)))
        (tied_false message_exact (c, x) (c, n.serial) (λ same.
        apart (sym (moved_keeps by m n e).0 ∙ sym (ap (λ (k : Key). k.1) same))))

pub stand_after : (c : List ℕ) (by : Move) (m : Message) (rows : Messages) (rs : Recipients)
    (ms : List Message) → NotAmong m.serial ms → AllStand c rows rs ms →
    AllStand c (row_one c by m rows) rs ms
stand_after c by m rows rs [] apart h = tt
stand_after c by m rows rs (x ∷ ms) apart h = (
  row_other c by m rows x.serial (λ same. apart.0 (sym same)) ∙ h.0,
  (h.1.0, (h.1.1.0, stand_after c by m rows rs ms apart.1 h.1.1.1)),
)

abbrev pub row_each : List ℕ → Move → List Message → Messages → Messages
row_each c by [] rows = rows
row_each c by (m ∷ ms) rows = row_each c by ms (row_one c by m rows)

abbrev pub reason_each : List ℕ → Move → List Message → Holds → Holds
reason_each c by [] hs = hs
reason_each c by (m ∷ ms) hs = reason_each c by ms (reason_one c by m hs)

pub write_all-append : (c : List ℕ) (xs ys : List Change) (t : Tables) →
    write_all c (xs ++ ys) t ≡ write_all c ys (write_all c xs t)
write_all-append c [] ys t = refl
write_all-append c (x ∷ xs) ys t = write_all-append c xs ys (write c x t)

pub each_moved : (c : List ℕ) (by : Move) (ms : List Message) (t : Tables) → AreCounted t →
    AllPlaced t.recipients → AllStand c t.messages t.recipients ms →
    write_all c (moves_of by ms) t ≡ record t {
      messages = row_each c by ms t.messages;
      holds = reason_each c by ms t.holds;
    }
each_moved c by [] t counted placed stand = refl
each_moved c by (m ∷ ms) t counted placed stand =
    let one = moved_one c by m t counted placed stand.0 stand.1.0 in
    write_all-append c (put (moved_by by m)) (moves_of by ms) t
    ∙ ap (write_all c (moves_of by ms)) one
    ∙ each_moved c by ms (record t {
      messages = row_one c by m t.messages;
      holds = reason_one c by m t.holds;
    }) (subst AreCounted one (counts_stay c (put (moved_by by m)) t counted)) placed
    (stand_after c by m t.messages t.recipients ms stand.1.1.0 stand.1.1.1)

-- all messages of a customer stand
module _ (c : List ℕ) (t : Tables) (sound : Sound t) where
  abbrev pub queue : FinMap nat_cmp Message
  queue = (own c t).messages

  own_serial : (k : ℕ) (m : Message) → get queue k ≡ Some m → m.serial ≡ k
  own_serial k m f = ((sound.states c).shaped.messages k m f).own_serial

  pub seen : (k : ℕ) → get queue k ≡ option_map (joined c t.recipients t.holds k)
      (get t.messages (c, k))
  seen k = get-map_values nat_cmp (joined c t.recipients t.holds) exact_unsigned
      (part_of text_cmp c t.messages) k
      ∙ ap (option_map (joined c t.recipients t.holds k))
      (read_own nat_cmp_total exact_unsigned c t.messages k)

  stands : (k : ℕ) (m : Message) → get queue k ≡ Some m →
      (get t.messages (c, k) ≡ Some (row_of m)) × (pending_of c k t.recipients ≡ m.pending)
  stands k m f = go (get t.messages (c, k)) (sym (seen k) ∙ f)
    where
      go : (o : Option Row) → option_map (joined c t.recipients t.holds k) o ≡ Some m →
          (o ≡ Some (row_of m)) × (pending_of c k t.recipients ≡ m.pending)
      go None e = absurd (none_some m e)
      go (Some r) e =
          let same = same_some (joined c t.recipients t.holds k r) m e in
          (ap (λ (x : Message). Some (row_of x)) same, ap (λ (x : Message). x.pending) same)

  all_stand : (ms : List Message) → Stand queue ms → AllStand c t.messages t.recipients ms
  all_stand [] h = tt
  all_stand (m ∷ ms) h =
      let here = stands m.serial m h.0 in
      (here.0, (here.1, (h.1, all_stand ms h.2)))

  pub stand_in : AllStand c t.messages t.recipients (messages_in c t)
  stand_in = subst (AllStand c t.messages t.recipients) (sym (same_messages c t))
      (all_stand (values queue) (stand_values queue own_serial))

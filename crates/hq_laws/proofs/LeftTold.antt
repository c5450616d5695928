-- What the changes of a history tell of those who left.
use Rattle.std.proofs.Common.{◌≡◌, ◌⊎◌, inl, inr, ⊎_elim, ℕ, suc, ◌+◌, ◌-◌, ◌^◌, ◌<◌, ◌≤◌, Bool}
use Rattle.std.proofs.Common.{true}
use Rattle.std.proofs.Common.{false, cond, List, [], ◌∷◌, length, refl, sym, ap, ◌∙◌, subst}
use Rattle.std.proofs.Common.{Some, arith, drop}
use Rattle.std.specs.Ordering.{eq_by_cmp}
use Rattle.std.specs.FinMap.{FinMap, get, insert, retain_keys, get-insert}
use Rattle.std.proofs.lemmas.Map.Views.{tells_apart}
use Rattle.hq_owned.proofs.Parts.{tied_true}
use Rattle.hq_kept.specs.Tallies.{all_gone, last_gone}
use Rattle.hq_kept.specs.declared.account.Entry.{Entry}
use Rattle.hq_kept.specs.declared.account.Head.{Head}
use Rattle.hq_kept.specs.declared.account.Tally.{Tally}
use Rattle.hq_kept.specs.declared.message.Message.{Message}
use Rattle.hq_kept.specs.declared.message.Pending.{Pending}
use Rattle.hq_kept.specs.declared.outcome.Ended.{Ended}
use Rattle.hq_tables.specs.Sound.{SoundState}
use Rattle.std.specs.Prelude.{nat_le}
use Rattle.hq_tables.specs.declared.change.Change.TheVariants.{DropEndsTo}
use Rattle.hq_tables.specs.Tables.{State, Past, newest_cmp, add_ends, change, change_all}
use Rattle.hq_tables.specs.Tables.{last_before}
use Rattle.hq_tables.proofs.Orders.{newest_total, newest_exact}
use Rattle.hq_rules.specs.Histories.{last_of, put_to, remembered, kept_history}
use Rattle.hq_laws.specs.Leaving.{IsRecorded}
use Rattle.hq_laws.proofs.Among.{Among}
use Rattle.hq_laws.proofs.There.{IsThere}

abbrev pub Ends : Type 0
Ends = FinMap newest_cmp Past

other_at : (m : Ends) (k n : ℕ) (v : Past) → (n ≡ k → ⊥) → get (insert m k v) n ≡ get m n
other_at m k n v apart = get-insert newest_total m k v n ∙ by (eq_by_cmp newest_cmp n k) refl where
  by : (b : Bool) → eq_by_cmp newest_cmp n k ≡ b → cond b (Some v) (get m n) ≡ get m n
  by true e = absurd (apart (tells_apart newest_exact n k e))
  by false e = refl

there_at : (m : Ends) (k : ℕ) (v : Past) → get (insert m k v) k ≡ Some v
there_at m k v = get-insert newest_total m k v k
    ∙ ap (λ b. cond b (Some v) (get m k)) (tied_true newest_total k)

not_before : (n last i : ℕ) → suc i ≤ last → n ≤ last - suc i → n ≡ last - i → ⊥
not_before n last i fits before e = omega arith

-- numbers before those that are added
before_these : (at last : ℕ) (es : List Ended) (m : Ends) (n : ℕ) → length es ≤ last →
    n ≤ last - length es → get (add_ends at last es m) n ≡ get m n
before_these at last [] m n fits low = refl
before_these at last (e ∷ es) m n fits low =
    before_these at last es (insert m (last - length es) _) n (omega arith) (omega arith)
    ∙ other_at m (last - length es) n _ (not_before n last (length es) fits low)

-- each that is added has a number
pub each_added : (at last : ℕ) (es : List Ended) (m : Ends) (e : Ended) → length es ≤ last →
    Among e es → (n : ℕ) × (last - length es < n)
    × (get (add_ends at last es m) n ≡ Some (record { at = at; ended = e }))
each_added at last [] m e fits there = absurd there
each_added at last (x ∷ es) m e fits (inl same) =
    let k : ℕ = last - length es in
    let v : Past = record { at = at; ended = x } in (
      k,
      omega arith,
      before_these at last es (insert m k v) k (omega arith) (omega arith)
          ∙ there_at m k v ∙ ap (λ (y : Ended). Some (record { at = at; ended = y })) (sym same),
    )
each_added at last (x ∷ es) m e fits (inr more) =
    let rest = each_added at last es
    (insert m (last - length es) (record { at = at; ended = x })) e (omega arith) more in
    (rest.0, omega (arith, rest.1), rest.2)

all_of : (n : ℕ) (es : List Ended) → length es ≤ n → last_of n es ≡ es
all_of n es h = ap (λ k. drop k es) (none n (length es) h) where
  none : (n k : ℕ) → k ≤ n → k - n ≡ 0
  none n k h = omega arith

-- ---- heads and sums

put_head : (at last : ℕ) (es : List Ended) (u : State) →
    (change_all (put_to at last es) u).head ≡ u.head
put_head at last [] u = refl
put_head at last (e ∷ es) u = refl

past_head : (entry : Entry) (at : ℕ) (head : Head) (es : List Ended) (t : State) →
    (change_all (kept_history entry at head es) t).head ≡ t.head
past_head entry at head [] t = refl
past_head entry at head (e ∷ es) t = put_head at (last_gone head.tally)
    (last_of entry.history (e ∷ es)) _

put_queue : (at last : ℕ) (es : List Ended) (u : State) →
    (change_all (put_to at last es) u).messages ≡ u.messages
put_queue at last [] u = refl
put_queue at last (e ∷ es) u = refl

past_queue : (entry : Entry) (at : ℕ) (head : Head) (es : List Ended) (t : State) →
    (change_all (kept_history entry at head es) t).messages ≡ t.messages
past_queue entry at head [] t = refl
past_queue entry at head (e ∷ es) t = put_queue at _ (last_of entry.history (e ∷ es)) _

few_gone : (u : State) → SoundState u → all_gone u.head.tally < 2 ^ 63
few_gone u h =
    let was = h.conserved in
    let bound = h.bounded in
    let next = h.shaped.next_serial in
    omega arith

uncut : (t : Tally) → all_gone t < 2 ^ 63 → last_gone t ≡ all_gone t
uncut t h = omega arith

-- ---- who left is told

-- whoever was pending is pending still, or among these
abbrev pub Parts : State → State → List Ended → Type 0
Parts s t gone = (serial : ℕ) (m : Message) (p : Pending) → get s.messages serial ≡ Some m →
    Among p m.pending → IsThere t serial p.address
    ⊎ ((e : Ended) × Among e gone × (e.serial ≡ serial) × (e.recipient ≡ p.address))

put_told : (history at last : ℕ) (e : Ended) (gone : List Ended) (t : State) →
    length gone ≤ history → length gone ≤ last → Among e gone → (n : ℕ) × (last - length gone < n)
    × (get (change_all (remembered history at last gone) t).ends n
    ≡ Some (record { at = at; ended = e }))
put_told history at last e [] t few fits there = absurd there
put_told history at last e (x ∷ es) t few fits there =
    let kept : Ends = retain_keys (change (DropEndsTo (last - history)) t).ends
    (λ n. nat_le n (last_before (record { last = last; at = at; ended = x ∷ es }))) in
    let it = each_added at last (x ∷ es) kept e fits there in (
      it.0,
      it.1,
      ap (λ ys. get (change_all (DropEndsTo (last - history) ∷ put_to at last ys) t).ends it.0)
          (all_of history (x ∷ es) few) ∙ it.2,
    )

pub all_told : (entry : Entry) (at : ℕ) (head : Head) (gone : List Ended) (s t : State) →
    t.head ≡ head → Parts s t gone →
    (let after = change_all (kept_history entry at head gone) t in
    SoundState after → (all_gone head.tally < 2 ^ 63 →
    all_gone head.tally ≡ all_gone s.head.tally + length gone) →
    all_gone after.head.tally - all_gone s.head.tally ≤ entry.history →
    (serial : ℕ) (m : Message) (p : Pending) → get s.messages serial ≡ Some m →
    Among p m.pending → IsThere after serial p.address ⊎ IsRecorded s after at serial p.address)
all_told entry at head gone s t is parts sound count history serial m p stands there =
    ⊎_elim still told (parts serial m p stands there)
  where
    after : State
    after = change_all (kept_history entry at head gone) t

    same : (change_all (kept_history entry at head gone) t).head ≡ head
    same = past_head entry at head gone t ∙ is

    few : all_gone head.tally < 2 ^ 63
    few = subst (λ (h : Head). all_gone h.tally < 2 ^ 63) same (few_gone _ sound)

    counted : all_gone head.tally ≡ all_gone s.head.tally + length gone
    counted = count few

    fewer : all_gone head.tally - all_gone s.head.tally ≤ entry.history
    fewer = subst (λ (h : Head). all_gone h.tally - all_gone s.head.tally ≤ entry.history) same
        history

    short : length gone ≤ entry.history
    short = omega (arith, counted, fewer)

    still : IsThere t serial p.address → IsThere (change_all (kept_history entry at head gone)
        t) serial p.address ⊎ IsRecorded s (change_all (kept_history entry at head gone) t) at
        serial p.address
    still it = inl (it.0, ap (λ q. get q serial) (past_queue entry at head gone t) ∙ it.1, it.2)

    told : (e : Ended) × Among e gone × (e.serial ≡ serial) × (e.recipient ≡ p.address) →
        IsThere (change_all (kept_history entry at head gone) t) serial p.address
        ⊎ IsRecorded s (change_all (kept_history entry at head gone) t) at serial p.address
    told it =
        let last : last_gone head.tally ≡ all_gone head.tally = uncut head.tally few in
        let at_it = put_told entry.history at (last_gone head.tally) it.0 gone t short
        (omega (arith, last, counted)) it.1 in
        inr (
          at_it.0,
          record { at = at; ended = it.0 },
          omega (arith, last, counted, at_it.1),
          at_it.2,
          refl,
          it.2,
          it.3,
        )

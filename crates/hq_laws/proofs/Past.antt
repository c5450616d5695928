-- Those who left the queue in a call, and what its changes of the history make of them.
use Rattle.std.proofs.Common.{◌≡◌, ℕ, ◌+◌, ◌-◌, ◌^◌, ◌<◌, List, [], ◌∷◌}
use Rattle.std.proofs.Common.{length, refl, sym, ap, ◌∙◌, subst}
use Rattle.std.proofs.Common.{arith}
use Rattle.std.specs.List.{All}
use Rattle.std.proofs.lemmas.List.Elements.{All-nil}
use Rattle.hq_kept.specs.Tallies.{all_gone, last_gone}
use Rattle.hq_kept.specs.declared.account.Entry.{Entry}
use Rattle.hq_kept.specs.declared.account.Head.{Head}
use Rattle.hq_kept.specs.declared.account.Tally.{Tally}
use Rattle.hq_kept.specs.declared.outcome.Ended.{Ended}
use Rattle.hq_tables.specs.Sound.{SoundState}
use Rattle.hq_tables.specs.declared.change.Change.TheVariants.{DropEndsTo}
use Rattle.hq_tables.specs.Tables.{State, change, change_all}
use Rattle.hq_rules.specs.Histories.{last_of, put_to, remembered, kept_history}
use Rattle.hq_laws.specs.Queued.{WasQueued}
use Rattle.hq_laws.proofs.Beside.{IsBeside}

-- those who left, as many as the tally counts more, are remembered with the moment of the call
pub record Remembers (history at : ℕ) (s t : State) : Type 0 where
  pub gone : List Ended
  pub counted : all_gone t.head.tally ≡ all_gone s.head.tally + length gone
  pub were : All (WasQueued s) gone
  pub kept : t.ends ≡ (change_all (remembered history at (all_gone t.head.tally) gone) s).ends

no_more : (n : ℕ) → n ≡ n + 0
no_more n = omega arith

-- where nobody left
pub nobody : (history at : ℕ) (s t : State) → IsBeside s t → Remembers history at s t
nobody history at s t b = record {
  gone = [];
  counted = b.gone ∙ no_more (all_gone s.head.tally);
  were = All-nil (WasQueued s);
  kept = b.ends;
}

-- ---- the changes of a history

put_head : (at last : ℕ) (es : List Ended) (u : State) →
    (change_all (put_to at last es) u).head ≡ u.head
put_head at last [] u = refl
put_head at last (e ∷ es) u = refl

past_head : (entry : Entry) (at : ℕ) (head : Head) (es : List Ended) (t : State) →
    (change_all (kept_history entry at head es) t).head ≡ t.head
past_head entry at head [] t = refl
past_head entry at head (e ∷ es) t = put_head at (last_gone head.tally)
    (last_of entry.history (e ∷ es)) _

put_ends : (at last : ℕ) (es : List Ended) (u v : State) → u.ends ≡ v.ends →
    (change_all (put_to at last es) u).ends ≡ (change_all (put_to at last es) v).ends
put_ends at last [] u v same = same
put_ends at last (e ∷ es) u v same =
    ap (λ m. (change_all (put_to at last (e ∷ es)) (record u { ends = m })).ends) same

past_ends : (history at last : ℕ) (es : List Ended) (u v : State) → u.ends ≡ v.ends →
    (change_all (remembered history at last es) u).ends ≡
    (change_all (remembered history at last es) v).ends
past_ends history at last [] u v same = same
past_ends history at last (e ∷ es) u v same =
    let drop : State → State = change (DropEndsTo (last - history)) in
    put_ends at last (last_of history (e ∷ es)) (drop u) (drop v)
    (ap (λ m. (drop (record u { ends = m })).ends) same)

uncut : (t : Tally) → all_gone t < 2 ^ 63 → last_gone t ≡ all_gone t
uncut t h = omega arith

pub remembers_past : (entry : Entry) (at : ℕ) (head : Head) (es : List Ended) (s t : State) →
    t.ends ≡ s.ends → t.head ≡ head → all_gone head.tally < 2 ^ 63 →
    all_gone head.tally ≡ all_gone s.head.tally + length es → All (WasQueued s) es →
    Remembers entry.history at s (change_all (kept_history entry at head es) t)
remembers_past entry at head es s t ends is few count were =
    let after = change_all (kept_history entry at head es) t in
    let gone : all_gone after.head.tally ≡ all_gone head.tally =
    ap (λ (h : Head). all_gone h.tally) (past_head entry at head es t ∙ is) in
    record {
      gone = es;
      counted = gone ∙ count;
      were = were;
      kept = past_ends entry.history at (last_gone head.tally) es t s ends
          ∙ ap (λ last. (change_all (remembered entry.history at last es) s).ends)
          (uncut head.tally few ∙ sym gone);
    }

-- ---- how many have left is far from the greatest number

pub few_gone : (u : State) → SoundState u → all_gone u.head.tally < 2 ^ 63
few_gone u h =
    let was = h.conserved in
    let bound = h.bounded in
    let next = h.shaped.next_serial in
    omega arith

pub few_after : (entry : Entry) (at : ℕ) (head : Head) (es : List Ended) (t : State) →
    t.head ≡ head → SoundState (change_all (kept_history entry at head es) t) →
    all_gone head.tally < 2 ^ 63
few_after entry at head es t is h =
    subst (λ (x : Head). all_gone x.tally < 2 ^ 63) (past_head entry at head es t ∙ is)
    (few_gone _ h)

-- Notices that a plan adds under numbers that its head gives out, and those that it drops, keep a
-- customer's state sound.
use Rattle.std.proofs.Common.{◌≡◌, ◌⊎◌, inl, inr, ⊎_elim, ℕ, suc, ◌+◌, ◌<◌, ◌≤◌, Bool, true, false}
use Rattle.std.proofs.Common.{cond, List, [], ◌∷◌, ◌++◌, length, refl, sym, ◌∙◌, subst, Some, None}
use Rattle.std.proofs.Common.{Option, arith}
use Rattle.std.specs.Ordering.{nat_cmp, eq_by_cmp}
use Rattle.std.specs.Cmp.{nat_cmp_total}
use Rattle.std.specs.FinMap.{get, insert, get-insert}
use Rattle.std.proofs.lemmas.Map.Lookups.{exact_unsigned}
use Rattle.std.proofs.lemmas.Map.Views.{tells_apart}
use Rattle.hq_kept.specs.declared.account.Entry.{Entry}
use Rattle.hq_kept.specs.declared.account.Head.{Head}
use Rattle.hq_tables.specs.declared.change.Change.{Change}
use Rattle.hq_tables.specs.declared.change.Change.TheVariants.{PutHead, AddNotice, DropNoticesBelow}
use Rattle.hq_kept.specs.declared.notice.Notice.{Notice}
use Rattle.hq_tables.specs.Sound.{SoundState}
use Rattle.hq_tables.specs.Tables.{State, Noted, noted_of, change, change_all}
use Rattle.hq_isolation.proofs.Many.{change_all-append}
use Rattle.hq_isolation.proofs.States.{change_shaped}
use Rattle.hq_rules.specs.Histories.{kept_history}
use Rattle.hq_rules.specs.Notices.{noticed, added_from, kept_below, with_notices, planned}
use Rattle.hq_rules.specs.declared.plan.Draft.{Draft}
use Rattle.hq_rules.specs.declared.plan.Plan.{Plan}
use Rattle.hq_soundness.proofs.Remembered.{history_sound}

-- no notice has this number or a later one
abbrev pub NoneFrom : State → ℕ → Type 0
NoneFrom s k = (x : ℕ) (n : Noted) → get s.notices x ≡ Some n → x < k

-- what a look-up finds after a notice was added
found : (s : State) (n : Notice) (x : ℕ) (m : Noted) →
    get (insert s.notices n.number (noted_of n)) x ≡ Some m → (x ≡ n.number)
    ⊎ (get s.notices x ≡ Some m)
found s n x m h = cases (eq_by_cmp nat_cmp x n.number) refl
    (sym (get-insert nat_cmp_total s.notices n.number (noted_of n) x) ∙ h) where
      cases : (b : Bool) → eq_by_cmp nat_cmp x n.number ≡ b →
          cond b (Some (noted_of n)) (get s.notices x) ≡ Some m → (x ≡ n.number)
          ⊎ (get s.notices x ≡ Some m)
      cases true e f = inl (tells_apart exact_unsigned x n.number e)
      cases false e f = inr f

-- nothing stands at a number that no notice has
free : (s : State) (k : ℕ) → NoneFrom s k → (o : Option Noted) → get s.notices k ≡ o → o ≡ None
free s k none None e = refl
free s k none (Some n) e = let below = none k n e in absurd (omega arith)

-- a notice fits under a number that was given out, where no notice has it
added_sound : (s : State) (n : Notice) → SoundState s → 0 < n.number → n.number < s.head.next_notice
    → NoneFrom s n.number → SoundState (change (AddNotice n) s)
added_sound s n h positive below none = record {
  shaped = change_shaped s (AddNotice n) h.shaped (
    positive,
    (below, free s n.number none (get s.notices n.number) refl),
  );
  conserved = h.conserved;
  bounded = h.bounded;
}

-- notices under the numbers from this one on, all of them given out, and then changes that keep
-- what is sound
notices_sound : (host : List ℕ) (at k : ℕ) (ds : List Draft) (rest : List Change) (head : Head)
    (s : State) → s.head ≡ head → SoundState s → 0 < k → k + length ds ≤ s.head.next_notice →
    NoneFrom s k
    → ((u : State) → u.head ≡ head → SoundState u → SoundState (change_all rest u)) →
    SoundState (change_all (added_from host at k ds ++ rest) s)
notices_sound host at k [] rest head s is h positive room none keeps = keeps s is h
notices_sound host at k (d ∷ ds) rest head s is h positive room none keeps =
    let n = noticed host at k d in
    notices_sound host at (suc k) ds rest head (change (AddNotice n) s) is
    (added_sound s n h positive (omega arith) none) (omega arith) (omega arith)
    (λ x m f. ⊎_elim (λ (same : x ≡ k). omega arith) (λ (old : get s.notices x ≡ Some m). let low =
    none x m old in omega arith) (found s n x m f))
    keeps

-- the drop of old notices keeps what is sound
kept_sound : (quota next : ℕ) (ds : List Draft) (s : State) → SoundState s →
    SoundState (change_all (kept_below quota next ds) s)
kept_sound quota next [] s h = h
kept_sound quota next (d ∷ ds) s h =
    record {
      shaped = change_shaped s (DropNoticesBelow _) h.shaped tt;
      conserved = h.conserved;
      bounded = h.bounded;
    }

kept_head : (quota next : ℕ) (ds : List Draft) (s : State) →
    (change_all (kept_below quota next ds) s).head ≡ s.head
kept_head quota next [] s = refl
kept_head quota next (d ∷ ds) s = refl

-- a plan keeps what is sound where its changes and its head do
pub planned_sound : (host : List ℕ) (entry : Entry) (at : ℕ) (plan : Plan) (s : State) →
    0 < plan.head.next_notice → NoneFrom (change_all plan.changes s) plan.head.next_notice
    → SoundState (change (PutHead (with_notices (length plan.drafts) plan.head))
    (change_all plan.changes s)) → SoundState (change_all (planned host entry at plan) s)
planned_sound host entry at plan s positive none h =
    let head = with_notices (length plan.drafts) plan.head in
    let quota = entry.quota.notices in
    let old = kept_below quota head.next_notice plan.drafts in
    let past = kept_history entry at head plan.ended in
    subst SoundState (sym (change_all-append plan.changes (PutHead head
    ∷ (added_from host at plan.head.next_notice plan.drafts ++ (old ++ past))) s))
    (notices_sound host at plan.head.next_notice plan.drafts (old ++ past) head
    (change (PutHead head) (change_all plan.changes s)) refl h positive (omega arith) none
    (λ u is sound. subst SoundState (sym (change_all-append old past u))
    (history_sound entry at head plan.ended (change_all old u)
    (kept_head quota head.next_notice plan.drafts u ∙ is)
    (kept_sound quota head.next_notice plan.drafts u sound))))

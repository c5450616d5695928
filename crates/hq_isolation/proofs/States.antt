-- A change that fits keeps a customer's state shaped.
use Rattle.std.proofs.Common.{◌≡◌, ◌⊎◌, inl, inr, ⊎_elim, ℕ, ◌+◌, ◌-◌, ◌<◌, ◌≤◌, Bool, true, false}
use Rattle.std.proofs.Common.{List, [], ◌∷◌, length}
use Rattle.std.proofs.Common.{cond, sym, refl, ap, ◌∙◌, subst, Some, None, Option, arith}
use Rattle.std.specs.Prelude.{is_some, nat_le, nat_lt}
use Rattle.std.specs.Ordering.{nat_cmp, eq_by_cmp}
use Rattle.std.specs.declared.cmp.Ordering.{Ordering}
use Rattle.std.specs.Cmp.{IsTotalOrder, nat_cmp_total}
use Rattle.std.proofs.lemmas.Map.Lookups.{exact_unsigned}
use Rattle.std.proofs.lemmas.Map.Views.{tells_apart}
use Rattle.std.specs.FinMap.{FinMap, get, insert, remove, retain_keys, len, contains_key}
use Rattle.std.specs.FinMap.{get-insert, get-remove, get-retain_keys, len-insert, len-remove}
use Rattle.hq_kept.specs.declared.action.Action.{Action}
use Rattle.hq_kept.specs.Tallies.{all_gone}
use Rattle.hq_kept.specs.declared.account.Head.{Head}
use Rattle.hq_kept.specs.declared.message.Message.{Message}
use Rattle.hq_tables.specs.declared.change.Change.{Change}
use Rattle.hq_tables.specs.declared.change.Change.TheVariants.{PutHead, PutMessage, DropMessage}
use Rattle.hq_tables.specs.declared.change.Change.TheVariants.{PutLine, DropLine, PutMark}
use Rattle.hq_tables.specs.declared.change.Change.TheVariants.{AddNotice}
use Rattle.hq_tables.specs.declared.change.Change.TheVariants.{DropNoticesBelow, PutEnds}
use Rattle.hq_tables.specs.declared.change.Change.TheVariants.{DropEndsTo}
use Rattle.hq_kept.specs.declared.mark.Mark.{Mark}
use Rattle.hq_tables.specs.Tables.{State, Noted, Past, change, line_cmp, text_cmp, noted_of}
use Rattle.hq_tables.specs.Tables.{newest_cmp, add_ends, last_before}
use Rattle.hq_kept.specs.declared.outcome.Ended.{Ended}
use Rattle.hq_tables.specs.Sound.{ShapedState, IsQueued}
use Rattle.hq_owned.proofs.Cases.{none_some, same_some}
use Rattle.hq_tables.proofs.Orders.{line_total, newest_total, newest_exact}
use Rattle.hq_isolation.specs.Fits.{Fits, HeadFits, MessageFits}

-- what a look-up finds after a message was put
pub found : (q : FinMap nat_cmp Message) (k : ℕ) (n : Message) (x : ℕ) (m : Message) →
    get (insert q k n) x ≡ Some m → ((x ≡ k) × (n ≡ m)) ⊎ (get q x ≡ Some m)
found q k n x m h = cases (eq_by_cmp nat_cmp x k) refl (sym (get-insert nat_cmp_total q k n x) ∙ h)
  where
    cases : (b : Bool) → eq_by_cmp nat_cmp x k ≡ b → cond b (Some n) (get q x) ≡ Some m →
        ((x ≡ k) × (n ≡ m)) ⊎ (get q x ≡ Some m)
    cases true e f = inl (tells_apart exact_unsigned x k e, same_some n m f)
    cases false e f = inr f

-- what a look-up finds after one was dropped
pub left : (q : FinMap nat_cmp Message) (k x : ℕ) (m : Message) → get (remove q k) x ≡ Some m →
    get q x ≡ Some m
left q k x m h = cases (eq_by_cmp nat_cmp x k) (sym (get-remove nat_cmp_total q k x) ∙ h) where
  cases : (b : Bool) → cond b None (get q x) ≡ Some m → get q x ≡ Some m
  cases true f = absurd (none_some m f)
  cases false f = f

head_shaped : (s : State) (head : Head) → ShapedState s → HeadFits s head →
    ShapedState (change (PutHead head) s)
head_shaped s head h fit = record {
  next_serial = fit.next_serial;
  next_notice = fit.next_notice;
  messages = λ serial m f. let q = h.messages serial m f in
      record {
        own_serial = q.own_serial;
        positive = q.positive;
        below = fit.above serial m f;
        some_pending = q.some_pending;
        apart = q.apart;
        right = q.right;
      };
  spools = h.spools;
  few_messages = h.few_messages;
  few_lines = h.few_lines;
  notices = λ number n f. ((h.notices number n f).0, fit.above_notices number n f);
  ends = fit.above_ends;
}

-- a put keeps within a limit where a new key has room, and a drop does
module _ {K X : Type 0} {R : K → K → Ordering} (r : IsTotalOrder R) (limit : ℕ) (m : FinMap R X)
    (h : len m ≤ limit) where
  pub few_put : (k : K) (v : X) → (get m k ≡ None → len m < limit) → len (insert m k v) ≤ limit
  few_put k v room = subst (λ x. x ≤ limit) (sym (len-insert r m k v)) (cases (get m k) room) where
    cases : (o : Option X) → (o ≡ None → len m < limit) →
        cond (is_some o) (len m) (len m + 1) ≤ limit
    cases None room = let r = room refl in omega arith
    cases (Some x) room = h

  pub few_drop : (k : K) → len (remove m k) ≤ limit
  few_drop k = subst (λ x. x ≤ limit) (sym (len-remove r m k)) (cases (contains_key m k)) where
    cases : (b : Bool) → cond b (len m - 1) (len m) ≤ limit
    cases true = omega arith
    cases false = h

message_shaped : (s : State) (n : Message) → ShapedState s → MessageFits s n →
    ShapedState (change (PutMessage n) s)
message_shaped s n h fit = record {
  next_serial = h.next_serial;
  next_notice = h.next_notice;
  messages = λ serial m f. ⊎_elim
      (λ (p : (serial ≡ n.serial) × (n ≡ m)). subst (λ x. IsQueued s.head.next_serial x m) (sym p.0)
      (subst (λ x. IsQueued s.head.next_serial n.serial x) p.1 fit.queued))
      (λ (p : get s.messages serial ≡ Some m). h.messages serial m p)
      (found s.messages n.serial n serial m f);
  spools = λ k l m m' f f' e. ⊎_elim
      (λ (p : (k ≡ n.serial) × (n ≡ m)). ⊎_elim
      (λ (q : (l ≡ n.serial) × (n ≡ m')). p.0 ∙ sym q.0)
      (λ (q : get s.messages l ≡ Some m'). p.0 ∙ sym
      (fit.spool l m' q (sym (ap (λ (x : Message). x.spool) p.1 ∙ e))))
      (found s.messages n.serial n l m' f'))
      (λ (p : get s.messages k ≡ Some m). ⊎_elim
      (λ (q : (l ≡ n.serial) × (n ≡ m')). fit.spool k m p (e
      ∙ sym (ap (λ (x : Message). x.spool) q.1)) ∙ sym q.0)
      (λ (q : get s.messages l ≡ Some m'). h.spools k l m m' p q e)
      (found s.messages n.serial n l m' f'))
      (found s.messages n.serial n k m f);
  few_messages = few_put nat_cmp_total 1000 s.messages h.few_messages n.serial n fit.room;
  few_lines = h.few_lines;
  notices = h.notices;
  ends = h.ends;
}

drop_shaped : (s : State) (k : ℕ) → ShapedState s → ShapedState (change (DropMessage k) s)
drop_shaped s k h = record {
  next_serial = h.next_serial;
  next_notice = h.next_notice;
  messages = λ serial m f. h.messages serial m (left s.messages k serial m f);
  spools = λ x y m m' f f' e. h.spools x y m m' (left s.messages k x m f)
      (left s.messages k y m' f') e;
  few_messages = few_drop nat_cmp_total 1000 s.messages h.few_messages k;
  few_lines = h.few_lines;
  notices = h.notices;
  ends = h.ends;
}

-- lines are bound by their number alone
lines_shaped : (s : State) (lines : FinMap line_cmp Action) → ShapedState s → len lines ≤ 5000 →
    ShapedState (record s { lines = lines })
lines_shaped s lines h few = record {
  next_serial = h.next_serial;
  next_notice = h.next_notice;
  messages = h.messages;
  spools = h.spools;
  few_messages = h.few_messages;
  few_lines = few;
  notices = h.notices;
  ends = h.ends;
}

-- imports bind nothing of the rest
marks_shaped : (s : State) (marks : FinMap text_cmp Mark) → ShapedState s →
    ShapedState (record s { marks = marks })
marks_shaped s marks h = record {
  next_serial = h.next_serial;
  next_notice = h.next_notice;
  messages = h.messages;
  spools = h.spools;
  few_messages = h.few_messages;
  few_lines = h.few_lines;
  notices = h.notices;
  ends = h.ends;
}

-- what a look-up of notices finds after one was added, and after some were dropped
added : (s : State) (k : ℕ) (v : Noted) (x : ℕ) (n : Noted) → get (insert s.notices k v) x ≡ Some n
    → (x ≡ k) ⊎ (get s.notices x ≡ Some n)
added s k v x n h = cases (eq_by_cmp nat_cmp x k) refl
    (sym (get-insert nat_cmp_total s.notices k v x) ∙ h) where
      cases : (b : Bool) → eq_by_cmp nat_cmp x k ≡ b → cond b (Some v) (get s.notices x) ≡ Some n →
          (x ≡ k) ⊎ (get s.notices x ≡ Some n)
      cases true e f = inl (tells_apart exact_unsigned x k e)
      cases false e f = inr f

kept : (s : State) (p : ℕ → Bool) (x : ℕ) (n : Noted) → get (retain_keys s.notices p) x ≡ Some n →
    get s.notices x ≡ Some n
kept s p x n h = cases (p x) (sym
    (get-retain_keys s.notices p x (λ y e. ap p (sym (exact_unsigned x y e)))) ∙ h) where
      cases : (b : Bool) → cond b (get s.notices x) None ≡ Some n → get s.notices x ≡ Some n
      cases true f = f
      cases false f = absurd (none_some n f)

notices_shaped : (s : State) (notices : FinMap nat_cmp Noted) → ShapedState s →
    ((number : ℕ) (n : Noted) → get notices number ≡ Some n → (0 < number)
    × (number < s.head.next_notice)) → ShapedState (record s { notices = notices })
notices_shaped s notices h given_out =
    record {
      next_serial = h.next_serial;
      next_notice = h.next_notice;
      messages = h.messages;
      spools = h.spools;
      few_messages = h.few_messages;
      few_lines = h.few_lines;
      notices = given_out;
      ends = h.ends;
    }

-- what a look-up of ends finds after one was added, and after some were dropped
added_end : (m : FinMap newest_cmp Past) (k : ℕ) (v : Past) (x : ℕ) (p : Past) →
    get (insert m k v) x ≡ Some p → (x ≡ k) ⊎ (get m x ≡ Some p)
added_end m k v x p h = cases (eq_by_cmp newest_cmp x k) refl
    (sym (get-insert newest_total m k v x) ∙ h) where
      cases : (b : Bool) → eq_by_cmp newest_cmp x k ≡ b → cond b (Some v) (get m x) ≡ Some p →
          (x ≡ k) ⊎ (get m x ≡ Some p)
      cases true e f = inl (tells_apart newest_exact x k e)
      cases false e f = inr f

not_above : (last n gone : ℕ) → last ≤ gone → last - n ≤ gone
not_above last n gone h = omega arith

-- ends up to a number stay below a bound
abbrev AreBelow : ℕ → FinMap newest_cmp Past → Type 0
AreBelow gone m = (x : ℕ) (p : Past) → get m x ≡ Some p → x ≤ gone

below_all : (gone at last : ℕ) → last ≤ gone → (es : List Ended) (m : FinMap newest_cmp Past) →
    AreBelow gone m → AreBelow gone (add_ends at last es m)
below_all gone at last fit [] m below = below
below_all gone at last fit (e ∷ es) m below = below_all gone at last fit es _
    (λ x p f. ⊎_elim
    (λ (same : x ≡ last - length es). subst (λ y. y ≤ gone) (sym same)
    (not_above last (length es) gone fit))
    (λ (old : get m x ≡ Some p). below x p old)
    (added_end m (last - length es) _ x p f))

kept_end : (s : State) (p : ℕ → Bool) (x : ℕ) (e : Past) → get (retain_keys s.ends p) x ≡ Some e →
    get s.ends x ≡ Some e
kept_end s p x e h = cases (p x) (sym
    (get-retain_keys s.ends p x (λ y q. ap p (sym (newest_exact x y q)))) ∙ h) where
      cases : (b : Bool) → cond b (get s.ends x) None ≡ Some e → get s.ends x ≡ Some e
      cases true f = f
      cases false f = absurd (none_some e f)

ends_shaped : (s : State) (ends : FinMap newest_cmp Past) → ShapedState s →
    ((number : ℕ) (p : Past) → get ends number ≡ Some p → number ≤ all_gone s.head.tally) →
    ShapedState (record s { ends = ends })
ends_shaped s ends h gone =
    record {
      next_serial = h.next_serial;
      next_notice = h.next_notice;
      messages = h.messages;
      spools = h.spools;
      few_messages = h.few_messages;
      few_lines = h.few_lines;
      notices = h.notices;
      ends = gone;
    }

pub change_shaped : (s : State) (ch : Change) → ShapedState s → Fits s ch →
    ShapedState (change ch s)
change_shaped s (PutHead head) h fit = head_shaped s head h fit
change_shaped s (PutMessage m) h fit = message_shaped s m h fit
change_shaped s (DropMessage serial) h fit = drop_shaped s serial h
change_shaped s (PutLine line) h fit =
    lines_shaped s _ h (few_put line_total 5000 s.lines h.few_lines line.pattern line.action fit)
change_shaped s (DropLine pattern) h fit =
    lines_shaped s _ h (few_drop line_total 5000 s.lines h.few_lines pattern)
change_shaped s (PutMark mark) h fit = marks_shaped s _ h
change_shaped s (AddNotice notice) h fit = notices_shaped s _ h (λ x n f. ⊎_elim
    (λ (same : x ≡ notice.number). (
      subst (λ y. 0 < y) (sym same) fit.0,
      subst (λ y. y < s.head.next_notice) (sym same) fit.1.0,
    ))
    (λ (old : get s.notices x ≡ Some n). h.notices x n old)
    (added s notice.number (noted_of notice) x n f))
change_shaped s (DropNoticesBelow number) h fit = notices_shaped s _ h
    (λ x n f. h.notices x n (kept s (nat_le number) x n f))
change_shaped s (PutEnds ends) h fit = ends_shaped s _ h
    (below_all (all_gone s.head.tally) ends.at ends.last fit ends.ended _
    (λ x p f. h.ends x p (kept_end s (λ n. nat_le n (last_before ends)) x p f)))
change_shaped s (DropEndsTo number) h fit = ends_shaped s _ h
    (λ x p f. h.ends x p (kept_end s (nat_lt number) x p f))

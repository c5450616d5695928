-- What the changes of one history leave of it: what goes, what stays, and what is added.
use Rattle.std.proofs.Common.{◌≡◌, ◌⊎◌, inl, inr, ⊎_elim, ℕ, suc, ◌-◌, ◌<◌, ◌≤◌, Bool, true}
use Rattle.std.proofs.Common.{false, cond, List, [], ◌∷◌, length, refl, sym, ap, ◌∙◌, subst}
use Rattle.std.proofs.Common.{Some, None, Option, arith}
use Rattle.std.specs.Prelude.{is_some, nat_le, nat_lt}
use Rattle.std.specs.List.{All}
use Rattle.std.specs.Option.{unwrap_or}
use Rattle.std.proofs.lemmas.List.Elements.{All-head, All-tail, All-drop}
use Rattle.std.specs.Ordering.{eq_by_cmp}
use Rattle.std.specs.FinMap.{FinMap, get, insert, retain_keys, get-insert, get-retain_keys}
use Rattle.std.proofs.lemmas.Bool.Decides.{nat_tests}
use Rattle.std.proofs.lemmas.List.{length-drop}
use Rattle.std.proofs.lemmas.Map.Views.{tells_apart}
use Rattle.hq_owned.proofs.Parts.{tied_true}
use Rattle.hq_kept.specs.declared.outcome.Ended.{Ended}
use Rattle.hq_tables.specs.Tables.{State, Past, newest_cmp, add_ends, change_all}
use Rattle.hq_tables.proofs.Orders.{newest_total, newest_exact}
use Rattle.hq_rules.specs.Histories.{last_of, put_to, remembered}

abbrev pub Ends : Type 0
Ends = FinMap newest_cmp Past

-- ---- what a look-up finds

kept_at : (m : Ends) (p : ℕ → Bool) (n : ℕ) → get (retain_keys m p) n ≡ cond (p n) (get m n) None
kept_at m p n = get-retain_keys m p n (λ x e. ap p (sym (newest_exact n x e)))

other_at : (m : Ends) (k n : ℕ) (v : Past) → (n ≡ k → ⊥) → get (insert m k v) n ≡ get m n
other_at m k n v apart = get-insert newest_total m k v n ∙ by (eq_by_cmp newest_cmp n k) refl where
  by : (b : Bool) → eq_by_cmp newest_cmp n k ≡ b → cond b (Some v) (get m n) ≡ get m n
  by true e = absurd (apart (tells_apart newest_exact n k e))
  by false e = refl

there_at : (m : Ends) (k : ℕ) (v : Past) → get (insert m k v) k ≡ Some v
there_at m k v = get-insert newest_total m k v k
    ∙ ap (λ b. cond b (Some v) (get m k)) (tied_true newest_total k)

not_before : (n last i : ℕ) → suc i ≤ last → n ≤ last - suc i → n ≡ last - i → ⊥
not_before n last i fits before e = omega arith

not_after : (n last i : ℕ) → last < n → n ≡ last - i → ⊥
not_after n last i after e = omega arith

none_some : {A : Type 0} {x : A} → ◌≡◌ {A = Option A} None (Some x) → ⊥
none_some h = cc

-- numbers beside those that are added
beside : (at last : ℕ) (es : List Ended) (m : Ends) (n : ℕ) → length es ≤ last →
    (n ≤ last - length es) ⊎ (last < n) → get (add_ends at last es m) n ≡ get m n
beside at last [] m n fits where_it = refl
beside at last (e ∷ es) m n fits where_it =
    let k : ℕ = last - length es in
    beside at last es (insert m k _) n (omega arith)
    (⊎_elim (λ (before : n ≤ last - length (e ∷ es)). inl (omega arith))
    (λ (after : last < n). inr after) where_it)
    ∙ other_at m k n _ (λ same. ⊎_elim
    (λ (before : n ≤ last - length (e ∷ es)). not_before n last (length es) fits before same)
    (λ (after : last < n). not_after n last (length es) after same) where_it)

-- those that are added
among : (at last : ℕ) (es : List Ended) (m : Ends) (n : ℕ) → length es ≤ last →
    last - length es < n → n ≤ last → is_some (get (add_ends at last es m) n) ≡ true
among at last [] m n fits low high = absurd (omega arith)
among at last (e ∷ es) m n fits low high =
    by (among at last es (insert m (last - length es) _) n (omega arith))
    (nat_lt (last - length es) n) refl
  where
    k : ℕ
    k = last - length es

    v : Past
    v = record { at = at; ended = e }

    by : (last - length es < n → n ≤ last →
        is_some (get (add_ends at last es (insert m k v)) n) ≡ true) → (b : Bool) →
        nat_lt k n ≡ b → is_some (get (add_ends at last es (insert m k v)) n) ≡ true
    by rest true t = rest (grind (arith, nat_tests)) high
    by rest false t =
        let upto : n ≤ k = grind (arith, nat_tests) in
        let same : n ≡ k = omega arith in
        ap is_some (beside at last es (insert m k v) n (omega arith) (inl upto)
        ∙ ap (get (insert m k v)) same ∙ there_at m k v)

-- what is told then was told before, or is of these
added : (P : Ended → Type 0) (at last : ℕ) (es : List Ended) (m : Ends) (n : ℕ) (p : Past) →
    All P es → get (add_ends at last es m) n ≡ Some p →
    (get m n ≡ Some p) ⊎ ((p.at ≡ at) × P p.ended)
added P at last [] m n p each h = inl h
added P at last (e ∷ es) m n p each h =
    ⊎_elim (λ (old : get (insert m k v) n ≡ Some p).
    by (eq_by_cmp newest_cmp n k) (sym (get-insert newest_total m k v n) ∙ old))
    (λ (new : (p.at ≡ at) × P p.ended). inr new)
    (added P at last es (insert m k v) n p (All-tail P e es each) h)
  where
    k : ℕ
    k = last - length es

    v : Past
    v = record { at = at; ended = e }

    by : (b : Bool) → cond b (Some v) (get m n) ≡ Some p →
        (get m n ≡ Some p) ⊎ ((p.at ≡ at) × P p.ended)
    by true is = inr (subst (λ (x : Past). (x.at ≡ at) × P x.ended)
        (ap (λ o. unwrap_or o v) is) (refl, All-head P e es each))
    by false is = inl is

-- what is told behind a drop was told before it
kept_told : (m : Ends) (test : ℕ → Bool) (n : ℕ) (p : Past) →
    get (retain_keys m test) n ≡ Some p → get m n ≡ Some p
kept_told m test n p h = by (test n) (sym (kept_at m test n) ∙ h) where
  by : (b : Bool) → cond b (get m n) None ≡ Some p → get m n ≡ Some p
  by true is = is
  by false is = absurd (none_some is)

-- ---- what the ends of one call leave

is_to : (n m : ℕ) → n ≤ m → nat_le n m ≡ true
is_to n m h = grind (arith, nat_tests)

put_beside : (at last : ℕ) (es : List Ended) (u : State) (n : ℕ) → length es ≤ last →
    n ≤ last - length es → get (change_all (put_to at last es) u).ends n ≡ get u.ends n
put_beside at last [] u n fits before = refl
put_beside at last (e ∷ es) u n fits before =
    beside at last (e ∷ es) _ n fits (inl before)
    ∙ kept_at u.ends (λ x. nat_le x (last - length (e ∷ es))) n
    ∙ ap (λ b. cond b (get u.ends n) None) (is_to n (last - length (e ∷ es)) before)

put_among : (at last : ℕ) (es : List Ended) (u : State) (n : ℕ) → length es ≤ last →
    last - length es < n → n ≤ last → is_some (get (change_all (put_to at last es) u).ends n) ≡ true
put_among at last [] u n fits low high = absurd (omega arith)
put_among at last (e ∷ es) u n fits low high = among at last (e ∷ es) _ n fits low high

put_told : (P : Ended → Type 0) (at last : ℕ) (es : List Ended) (u : State) (n : ℕ) (p : Past) →
    All P es → get (change_all (put_to at last es) u).ends n ≡ Some p →
    (get u.ends n ≡ Some p) ⊎ ((p.at ≡ at) × P p.ended)
put_told P at last [] u n p each h = inl h
put_told P at last (e ∷ es) u n p each h =
    ⊎_elim (λ old. inl (kept_told u.ends (λ x. nat_le x (last - length (e ∷ es))) n p old))
    (λ (new : (p.at ≡ at) × P p.ended). inr new)
    (added P at last (e ∷ es) _ n p each h)

-- ---- and what is remembered of them

is_gone : (n m : ℕ) → n ≤ m → nat_lt m n ≡ false
is_gone n m h = grind (arith, nat_tests)

is_left : (n m : ℕ) → m < n → nat_lt m n ≡ true
is_left n m h = grind (arith, nat_tests)

-- what is there after the drop of those that go
dropped : (history last : ℕ) (s : State) → Ends
dropped history last s = retain_keys s.ends (nat_lt (last - history))

shorter : (history n : ℕ) → n - (n - history) ≤ history
shorter history n = omega arith

no_longer : (history n : ℕ) → n - (n - history) ≤ n
no_longer history n = omega arith

module _ (history at last : ℕ) (e : Ended) (es : List Ended) (s : State)
    (fits : length (e ∷ es) ≤ last) where
  abbrev all : List Ended
  all = e ∷ es

  abbrev newest : List Ended
  newest = last_of history all

  abbrev mid : State
  mid = record s { ends = retain_keys s.ends (nat_lt (last - history)) }

  abbrev after : Ends
  after = (change_all (remembered history at last all) s).ends

  many : length newest ≡ length all - (length all - history)
  many = length-drop (length all - history) all

  pub goes : (n : ℕ) → n ≤ last - history → get after n ≡ None
  goes n low =
      let few : length newest ≤ history = subst (λ k. k ≤ history) (sym many)
      (shorter history (length all)) in
      let most : length newest ≤ length all = subst (λ k. k ≤ length all) (sym many)
      (no_longer history (length all)) in
      put_beside at last newest mid n (omega arith) (omega arith)
      ∙ kept_at s.ends (nat_lt (last - history)) n
      ∙ ap (λ b. cond b (get s.ends n) None) (is_gone n (last - history) low)

  pub stays : (n : ℕ) → last - history < n → n ≤ last - length all → get after n ≡ get s.ends n
  stays n high before =
      let most : length newest ≤ length all = subst (λ k. k ≤ length all) (sym many)
      (no_longer history (length all)) in
      put_beside at last newest mid n (omega arith) (omega arith)
      ∙ kept_at s.ends (nat_lt (last - history)) n
      ∙ ap (λ b. cond b (get s.ends n) None) (is_left n (last - history) high)

  pub comes : (n : ℕ) → last - history < n → last - length all < n → n ≤ last →
      is_some (get after n) ≡ true
  comes n high behind upto =
      let is = many in
      put_among at last newest mid n (omega arith) (omega arith) upto

  -- what is told was told before, or is of one of these
  pub told : (P : Ended → Type 0) (n : ℕ) (p : Past) → All P all → get after n ≡ Some p →
      (get s.ends n ≡ Some p) ⊎ ((last - length all < n) × (p.at ≡ at) × P p.ended)
  told P n p each h = by (nat_lt (last - length all) n) refl where
    old : n ≤ last - length all → (b : Bool) → nat_lt (last - history) n ≡ b →
        get s.ends n ≡ Some p
    old before true t = sym (stays n (grind (arith, nat_tests)) before) ∙ h
    old before false t = absurd (none_some (sym (goes n (grind (arith, nat_tests))) ∙ h))

    by : (b : Bool) → nat_lt (last - length all) n ≡ b →
        (get s.ends n ≡ Some p) ⊎ ((last - length all < n) × (p.at ≡ at) × P p.ended)
    by true t =
        let high : last - length all < n = grind (arith, nat_tests) in
        ⊎_elim (λ before. inl (kept_told s.ends (nat_lt (last - history)) n p before))
        (λ (new : (p.at ≡ at) × P p.ended). inr (high, new.0, new.1))
        (put_told P at last newest mid n p (All-drop P (length all - history) all each) h)
    by false t = inl (old (grind (arith, nat_tests)) (nat_lt (last - history) n) refl)

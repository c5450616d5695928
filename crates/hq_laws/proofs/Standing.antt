-- What moves of some of the queue's messages, and a deletion of some, leave at each serial.
use Rattle.std.proofs.Common.{◌≡◌, ◌≢◌, ℕ, ◌<◌, cond, T, List, [], ◌∷◌, ◌++◌}
use Rattle.std.proofs.Common.{Bool, true, false, map, filter, length, sym, refl, ap, ◌∙◌, subst}
use Rattle.std.proofs.Common.{Option, Some, None, arith}
use Rattle.std.specs.Prelude.{◌==◌, if◌then◌else◌, option_and_then, unwrap_or}
use Rattle.std.specs.List.{flat_map}
use Rattle.std.specs.List as lists
use Rattle.std.specs.Ordering.{nat_cmp, eq_by_cmp}
use Rattle.std.specs.Cmp.{nat_cmp_total}
use Rattle.std.proofs.lemmas.Bool.Decides.{nat_tests}
use Rattle.std.proofs.lemmas.Map.Lookups.{exact_unsigned}
use Rattle.std.proofs.lemmas.Map.Views.{tells_apart}
use Rattle.std.specs.FinMap.{entries, entries_sorted, values, get}
use Rattle.std.specs.FinMap.{get-entries, get-insert, get-remove, find, is_sorted}
use Rattle.std.specs.FinMap.Entries.{below_all}
use Rattle.hq_kept.specs.declared.account.Entry.{Entry}
use Rattle.hq_kept.specs.declared.account.Head.{Head}
use Rattle.hq_kept.specs.declared.message.Message.{Message}
use Rattle.hq_kept.specs.declared.outcome.Ended.{Ended}
use Rattle.hq_tables.specs.declared.change.Change.{Change}
use Rattle.hq_tables.specs.declared.change.Change.TheVariants.{PutHead}
use Rattle.hq_owned.specs.Owned.{given}
use Rattle.hq_owned.proofs.Cases.{first, second}
use Rattle.hq_owned.proofs.Parts.{tied_true, tied_false}
use Rattle.hq_tables.specs.Tables.{State, change, change_all}
use Rattle.hq_rules.specs.Histories.{last_of, put_to, kept_history}
use Rattle.hq_rules.specs.Queues.{moved_by, moves_of, put, drop, all_deleted, delete_all}
use Rattle.hq_rules.specs.Messages.{with_deleted}
use Rattle.hq_rules.specs.declared.call.Move.{Move}
use Rattle.hq_rules.specs.declared.call.Move.TheVariants.{Hold, Release}
use Rattle.hq_tables.specs.Sound.{pending_count}
use Rattle.hq_kept.specs.Messages.{is_on_hold}
use Rattle.hq_kept.specs.declared.message.QueueState.TheVariants as state
use Rattle.hq_kept.specs.declared.outcome.Fate.TheVariants as fate
use Rattle.hq_rules.specs.Leaving.{all_ended}
use Rattle.hq_rules.specs.Answering.{tell}
use Rattle.hq_rules.specs.declared.answer.Answer.TheVariants as answer
use Rattle.hq_values.specs.Words.{customer_hold}
use Rattle.hq_isolation.proofs.Many.{AllFind, NotAmong, Queue, Stand, below, change_all-append}
use Rattle.hq_isolation.proofs.Many.{finds, stand_kept}

-- ---- the one of a serial among some

abbrev pub at_serial : ℕ → Message → Bool
at_serial k m = m.serial == k

pub is_it : (a b : ℕ) → a ≡ b → (a == b) ≡ true
is_it a b h = grind (arith, nat_tests)

pub is_not_it : (a b : ℕ) → a ≢ b → (a == b) ≡ false
is_not_it a b h = by (a == b) refl where
  by : (t : Bool) → (a == b) ≡ t → t ≡ false
  by true e = absurd (h (grind (arith, nat_tests)))
  by false e = refl

pub is_same : (a b : ℕ) → (a == b) ≡ true → a ≡ b
is_same a b h = grind (arith, nat_tests)

pub differ : (a b : ℕ) → (a == b) ≡ false → a ≢ b
differ a b h e = absurd (false_true (sym h ∙ is_it a b e))
  where
    false_true : ◌≡◌ {A = Bool} false true → ⊥
    false_true e = cc

not_there : (k : ℕ) (ms : List Message) → NotAmong k ms → lists.find (at_serial k) ms ≡ None
not_there k [] h = refl
not_there k (m ∷ ms) h =
    ap (λ b. cond b (Some m) (lists.find (at_serial k) ms))
    (is_not_it m.serial k (λ e. h.0 e)) ∙ not_there k ms h.1

-- ---- moves of some

-- what is there of a serial after each of some messages became this, or went
module _ (f : Message → List Change) (to : Message → Option Message)
    (one : (s : State) (m : Message) → get s.messages m.serial ≡ Some m → (k : ℕ) →
    get (change_all (f m) s).messages k ≡ cond (m.serial == k) (to m) (get s.messages k)) where
  others_stay : (s : State) (m : Message) → get s.messages m.serial ≡ Some m → (x : ℕ) →
      x ≢ m.serial → get (change_all (f m) s).messages x ≡ get s.messages x
  others_stay s m stands x apart = one s m stands x
      ∙ ap (λ b. cond b (to m) (get s.messages x)) (is_not_it m.serial x (λ e. apart (sym e)))

  pub each_at : (ms : List Message) (s : State) → Stand s.messages ms → (k : ℕ) →
      get (change_all (flat_map f ms) s).messages k ≡
      given (get s.messages k) to (lists.find (at_serial k) ms)
  each_at [] s st k = refl
  each_at (m ∷ ms) s st k =
      let mid = change_all (f m) s in
      let kept = stand_kept s.messages mid.messages m.serial ms (others_stay s m st.0) st.1 st.2 in
      ap (λ (t : State). get t.messages k) (change_all-append (f m) (flat_map f ms) s)
      ∙ each_at ms mid kept k
      ∙ ap (λ o. given o to (lists.find (at_serial k) ms)) (one s m st.0 k)
      ∙ by (m.serial == k) refl
    where
      by : (b : Bool) → (m.serial == k) ≡ b →
          given (cond b (to m) (get s.messages k)) to (lists.find (at_serial k) ms)
          ≡ given (get s.messages k) to (cond b (Some m) (lists.find (at_serial k) ms))
      by true e = ap (given (to m) to)
          (not_there k ms (subst (λ n. NotAmong n ms) (is_same m.serial k e) st.1))
      by false e = refl

-- ---- which of a queue are picked

abbrev pub pick : (Message → Bool) → Message → Option Message
pick p m = if p m then Some m else None

abbrev Own : List (ℕ × Message) → Type 0
Own [] = Unit {0}
Own (e ∷ es) = (e.1.serial ≡ e.0) × Own es

none_above : (p : Message → Bool) (k : ℕ) (es : List (ℕ × Message)) → T (below_all nat_cmp k es) →
    Own es → lists.find (at_serial k) (filter p (map (λ (e : ℕ × Message). e.1) es)) ≡ None
none_above p k [] h o = refl
none_above p k (e ∷ es) h o = by (p e.1) (none_above p k es (second _ _ h) o.1) where
  lt : k < e.0
  lt = below k e.0 (first _ _ h)

  rest : List Message
  rest = filter p (map (λ (x : ℕ × Message). x.1) es)

  by : (b : Bool) → lists.find (at_serial k) (filter p (map (λ (x : ℕ × Message). x.1) es)) ≡ None →
      lists.find (at_serial k) (cond b (e.1 ∷ filter p (map (λ (x : ℕ × Message). x.1) es))
      (filter p (map (λ (x : ℕ × Message). x.1) es))) ≡ None
  by true none = ap (λ t. cond t (Some e.1)
      (lists.find (at_serial k) (filter p (map (λ (x : ℕ × Message). x.1) es))))
      (is_not_it e.1.serial k (λ same. apart (sym o.0 ∙ same))) ∙ none
    where
      apart : e.0 ≢ k
      apart same = absurd (omega (arith, lt, same))
  by false none = none

picked_in : (p : Message → Bool) (k : ℕ) (es : List (ℕ × Message)) → T (is_sorted nat_cmp es) →
    Own es → lists.find (at_serial k) (filter p (map (λ (e : ℕ × Message). e.1) es)) ≡
    option_and_then (pick p) (find nat_cmp k es)
picked_in p k [] h o = refl
picked_in p k (e ∷ es) h o =
    by (picked_in p k es (second _ _ h) o.1) (eq_by_cmp nat_cmp k e.0) refl (p e.1) refl
  where
    rest : Option Message → Type 0
    rest x = lists.find (at_serial k) (filter p (map (λ (e : ℕ × Message). e.1) es)) ≡ x

    by : lists.find (at_serial k) (filter p (map (λ (x : ℕ × Message). x.1) es)) ≡
        option_and_then (pick p) (find nat_cmp k es) → (b : Bool) →
        eq_by_cmp nat_cmp k e.0 ≡ b → (c : Bool) → p e.1 ≡ c →
        lists.find (at_serial k) (cond c (e.1 ∷ filter p (map (λ (x : ℕ × Message). x.1) es))
        (filter p (map (λ (x : ℕ × Message). x.1) es))) ≡
        option_and_then (pick p) (cond b (Some e.1) (find nat_cmp k es))
    by ih true at true is =
        ap (λ t. cond t (Some e.1)
        (lists.find (at_serial k) (filter p (map (λ (x : ℕ × Message). x.1) es))))
        (is_it e.1.serial k (o.0 ∙ sym (tells_apart exact_unsigned k e.0 at)))
        ∙ ap (λ t. if t then Some e.1 else None) (sym is)
    by ih true at false is =
        none_above p k es (subst (λ n. T (below_all nat_cmp n es))
        (sym (tells_apart exact_unsigned k e.0 at)) (first _ _ h)) o.1
        ∙ ap (λ t. if t then Some e.1 else None) (sym is)
    by ih false at true is =
        ap (λ t. cond t (Some e.1)
        (lists.find (at_serial k) (filter p (map (λ (x : ℕ × Message). x.1) es))))
        (is_not_it e.1.serial k (λ same. other (sym same ∙ o.0))) ∙ ih
      where
        other : k ≡ e.0 → ⊥
        other same = absurd (false_true (sym at ∙ ap (eq_by_cmp nat_cmp k) (sym same)
            ∙ tied_true nat_cmp_total k))
          where
            false_true : ◌≡◌ {A = Bool} false true → ⊥
            false_true e = cc
    by ih false at false is = ih

module _ (q : Queue) (own : (k : ℕ) (m : Message) → get q k ≡ Some m → m.serial ≡ k) where
  own_each : (es : List (ℕ × Message)) → AllFind (entries q) es → Own es
  own_each [] f = tt
  own_each (e ∷ es) f = (own e.0 e.1 (get-entries q e.0 ∙ f.0), own_each es f.1)

  pub picked : (p : Message → Bool) (k : ℕ) →
      lists.find (at_serial k) (filter p (values q)) ≡ option_and_then (pick p) (get q k)
  picked p k = picked_in p k (entries q) (entries_sorted q)
      (own_each (entries q) (finds (entries q) (entries_sorted q)))
      ∙ ap (option_and_then (pick p)) (sym (get-entries q k))

-- ---- one message

-- its move
abbrev pub moved_to : Move → Message → Message
moved_to move m = unwrap_or (moved_by move m) m

pub one_put : (s : State) (m : Message) → get s.messages m.serial ≡ Some m → (k : ℕ) →
    (o : Option Message) → ((n : Message) → o ≡ Some n → n.serial ≡ m.serial) →
    get (change_all (put o) s).messages k ≡
    cond (m.serial == k) (Some (unwrap_or o m)) (get s.messages k)
one_put s m stands k None same = by (m.serial == k) refl where
  by : (b : Bool) → (m.serial == k) ≡ b → get s.messages k ≡ cond b (Some m) (get s.messages k)
  by true e = ap (get s.messages) (sym (is_same m.serial k e)) ∙ stands
  by false e = refl
one_put s m stands k (Some n) same =
    get-insert nat_cmp_total s.messages n.serial n k ∙ by (m.serial == k) refl
  where
    at : n.serial ≡ m.serial
    at = same n refl

    by : (b : Bool) → (m.serial == k) ≡ b →
        cond (eq_by_cmp nat_cmp k n.serial) (Some n) (get s.messages k)
        ≡ cond b (Some n) (get s.messages k)
    by true e = ap (λ t. cond t (Some n) (get s.messages k))
        (ap (eq_by_cmp nat_cmp k) (at ∙ is_same m.serial k e) ∙ tied_true nat_cmp_total k)
    by false e = ap (λ t. cond t (Some n) (get s.messages k))
        (tied_false exact_unsigned k n.serial (λ same. differ m.serial k e (sym (same ∙ at))))

none_is : {A : Type 0} {x : A} → ◌≡◌ {A = Option A} None (Some x) → ⊥
none_is h = cc

keeps_serial : (move : Move) (m n : Message) → moved_by move m ≡ Some n → n.serial ≡ m.serial
keeps_serial Hold m n h = by (is_on_hold m.state) h where
  by : (b : Bool) → (if b then None else Some (record m {
    state = state.Hold;
    reason = customer_hold;
  })) ≡ Some n → n.serial ≡ m.serial
  by true h = absurd (none_is h)
  by false h = ap (λ o. (unwrap_or o n).serial) (sym h)
keeps_serial (Release at) m n h = by (is_on_hold m.state) h where
  by : (b : Bool) → (if b then Some (record m {
    state = state.Deferred;
    reason = [];
    next_try = at;
  }) else None) ≡ Some n → n.serial ≡ m.serial
  by true h = ap (λ o. (unwrap_or o n).serial) (sym h)
  by false h = absurd (none_is h)

pub moves_at : (move : Move) (ms : List Message) (s : State) → Stand s.messages ms → (k : ℕ) →
    get (change_all (moves_of move ms) s).messages k ≡
    given (get s.messages k) (λ m. Some (moved_to move m)) (lists.find (at_serial k) ms)
moves_at move = each_at (λ m. put (moved_by move m)) (λ m. Some (moved_to move m))
    (λ s m stands k. one_put s m stands k (moved_by move m) (keeps_serial move m))

pub one_drop : (s : State) (m : Message) → get s.messages m.serial ≡ Some m → (k : ℕ) →
    get (change_all (drop m ∷ []) s).messages k ≡ cond (m.serial == k) None (get s.messages k)
one_drop s m stands k = get-remove nat_cmp_total s.messages m.serial k ∙ by (m.serial == k) refl
  where
    by : (b : Bool) → (m.serial == k) ≡ b →
        cond (eq_by_cmp nat_cmp k m.serial) None (get s.messages k)
        ≡ cond b None (get s.messages k)
    by true e = ap (λ t. cond t None (get s.messages k))
        (ap (eq_by_cmp nat_cmp k) (is_same m.serial k e) ∙ tied_true nat_cmp_total k)
    by false e = ap (λ t. cond t None (get s.messages k))
        (tied_false exact_unsigned k m.serial (λ same. differ m.serial k e (sym same)))

-- ---- a deletion of some

pub each_drop : (ms : List Message) → flat_map (λ (m : Message). drop m ∷ []) ms ≡ map drop ms
each_drop [] = refl
each_drop (m ∷ ms) = ap (λ cs. drop m ∷ cs) (each_drop ms)

put_messages : (at last : ℕ) (es : List Ended) (u : State) →
    (change_all (put_to at last es) u).messages ≡ u.messages
put_messages at last [] u = refl
put_messages at last (e ∷ es) u = refl

past_messages : (entry : Entry) (at : ℕ) (head : Head) (es : List Ended) (t : State) →
    (change_all (kept_history entry at head es) t).messages ≡ t.messages
past_messages entry at head [] t = refl
past_messages entry at head (e ∷ es) t = put_messages at _ (last_of entry.history (e ∷ es)) _

pub drops_at : (entry : Entry) (at : ℕ) (ms : List Message) (s : State) → Stand s.messages ms →
    (k : ℕ) → get (change_all (delete_all entry at s.head ms).changes s).messages k ≡
    given (get s.messages k) (λ m. None) (lists.find (at_serial k) ms)
drops_at entry at [] s st k = refl
drops_at entry at (m ∷ ms) s st k = by (length (m ∷ ms) == 0) refl where
  head : Head
  head = with_deleted (pending_count (m ∷ ms)) s.head

  all : get (change_all (map drop (m ∷ ms) ++ PutHead head
      ∷ kept_history entry at head (flat_map (all_ended fate.Deleted) (m ∷ ms))) s).messages k ≡
      given (get s.messages k) (λ m. None) (lists.find (at_serial k) (m ∷ ms))
  all = ap (λ (t : State). get t.messages k) (change_all-append (map drop (m ∷ ms)) (PutHead head
      ∷ kept_history entry at head (flat_map (all_ended fate.Deleted) (m ∷ ms))) s)
      ∙ ap (λ q. get q k) (past_messages entry at head
      (flat_map (all_ended fate.Deleted) (m ∷ ms))
      (change (PutHead head) (change_all (map drop (m ∷ ms)) s)))
      ∙ ap (λ cs. get (change_all cs s).messages k) (sym (each_drop (m ∷ ms)))
      ∙ each_at (λ m. drop m ∷ []) (λ m. None) one_drop (m ∷ ms) s st k

  not_zero : length (m ∷ ms) ≡ 0 → ⊥
  not_zero h = omega arith

  by : (b : Bool) → (length (m ∷ ms) == 0) ≡ b →
      get (change_all (if b then tell (answer.Changed 0) else
      all_deleted entry at head (m ∷ ms)).changes s).messages k ≡
      given (get s.messages k) (λ m. None) (lists.find (at_serial k) (m ∷ ms))
  by true e = absurd (not_zero (is_same (length (m ∷ ms)) 0 e))
  by false e = all

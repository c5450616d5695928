-- Changes of every message of one customer, one after another.
use Rattle.std.proofs.Common.{◌≡◌, ◌≢◌, ℕ, ◌+◌, ◌-◌, ◌*◌, ◌<◌, ◌≤◌, cond, T, List, [], ◌∷◌, ◌++◌}
use Rattle.std.proofs.Common.{Bool, true, false, map, filter, length, sym, refl, ap, ◌∙◌, subst}
use Rattle.std.proofs.Common.{Some, None, arith}
use Rattle.std.specs.List.{sum_by, flat_map}
use Rattle.std.proofs.lemmas.List.Sums.{sum_by-cons}
use Rattle.std.specs.declared.cmp.Ordering.TheVariants.{Less}
use Rattle.std.specs.Ordering.{nat_cmp, is_lt}
use Rattle.std.specs.Cmp.{nat_cmp_total, ranked}
use Rattle.std.proofs.lemmas.Map.Lookups.{exact_unsigned}
use Rattle.std.specs.FinMap.{FinMap, entries, entries_sorted, values, get, insert, remove}
use Rattle.std.specs.FinMap.{get-entries, get-insert, get-remove, find, is_sorted}
use Rattle.std.specs.FinMap.Entries.{below_all}
use Rattle.hq_kept.specs.Tallies.{all_gone}
use Rattle.hq_kept.specs.declared.account.Head.{Head}
use Rattle.hq_kept.specs.declared.message.Message.{Message}
use Rattle.hq_tables.specs.declared.change.Change.{Change}
use Rattle.hq_tables.specs.declared.change.Change.TheVariants.{PutHead, PutMessage, DropMessage}
use Rattle.hq_owned.specs.Owned.{given}
use Rattle.hq_owned.proofs.Cases.{first, second, less}
use Rattle.hq_owned.proofs.Parts.{tied_true, tied_false}
use Rattle.hq_tables.specs.Tables.{State, change, change_all}
use Rattle.hq_tables.specs.Sound.{ShapedState, SoundState, IsReasoned, AreApart, IsNext}
use Rattle.hq_tables.specs.Sound.{pending_count}
use Rattle.hq_owned.proofs.Cases.{none_some}
use Rattle.hq_isolation.proofs.States.{change_shaped}
use Rattle.hq_isolation.proofs.Conserved.{pending, pending_put, pending_drop}

pub below : (a b : ℕ) → T (is_lt (nat_cmp a b)) → a < b
below a b h = ranked a b Less (sym (less _ h))

-- ---- messages that stand in the queue, each at its serial, no serial twice

abbrev pub Queue : Type 0
Queue = FinMap nat_cmp Message

abbrev pub NotAmong : ℕ → List Message → Type 0
NotAmong k [] = Unit {0}
NotAmong k (m ∷ ms) = (m.serial ≢ k) × NotAmong k ms

abbrev pub Stand : Queue → List Message → Type 0
Stand q [] = Unit {0}
Stand q (m ∷ ms) = (get q m.serial ≡ Some m) × NotAmong m.serial ms × Stand q ms

pub stand_kept : (q new : Queue) (k : ℕ) (ms : List Message) →
    ((x : ℕ) → x ≢ k → get new x ≡ get q x) → NotAmong k ms → Stand q ms → Stand new ms
stand_kept q new k [] same apart h = tt
stand_kept q new k (m ∷ ms) same apart h =
    (same m.serial apart.0 ∙ h.0, h.1, stand_kept q new k ms same apart.1 h.2)

abbrev pub AllFind : List (ℕ × Message) → List (ℕ × Message) → Type 0
AllFind all [] = Unit {0}
AllFind all (e ∷ es) = (find nat_cmp e.0 all ≡ Some e.1) × AllFind all es

behind : (e : ℕ × Message) (all es : List (ℕ × Message)) → T (below_all nat_cmp e.0 es) →
    AllFind all es → AllFind (e ∷ all) es
behind e all [] h f = tt
behind e all (x ∷ es) h f =
    let lt : e.0 < x.0 = below e.0 x.0 (first _ _ h) in (
      ap (λ b. cond b (Some e.1) (find nat_cmp x.0 all))
          (tied_false exact_unsigned x.0 e.0 (λ same. absurd (omega arith))) ∙ f.0,
      behind e all es (second _ _ h) f.1,
    )

pub finds : (es : List (ℕ × Message)) → T (is_sorted nat_cmp es) → AllFind es es
finds [] h = tt
finds (e ∷ es) h = (
  ap (λ b. cond b (Some e.1) (find nat_cmp e.0 es)) (tied_true nat_cmp_total e.0),
  behind e es es (first _ _ h) (finds es (second _ _ h)),
)

module _ (q : Queue) (own : (k : ℕ) (m : Message) → get q k ≡ Some m → m.serial ≡ k) where
  apart_from : (k : ℕ) (es : List (ℕ × Message)) → T (below_all nat_cmp k es) →
      AllFind (entries q) es → NotAmong k (map (λ (e : ℕ × Message). e.1) es)
  apart_from k [] h f = tt
  apart_from k (e ∷ es) h f =
      let lt : k < e.0 = below k e.0 (first _ _ h) in
      let at : e.1.serial ≡ e.0 = own e.0 e.1 (get-entries q e.0 ∙ f.0) in
      (λ same. absurd (omega arith), apart_from k es (second _ _ h) f.1)

  stand_from : (es : List (ℕ × Message)) → T (is_sorted nat_cmp es) → AllFind (entries q) es →
      Stand q (map (λ (e : ℕ × Message). e.1) es)
  stand_from [] h f = tt
  stand_from (e ∷ es) h f =
      let at : e.1.serial ≡ e.0 = own e.0 e.1 (get-entries q e.0 ∙ f.0) in (
        ap (get q) at ∙ get-entries q e.0 ∙ f.0,
        subst (λ k. NotAmong k (map (λ (x : ℕ × Message). x.1) es)) (sym at)
            (apart_from e.0 es (first _ _ h) f.1),
        stand_from es (second _ _ h) f.1,
      )

  -- all messages of the queue do
  pub stand_values : Stand q (values q)
  stand_values = stand_from (entries q) (entries_sorted q) (finds (entries q) (entries_sorted q))

-- ---- those that pass a test

apart_some : (p : Message → Bool) (k : ℕ) (ms : List Message) → NotAmong k ms →
    NotAmong k (filter p ms)
apart_some p k [] h = tt
apart_some p k (m ∷ ms) h = by (p m) (apart_some p k ms h.1) where
  by : (b : Bool) → NotAmong k (filter p ms) → NotAmong k (cond b (m ∷ filter p ms) (filter p ms))
  by true rest = (h.0, rest)
  by false rest = rest

stand_some : (p : Message → Bool) (q : Queue) (ms : List Message) → Stand q ms →
    Stand q (filter p ms)
stand_some p q [] h = tt
stand_some p q (m ∷ ms) h = by (p m) (stand_some p q ms h.2) where
  by : (b : Bool) → Stand q (filter p ms) → Stand q (cond b (m ∷ filter p ms) (filter p ms))
  by true rest = (h.0, apart_some p m.serial ms h.1, rest)
  by false rest = rest

-- of a customer's messages
pub stand_in : (p : Message → Bool) (s : State) → ShapedState s →
    Stand s.messages (filter p (values s.messages))
stand_in p s h = stand_some p s.messages (values s.messages)
    (stand_values s.messages (λ k m f. (h.messages k m f).own_serial))

-- ---- one change for each

-- what the changes of one message do: w of its recipients are gone
pub record Does (s after : State) (m : Message) (w : ℕ) : Type 0 where
  pub shaped : ShapedState after
  pub head : after.head ≡ s.head
  pub sum : pending_count (values after.messages) + w ≡ pending_count (values s.messages)
  pub others : (x : ℕ) → x ≢ m.serial → get after.messages x ≡ get s.messages x

pub change_all-append : (xs ys : List Change) (s : State) →
    change_all (xs ++ ys) s ≡ change_all ys (change_all xs s)
change_all-append [] ys s = refl
change_all-append (x ∷ xs) ys s = change_all-append xs ys (change x s)

pub record Done (s after : State) (w : ℕ) : Type 0 where
  pub shaped : ShapedState after
  pub head : after.head ≡ s.head
  pub sum : pending_count (values after.messages) + w ≡ pending_count (values s.messages)

module _ (f : Message → List Change) (w : Message → ℕ) (does : (s : State) (m : Message) →
    ShapedState s → get s.messages m.serial ≡ Some m → Does s (change_all (f m) s) m (w m)) where
  pub each_done : (ms : List Message) (s : State) → ShapedState s → Stand s.messages ms →
      Done s (change_all (flat_map f ms) s) (sum_by w ms)
  each_done [] s h st = record { shaped = h; head = refl; sum = omega arith }
  each_done (m ∷ ms) s h st =
      let one = does s m h st.0 in
      let mid = change_all (f m) s in
      let rest = each_done ms mid one.shaped
      (stand_kept s.messages mid.messages m.serial ms one.others st.1 st.2) in
      subst (λ after. Done s after (sum_by w (m ∷ ms)))
      (sym (change_all-append (f m) (flat_map f ms) s))
      (record {
        shaped = rest.shaped;
        head = rest.head ∙ one.head;
        sum = let a = rest.sum in let b =
            one.sum in let c = sum_by-cons w m ms in omega arith;
      })

other_put : (q : Queue) (k : ℕ) (n : Message) (x : ℕ) → x ≢ k → get (insert q k n) x ≡ get q x
other_put q k n x apart = get-insert nat_cmp_total q k n x
    ∙ ap (λ b. cond b (Some n) (get q x)) (tied_false exact_unsigned x k apart)

other_drop : (q : Queue) (k x : ℕ) → x ≢ k → get (remove q k) x ≡ get q x
other_drop q k x apart = get-remove nat_cmp_total q k x
    ∙ ap (λ b. cond b None (get q x)) (tied_false exact_unsigned x k apart)

-- a message that stays as it is, one that is put with its serial, spool name and recipients, one
-- that is dropped
pub does_nothing : (s : State) (m : Message) → ShapedState s → Does s s m 0
does_nothing s m h = record { shaped = h; head = refl; sum = omega arith; others = λ x apart. refl }

pub does_put : (s : State) (m n : Message) → ShapedState s → get s.messages m.serial ≡ Some m →
    n.serial ≡ m.serial → n.spool ≡ m.spool → n.pending ≡ m.pending → (IsReasoned m → IsReasoned n)
    → Does s (change (PutMessage n) s) m 0
does_put s m n h there serial spool same right =
    let at : get s.messages n.serial ≡ Some m = ap (get s.messages) serial ∙ there in
    let was = h.messages n.serial m at in
    let put = pending_put s.messages n in
    let old : given 0 pending (get s.messages n.serial) ≡ pending m = ap (given 0 pending) at in
    let as_many : pending n ≡ pending m = ap length same in
    record {
      shaped = change_shaped s (PutMessage n) h (record {
        queued = record {
          own_serial = refl;
          positive = was.positive;
          below = was.below;
          some_pending = subst (λ ps. 0 < length ps) (sym same) was.some_pending;
          apart = subst AreApart (sym same) was.apart;
          right = right was.right;
        };
        spool = λ k o f e. h.spools k n.serial o m f at (e ∙ spool);
        room = λ none. absurd (none_some m (sym none ∙ at));
      });
      head = refl;
      sum = omega arith;
      others = λ x apart. other_put s.messages n.serial n x (λ e. apart (e ∙ serial));
    }

pub does_drop : (s : State) (m : Message) → ShapedState s → get s.messages m.serial ≡ Some m →
    Does s (change (DropMessage m.serial) s) m (pending m)
does_drop s m h there =
    let drop = pending_drop s.messages m.serial in
    let old : given 0 pending (get s.messages m.serial) ≡ pending m = ap (given 0 pending) there in
    record {
      shaped = change_shaped s (DropMessage m.serial) h tt;
      head = refl;
      sum = omega arith;
      others = λ x apart. other_drop s.messages m.serial x apart;
    }

no_weight : (ms : List Message) → sum_by (λ (m : Message). 0) ms ≡ 0
no_weight [] = refl
no_weight (m ∷ ms) = let cons = sum_by-cons (λ (x : Message). 0) m ms in let rest = no_weight ms in
    omega arith

-- ---- all that pass a test

-- changes that take no recipient keep a state sound
pub moved_sound : (p : Message → Bool) (f : Message → List Change) (s : State) →
    ((u : State) (m : Message) → ShapedState u → get u.messages m.serial ≡ Some m →
    Does u (change_all (f m) u) m 0) → SoundState s →
    SoundState (change_all (flat_map f (filter p (values s.messages))) s)
moved_sound p f s does h =
    let ms = filter p (values s.messages) in
    let done = each_done f (λ m. 0) does ms s h.shaped (stand_in p s h.shaped) in
    let after = change_all (flat_map f ms) s in
    let sums = done.sum in
    let none = no_weight ms in
    let was = h.conserved in
    let conserved : s.head.tally.accepted ≡ pending_count (values after.messages) +
    s.head.tally.delivered + s.head.tally.failed + s.head.tally.deleted + s.head.tally.expired =
    omega arith in
    record {
      shaped = done.shaped;
      conserved = subst (λ (x : Head). x.tally.accepted ≡ pending_count (values after.messages) +
          x.tally.delivered + x.tally.failed + x.tally.deleted + x.tally.expired) (sym done.head)
          conserved;
      bounded = subst (λ (x : Head). x.tally.accepted ≤ 100 * (x.next_serial - 1)) (sym done.head)
          h.bounded;
    }

-- changes that take recipients, and then a head that tells of as many
pub taken_sound : (p : Message → Bool) (f : Message → List Change) (w : Message → ℕ) (s : State)
    (head : Head) →
    ((u : State) (m : Message) → ShapedState u → get u.messages m.serial ≡ Some m →
    Does u (change_all (f m) u) m (w m)) → SoundState s
    → head.next_serial ≡ s.head.next_serial → IsNext head.next_notice →
    s.head.next_notice ≤ head.next_notice → head.tally.accepted ≡ s.head.tally.accepted
    → head.tally.delivered + head.tally.failed + head.tally.deleted + head.tally.expired ≡
    s.head.tally.delivered + s.head.tally.failed + s.head.tally.deleted + s.head.tally.expired +
    sum_by w (filter p (values s.messages))
    → SoundState (change (PutHead head) (change_all (flat_map f (filter p (values s.messages))) s))
taken_sound p f w s head does h serial notice later accepted told =
    let ms = filter p (values s.messages) in
    let done = each_done f w does ms s h.shaped (stand_in p s h.shaped) in
    let after = change_all (flat_map f ms) s in
    let sums = done.sum in
    let was = h.conserved in
    let same : head.next_serial ≡ after.head.next_serial = serial
    ∙ ap (λ (x : Head). x.next_serial) (sym done.head) in
    let risen : after.head.next_notice ≤ head.next_notice =
    subst (λ (x : Head). x.next_notice ≤ head.next_notice) (sym done.head) later in
    record {
      shaped = change_shaped after (PutHead head) done.shaped (record {
        next_serial = subst IsNext (sym serial) h.shaped.next_serial;
        next_notice = notice;
        above = λ k n at. subst (λ x. k < x) (sym same) ((done.shaped.messages k n at).below);
        above_notices = λ k n at. let below = (done.shaped.notices k n at).1 in omega arith;
        above_ends = λ k n at. let below : k ≤ all_gone s.head.tally =
            subst (λ (x : Head). k ≤ all_gone x.tally) done.head (done.shaped.ends k n at) in
            omega arith;
      });
      conserved = omega arith;
      bounded = subst (λ (x : ℕ × ℕ). x.0 ≤ 100 * (x.1 - 1)) (λ i. (sym accepted i, sym serial i))
          h.bounded;
    }

-- Whoever was pending before a deletion, an attempt or a sweep is pending after it, or left in it.
use Rattle.std.proofs.Common.{◌≡◌, ◌⊎◌, inl, inr, ⊎_elim, ℕ, Bool, true, false, cond}
use Rattle.std.proofs.Common.{List, [], ◌∷◌, ◌++◌, map, filter, refl, sym, ap, ◌∙◌, subst}
use Rattle.std.proofs.Common.{Some, None, Option}
use Rattle.std.specs.Prelude.{◌==◌, if◌then◌else◌, option_and_then}
use Rattle.std.specs.List.{flat_map, cons_option}
use Rattle.std.specs.List as lists
use Rattle.std.specs.Ordering.{nat_cmp, eq_by_cmp}
use Rattle.std.specs.Cmp.{nat_cmp_total}
use Rattle.std.specs.FinMap.{get, remove, values, get-remove, get-insert}
use Rattle.std.proofs.lemmas.Map.Lookups.{exact_unsigned}
use Rattle.hq_owned.proofs.Parts.{tied_true, tied_false}
use Rattle.hq_kept.specs.declared.message.Message.{Message}
use Rattle.hq_kept.specs.declared.message.Pending.{Pending}
use Rattle.hq_kept.specs.declared.outcome.Delivery.{Delivery}
use Rattle.hq_kept.specs.declared.outcome.Delivery.TheVariants as delivery
use Rattle.hq_kept.specs.declared.outcome.Ended.{Ended}
use Rattle.hq_kept.specs.declared.outcome.Fate.{Fate}
use Rattle.hq_kept.specs.declared.outcome.Outcome.{Outcome}
use Rattle.hq_tables.specs.Sound.{ShapedState}
use Rattle.hq_tables.specs.Tables.{State, change_all}
use Rattle.hq_rules.specs.Attempts.{ended, ended_with, left, left_with, outcome_of}
use Rattle.hq_rules.specs.Leaving.{all_ended, ended_as}
use Rattle.hq_rules.specs.Outcomes.{put_or_dropped}
use Rattle.hq_laws.proofs.Among.{Among}
use Rattle.hq_laws.proofs.There.{IsThere}
use Rattle.hq_laws.proofs.Standing.{at_serial, picked, pick}
use Rattle.hq_laws.proofs.Standing.{is_same, differ}
use Rattle.hq_laws.proofs.LeftTold.{Parts}

-- ---- who is among some

pub among_left : {A : Type 0} (x : A) (xs ys : List A) → Among x xs → Among x (xs ++ ys)
among_left x [] ys h = absurd h
among_left x (z ∷ xs) ys (inl h) = inl h
among_left x (z ∷ xs) ys (inr h) = inr (among_left x xs ys h)

pub among_right : {A : Type 0} (x : A) (xs ys : List A) → Among x ys → Among x (xs ++ ys)
among_right x [] ys h = h
among_right x (z ∷ xs) ys h = inr (among_right x xs ys h)

among_map : {A B : Type 0} (f : A → B) (x : A) (xs : List A) → Among x xs → Among (f x) (map f xs)
among_map f x [] h = absurd h
among_map f x (y ∷ xs) (inl h) = inl (ap f h)
among_map f x (y ∷ xs) (inr h) = inr (among_map f x xs h)

pub among_flat : {A B : Type 0} (f : A → List B) (x : A) (y : B) (xs : List A) → Among x xs →
    Among y (f x) → Among y (flat_map f xs)
among_flat f x y [] h k = absurd h
among_flat f x y (z ∷ xs) (inl h) k =
    among_left y (f z) (flat_map f xs) (subst (λ w. Among y (f w)) h k)
among_flat f x y (z ∷ xs) (inr h) k =
    among_right y (f z) (flat_map f xs) (among_flat f x y xs h k)

-- the one of a serial that is found among some
found_among : (k : ℕ) (ms : List Message) (m : Message) → lists.find (at_serial k) ms ≡ Some m →
    Among m ms
found_among k [] m h = absurd (none_some h)
  where
    none_some : ◌≡◌ {A = Option Message} None (Some m) → ⊥
    none_some h = cc
found_among k (n ∷ ms) m h = by (found_among k ms m) (n.serial == k) h where
  by : (lists.find (at_serial k) ms ≡ Some m → Among m ms) → (b : Bool) →
      cond b (Some n) (lists.find (at_serial k) ms) ≡ Some m → (m ≡ n) ⊎ Among m ms
  by rest true h = inl (sym (same h))
    where
      same : ◌≡◌ {A = Option Message} (Some n) (Some m) → n ≡ m
      same h = cc
  by rest false h = inr (rest h)

-- ---- a deletion of one message

pub ends_all : (fate : Fate) (m : Message) (p : Pending) (serial : ℕ) → m.serial ≡ serial →
    Among p m.pending → (e : Ended) × Among e (all_ended fate m) × (e.serial ≡ serial)
    × (e.recipient ≡ p.address)
ends_all fate m p serial same there =
    (ended_as fate m p, among_map (ended_as fate m) p m.pending there, same, refl)

pub one_left : (fate : Fate) (s t : State) (m : Message) → get s.messages m.serial ≡ Some m →
    t.messages ≡ remove s.messages m.serial → Parts s t (all_ended fate m)
one_left fate s t m stands is serial n p found there = by (m.serial == serial) refl where
  at : get t.messages serial ≡ cond (eq_by_cmp nat_cmp serial m.serial) None (get s.messages serial)
  at = ap (λ q. get q serial) is ∙ get-remove nat_cmp_total s.messages m.serial serial

  by : (b : Bool) → (m.serial == serial) ≡ b → IsThere t serial p.address
      ⊎ ((e : Ended) × Among e (all_ended fate m) × (e.serial ≡ serial) × (e.recipient ≡ p.address))
  by true e =
      let same = is_same m.serial serial e in
      let one : m ≡ n = some_same (sym stands ∙ ap (get s.messages) same ∙ found) in
      inr (ends_all fate m p serial same (subst (λ (x : Message). Among p x.pending) (sym one)
      there))
    where
      some_same : ◌≡◌ {A = Option Message} (Some m) (Some n) → m ≡ n
      some_same h = cc
  by false e = inl (
    n,
    at ∙ ap (λ b. cond b None (get s.messages serial))
        (tied_false exact_unsigned serial m.serial (λ same. differ m.serial serial e (sym same)))
        ∙ found,
    (p, there, refl),
  )

-- ---- of messages each of which goes, or stays with its recipients

module _ (s t : State) (shaped : ShapedState s) (goes : Message → Bool) (fate : Fate)
    (gone : List Ended)
    (told : (m : Message) (e : Ended) → Among m (filter goes (values s.messages)) →
    Among e (all_ended fate m) → Among e gone)
    (stays : (k : ℕ) (m : Message) → get s.messages k ≡ Some m → goes m ≡ false →
    (n : Message) × (get t.messages k ≡ Some n) × (n.pending ≡ m.pending)) where
  pub some_left : Parts s t gone
  some_left serial m p found there = by (goes m) refl where
    own : m.serial ≡ serial
    own = (shaped.messages serial m found).own_serial

    by : (b : Bool) → goes m ≡ b → IsThere t serial p.address
        ⊎ ((e : Ended) × Among e gone × (e.serial ≡ serial) × (e.recipient ≡ p.address))
    by true is =
        let it = ends_all fate m p serial own there in
        let picked_it : lists.find (at_serial serial) (filter goes (values s.messages)) ≡ Some m =
        picked s.messages (λ k m f. (shaped.messages k m f).own_serial) goes serial
        ∙ ap (option_and_then (pick goes)) found
        ∙ ap (λ b. if b then Some m else None) is in
        inr (
          it.0,
          told m it.0 (found_among serial (filter goes (values s.messages)) m picked_it)
              it.1,
          it.2,
          it.3,
        )
    by false is =
        let it = stays serial m found is in
        inl (it.0, it.1, (p, subst (Among p) (sym it.2) there, refl))

-- ---- an attempt

behind : {A : Type 0} (q : A) (qs : List A) (o : Option A) → Among q qs →
    Among q (cons_option o qs)
behind q qs None h = h
behind q qs (Some y) h = inr h

attempt_parts : (m : Message) (os : List Outcome) (p : Pending) (ps : List Pending) → Among p ps →
    ((q : Pending) × Among q (left os ps) × (q.address ≡ p.address))
    ⊎ ((e : Ended) × Among e (ended m os ps) × (e.serial ≡ m.serial) × (e.recipient ≡ p.address))
attempt_parts m os p [] h = absurd h
attempt_parts m os p (x ∷ ps) (inl same) =
    subst (λ (y : Pending). ((q : Pending) × Among q (left os (x ∷ ps)) × (q.address ≡ y.address))
    ⊎ ((e : Ended) × Among e (ended m os (x ∷ ps)) × (e.serial ≡ m.serial)
    × (e.recipient ≡ y.address))) (sym same) (by (outcome_of os x))
  where
    by : (o : Option Outcome) →
        ((q : Pending) × Among q (cons_option (left_with x o) (left os ps))
        × (q.address ≡ x.address))
        ⊎ ((e : Ended) × Among e (cons_option (ended_with m x o) (ended m os ps))
        × (e.serial ≡ m.serial) × (e.recipient ≡ x.address))
    by None = inl (x, inl refl, refl)
    by (Some o) = case o.result
      where
        case : (d : Delivery) →
            ((q : Pending) × Among q (cons_option (left_with x (Some (record o { result = d })))
            (left os ps)) × (q.address ≡ x.address))
            ⊎ ((e : Ended) × Among e (cons_option (ended_with m x (Some (record o { result = d })))
            (ended m os ps)) × (e.serial ≡ m.serial) × (e.recipient ≡ x.address))
        case (delivery.Delivered status text) = inr (_, inl refl, refl, refl)
        case (delivery.Deferred status text) = inl (_, inl refl, refl)
        case (delivery.Failed status text) = inr (_, inl refl, refl, refl)
attempt_parts m os p (x ∷ ps) (inr more) = ⊎_elim
    (λ (it : (q : Pending) × Among q (left os ps) × (q.address ≡ p.address)).
    inl (it.0, behind it.0 (left os ps) (left_with x (outcome_of os x)) it.1, it.2))
    (λ (it : (e : Ended) × Among e (ended m os ps) × (e.serial ≡ m.serial)
    × (e.recipient ≡ p.address)).
    inr (it.0, behind it.0 (ended m os ps) (ended_with m x (outcome_of os x)) it.1, it.2, it.3))
    (attempt_parts m os p ps more)

-- a message that nobody is left of is gone
abbrev gives : Message → List Pending → Option Message
gives n [] = None
gives n (q ∷ ps) = Some n

pub attempt_left : (s t : State) (m n : Message) (os : List Outcome) →
    get s.messages m.serial ≡ Some m → n.serial ≡ m.serial → n.pending ≡ left os m.pending →
    t.messages ≡ (change_all (put_or_dropped n n.pending ∷ []) s).messages →
    Parts s t (ended m os m.pending)
attempt_left s t m n os stands same is after serial x p found there =
    by (m.serial == serial) refl
  where
    queue : (k : ℕ) (ps : List Pending) →
        get (change_all (put_or_dropped n ps ∷ []) s).messages k ≡
        cond (eq_by_cmp nat_cmp k n.serial) (gives n ps) (get s.messages k)
    queue k [] = get-remove nat_cmp_total s.messages n.serial k
    queue k (q ∷ ps) = get-insert nat_cmp_total s.messages n.serial n k

    at : get t.messages serial ≡
        cond (eq_by_cmp nat_cmp serial n.serial) (gives n n.pending) (get s.messages serial)
    at = ap (λ q. get q serial) after ∙ queue serial n.pending

    here : m.serial ≡ serial → get t.messages serial ≡ gives n n.pending
    here e = at ∙ ap (λ b. cond b (gives n n.pending) (get s.messages serial))
        (ap (eq_by_cmp nat_cmp serial) (same ∙ e) ∙ tied_true nat_cmp_total serial)

    still : (ps : List Pending) → (q : Pending) → Among q ps → gives n ps ≡ Some n
    still [] q h = absurd h
    still (y ∷ ps) q h = refl

    by : (b : Bool) → (m.serial == serial) ≡ b → IsThere t serial p.address
        ⊎ ((e : Ended) × Among e (ended m os m.pending) × (e.serial ≡ serial)
        × (e.recipient ≡ p.address))
    by true e =
        let at_serial_of = is_same m.serial serial e in
        let one : x ≡ m = some_same (sym found ∙ ap (get s.messages) (sym at_serial_of) ∙ stands) in
        ⊎_elim
        (λ (it : (q : Pending) × Among q (left os m.pending) × (q.address ≡ p.address)).
        let among : Among it.0 n.pending = subst (Among it.0) (sym is) it.1 in
        inl (n, here at_serial_of ∙ still n.pending it.0 among, (it.0, among, it.2)))
        (λ (it : (e : Ended) × Among e (ended m os m.pending) × (e.serial ≡ m.serial)
        × (e.recipient ≡ p.address)). inr (it.0, it.1, it.2 ∙ at_serial_of, it.3))
        (attempt_parts m os p m.pending (subst (λ (y : Message). Among p y.pending) one there))
      where
        some_same : ◌≡◌ {A = Option Message} (Some x) (Some m) → x ≡ m
        some_same h = cc
    by false e = inl (
      x,
      at ∙ ap (λ b. cond b (gives n n.pending) (get s.messages serial))
          (tied_false exact_unsigned serial n.serial (λ h. differ m.serial serial e
          (sym (h ∙ same)))) ∙ found,
      (p, there, refl),
    )

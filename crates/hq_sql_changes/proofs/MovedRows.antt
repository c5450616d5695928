-- What rows and reasons a move of each message of a customer leaves: those that sets leave.
use Rattle.std.proofs.Common.{◌≡◌, ℕ, ◌<◌, Bool, true, false, not, ◌&&◌, ◌||◌, cond, List, [], ◌∷◌}
use Rattle.std.proofs.Common.{map, filter, length, Option, Some, None, refl, sym, ap, ◌∙◌, arith}
use Rattle.std.specs.Prelude.{option_map, unwrap_or, nat_lt}
use Rattle.std.specs.List.{list_any}
use Rattle.std.proofs.lemmas.Bool.{both_ways}
use Rattle.std.proofs.lemmas.Bool.Decides.{nat_tests}
use Rattle.std.specs.Ordering.{eq_by_cmp}
use Rattle.std.specs.Cmp.Lexicographic.{nat_list_cmp_total}
use Rattle.std.specs.FinMap.{entries, find, get, insert, remove, retain_keys, get-entries}
use Rattle.std.specs.FinMap.{get-insert, get-remove, get-retain_keys, same_map}
use Rattle.std.proofs.lemmas.Map.Lookups.{exact_bytes}
use Rattle.std.proofs.lemmas.Map.Views.{tells_apart}
use Rattle.hq_kept.specs.Messages.{is_on_hold}
use Rattle.hq_kept.specs.declared.message.Message.{Message}
use Rattle.hq_owned.specs.Owned.{rows_of, map_values, given}
use Rattle.hq_owned.proofs.Cases.{none_some, same_some}
use Rattle.hq_owned.proofs.Parts.{get-map_values, tied_true, tied_false}
use Rattle.hq_tables.proofs.Orders.{message_total, message_exact}
use Rattle.hq_tables.specs.Readings.{messages_in}
use Rattle.hq_tables.specs.Sound.{Sound}
use Rattle.hq_tables.specs.Tables.{Tables, Row, text_cmp, message_cmp, row_of, joined, reason_of}
use Rattle.hq_tables.specs.Tables.{give_reason}
use Rattle.hq_isolation.proofs.Dealt.{Recipients}
use Rattle.hq_isolation.proofs.Many.{NotAmong}
use Rattle.hq_isolation.proofs.Reasons.{Holds}
use Rattle.hq_rules.specs.declared.call.Move.{Move}
use Rattle.hq_rules.specs.declared.call.Move.TheVariants.{Hold, Release}
use Rattle.hq_values.specs.Words.{customer_hold}
use Rattle.hq_sql_messages.specs.Moves.{is_standing, held_row, released_row}
use Rattle.hq_sql_changes.specs.Moved.{give_all}
use Rattle.hq_sql_changes.proofs.EachMoved.{Messages, Key, row_one, AllStand, stand_after, row_each}
use Rattle.hq_sql_changes.proofs.EachMoved.{reason_each, stand_in, queue, seen}
use Rattle.hq_kept.specs.declared.message.QueueState.TheVariants as state

-- ---- the rows that are left

-- the row of a message once it is moved
abbrev moved_row : Move → Row → Row
moved_row Hold r = cond (is_standing false r) (held_row r) r
moved_row (Release at) r = cond (is_standing true r) (released_row at r) r

-- whether a key is that of a message whose row passes
abbrev pub among : List ℕ → (Row → Bool) → Key → List Message → Bool
among c passes k ms = list_any (λ (m : Message). passes (row_of m)
    && eq_by_cmp message_cmp k (c, m.serial)) ms

abbrev pub every : Row → Bool
every r = true

not_among : (c : List ℕ) (passes : Row → Bool) (x : ℕ) (ms : List Message) → NotAmong x ms →
    among c passes (c, x) ms ≡ false
not_among c passes x [] h = refl
not_among c passes x (m ∷ ms) h = (λ i. (passes (row_of m) && tied_false message_exact (c, x)
    (c, m.serial) (λ same. h.0 (sym (ap (λ (k : Key). k.1) same))) i)
    || not_among c passes x ms h.1 i) ∙ none (passes (row_of m))
  where
    none : (b : Bool) → ((b && false) || false) ≡ false
    none true = refl
    none false = refl

row_one_at : (c : List ℕ) (by : Move) (m : Message) (rows : Messages) →
    get rows (c, m.serial) ≡ Some (row_of m) → (k : Key) →
    get (row_one c by m rows) k ≡ cond (eq_by_cmp message_cmp k (c, m.serial))
    (option_map (moved_row by) (get rows k)) (get rows k)
row_one_at c by m rows there k = go by
  where
    here : eq_by_cmp message_cmp k (c, m.serial) ≡ true → get rows k ≡ Some (row_of m)
    here e = ap (get rows) (tells_apart message_exact k (c, m.serial) e) ∙ there

    stays : (f : Row → Row) → f (row_of m) ≡ row_of m → (ties : Bool) →
        (ties ≡ true → get rows k ≡ Some (row_of m)) →
        get rows k ≡ cond ties (option_map f (get rows k)) (get rows k)
    stays f same true is = is refl ∙ ap Some (sym same) ∙ sym (ap (option_map f) (is refl))
    stays f same false is = refl

    changes : (f : Row → Row) (new : Row) → f (row_of m) ≡ new → (ties : Bool) →
        (ties ≡ true → get rows k ≡ Some (row_of m)) →
        cond ties (Some new) (get rows k) ≡ cond ties (option_map f (get rows k)) (get rows k)
    changes f new same true is = ap Some (sym same) ∙ sym (ap (option_map f) (is refl))
    changes f new same false is = refl

    one : (f : Row → Row) (n : Message) → n.serial ≡ m.serial → (b : Bool) →
        f (row_of m) ≡ cond b (row_of n) (row_of m) →
        get (given rows (λ (x : Message). insert rows (c, x.serial) (row_of x))
        (cond b (Some n) None)) k ≡ cond (eq_by_cmp message_cmp k (c, m.serial))
        (option_map f (get rows k)) (get rows k)
    one f n same false e = stays f e _ here
    one f n same true e = get-insert message_total rows (c, n.serial) (row_of n) k
        ∙ ap (λ x. cond (eq_by_cmp message_cmp k (c, x)) (Some (row_of n)) (get rows k)) same
        ∙ changes f (row_of n) e _ here

    turned : (b : Bool) (n : Message) → cond b None (Some n) ≡ cond (not b) (Some n) None
    turned true n = refl
    turned false n = refl

    go : (x : Move) → get (row_one c x m rows) k ≡ cond (eq_by_cmp message_cmp k (c, m.serial))
        (option_map (moved_row x) (get rows k)) (get rows k)
    go Hold = ap (λ o. get (given rows (λ (x : Message). insert rows (c, x.serial) (row_of x)) o) k)
        (turned (is_on_hold m.state) (record m { state = state.Hold; reason = customer_hold }))
        ∙ one (moved_row Hold) (record m { state = state.Hold; reason = customer_hold }) refl
        (not (is_on_hold m.state)) refl
    go (Release at) = one (moved_row (Release at))
        (record m { state = state.Deferred; reason = []; next_try = at }) refl
        (is_on_hold m.state) refl

rows_at : (c : List ℕ) (by : Move) (ms : List Message) (rows : Messages) (rs : Recipients) →
    AllStand c rows rs ms → (k : Key) → get (row_each c by ms rows) k ≡ cond (among c every k ms)
    (option_map (moved_row by) (get rows k)) (get rows k)
rows_at c by [] rows rs h k = refl
rows_at c by (m ∷ ms) rows rs h k =
    rows_at c by ms (row_one c by m rows) rs (stand_after c by m rows rs ms h.1.1.0 h.1.1.1) k
    ∙ ap (λ o. cond (among c every k ms) (option_map (moved_row by) o) o)
    (row_one_at c by m rows h.0 k)
    ∙ go (eq_by_cmp message_cmp k (c, m.serial)) (λ e. ap (λ x. among c every x ms)
    (tells_apart message_exact k (c, m.serial) e) ∙ not_among c every m.serial ms h.1.1.0)
  where
    go : (ties : Bool) → (ties ≡ true → among c every k ms ≡ false) →
        cond (among c every k ms) (option_map (moved_row by)
        (cond ties (option_map (moved_row by) (get rows k)) (get rows k)))
        (cond ties (option_map (moved_row by) (get rows k)) (get rows k)) ≡ cond
        (ties || among c every k ms) (option_map (moved_row by) (get rows k)) (get rows k)
    go true none = ap (λ b. cond b (option_map (moved_row by)
        (option_map (moved_row by) (get rows k))) (option_map (moved_row by) (get rows k)))
        (none refl)
    go false none = refl

-- ---- who is among all messages of a customer

abbrev pub whole : List ℕ → Tables → List ((List ℕ × ℕ) × Row) → List Message
whole c t es = map (λ (e : ℕ × Row). joined c t.recipients t.holds e.0 e.1) (rows_of text_cmp c es)

other_owner : (c : List ℕ) (k : Key) (x : ℕ) → eq_by_cmp text_cmp c k.0 ≡ false →
    eq_by_cmp message_cmp k (c, x) ≡ false
other_owner c k x h = tied_false message_exact k (c, x) (λ (same : k ≡ (c, x)). both_ways _ h
    (ap (λ (q : Key). eq_by_cmp text_cmp c q.0) same ∙ tied_true nat_list_cmp_total c))

none_among : (c : List ℕ) (passes : Row → Bool) (k : Key) (ms : List Message) →
    eq_by_cmp text_cmp c k.0 ≡ false → among c passes k ms ≡ false
none_among c passes k [] h = refl
none_among c passes k (m ∷ ms) h = (λ i. (passes (row_of m) && other_owner c k m.serial h i)
    || none_among c passes k ms h i) ∙ none (passes (row_of m))
  where
    none : (b : Bool) → ((b && false) || false) ≡ false
    none true = refl
    none false = refl

or_true : (b : Bool) → (b || true) ≡ true
or_true true = refl
or_true false = refl

some_later : (c : List ℕ) (t : Tables) (passes : Row → Bool) (k : Key) (e : Key × Row)
    (es : List (Key × Row)) (b : Bool) → among c passes k (whole c t es) ≡ true →
    among c passes k (map (λ (x : ℕ × Row). joined c t.recipients t.holds x.0 x.1)
    (cond b ((e.0.1, e.1) ∷ rows_of text_cmp c es) (rows_of text_cmp c es))) ≡ true
some_later c t passes k e es true rest =
    ap (λ x. (passes e.1 && eq_by_cmp message_cmp k (c, e.0.1)) || x) rest ∙ or_true _
some_later c t passes k e es false rest = rest

some_here : (c : List ℕ) (t : Tables) (passes : Row → Bool) (k : Key) (e : Key × Row)
    (es : List (Key × Row)) → eq_by_cmp text_cmp c k.0 ≡ true → k ≡ e.0 → passes e.1 ≡ true →
    among c passes k (whole c t (e ∷ es)) ≡ true
some_here c t passes k e es owns same pass =
    let owner : c ≡ k.0 = tells_apart exact_bytes c k.0 owns in
    let own_row : eq_by_cmp text_cmp c e.0.0 ≡ true =
    ap (λ (q : Key). eq_by_cmp text_cmp c q.0) (sym same) ∙ owns in
    let here : eq_by_cmp message_cmp k (c, e.0.1) ≡ true =
    (λ i. eq_by_cmp message_cmp k (owner i, (sym same i).1)) ∙ tied_true message_total k in
    ap (λ b. among c passes k (map (λ (x : ℕ × Row). joined c t.recipients t.holds x.0 x.1)
    (cond b ((e.0.1, e.1) ∷ rows_of text_cmp c es) (rows_of text_cmp c es)))) own_row
    ∙ (λ i. (pass i && here i) || among c passes k (whole c t es))

some_among : (c : List ℕ) (t : Tables) (passes : Row → Bool) (k : Key) (r : Row) →
    eq_by_cmp text_cmp c k.0 ≡ true → passes r ≡ true → (es : List (Key × Row)) →
    find message_cmp k es ≡ Some r → among c passes k (whole c t es) ≡ true
some_among c t passes k r owns pass [] h = absurd (none_some r h)
some_among c t passes k r owns pass (e ∷ es) h =
    go (eq_by_cmp message_cmp k e.0) refl h (some_among c t passes k r owns pass es)
  where
    go : (b : Bool) → eq_by_cmp message_cmp k e.0 ≡ b →
        cond b (Some e.1) (find message_cmp k es) ≡ Some r →
        (find message_cmp k es ≡ Some r → among c passes k (whole c t es) ≡ true) →
        among c passes k (whole c t (e ∷ es)) ≡ true
    go false is f rest = some_later c t passes k e es (eq_by_cmp text_cmp c e.0.0) (rest f)
    go true is f rest = some_here c t passes k e es owns (tells_apart message_exact k e.0 is)
        (ap passes (same_some e.1 r f) ∙ pass)

pub among_all : (c : List ℕ) (t : Tables) (k : Key) (r : Row) → get t.messages k ≡ Some r →
    among c every k (messages_in c t) ≡ eq_by_cmp text_cmp c k.0
among_all c t k r there = go (eq_by_cmp text_cmp c k.0) refl
  where
    go : (b : Bool) → eq_by_cmp text_cmp c k.0 ≡ b → among c every k (messages_in c t) ≡ b
    go true e = some_among c t every k r e refl (entries t.messages)
        (sym (get-entries t.messages k) ∙ there)
    go false e = none_among c every k (messages_in c t) e

-- the rows of the customer that the move changes, all at once
abbrev pub set_row : Move → List ℕ → Key → Row → Row
set_row Hold c k r = cond (eq_by_cmp text_cmp c k.0 && is_standing false r) (held_row r) r
set_row (Release at) c k r =
    cond (eq_by_cmp text_cmp c k.0 && is_standing true r) (released_row at r) r

pub rows_same : (c : List ℕ) (by : Move) (t : Tables) → Sound t →
    row_each c by (messages_in c t) t.messages ≡ map_values (set_row by c) t.messages
rows_same c by t sound = same_map message_total message_exact _ _ (λ k.
    rows_at c by (messages_in c t) t.messages t.recipients (stand_in c t sound) k
    ∙ go k (get t.messages k) refl
    ∙ sym (get-map_values message_cmp (set_row by c) message_exact t.messages k))
  where
    one : (x : Move) (k : Key) (b : Bool) (r : Row) → eq_by_cmp text_cmp c k.0 ≡ b →
        cond b (Some (moved_row x r)) (Some r) ≡ Some (set_row x c k r)
    one Hold k true r e = ap (λ b. Some (cond (b && is_standing false r) (held_row r) r)) (sym e)
    one Hold k false r e = ap (λ b. Some (cond (b && is_standing false r) (held_row r) r)) (sym e)
    one (Release at) k true r e =
        ap (λ b. Some (cond (b && is_standing true r) (released_row at r) r)) (sym e)
    one (Release at) k false r e =
        ap (λ b. Some (cond (b && is_standing true r) (released_row at r) r)) (sym e)

    nothing : (b : Bool) → cond b (option_map (moved_row by) None) None ≡ option_map (set_row by c
        ([], 0)) None
    nothing true = refl
    nothing false = refl

    go : (k : Key) (o : Option Row) → get t.messages k ≡ o →
        cond (among c every k (messages_in c t)) (option_map (moved_row by) o) o ≡ option_map
        (set_row by c k) o
    go k None e = nothing (among c every k (messages_in c t))
    go k (Some r) e = ap (λ b. cond b (Some (moved_row by r)) (Some r)) (among_all c t k r e)
        ∙ one by k (eq_by_cmp text_cmp c k.0) r refl

-- ---- the reasons that are left

-- of a hold: each message that was not on hold gets the reason
abbrev pub held_serials : List Message → List ℕ
held_serials ms = map (λ (m : Message). m.serial)
    (filter (λ (m : Message). is_standing false (row_of m)) ms)

pub reasons_held : (c : List ℕ) (ms : List Message) (hs : Holds) →
    reason_each c Hold ms hs ≡ give_all c customer_hold (held_serials ms) hs
reasons_held c [] hs = refl
reasons_held c (m ∷ ms) hs = go (is_on_hold m.state) (reasons_held c ms hs)
    (reasons_held c ms (give_reason c m.serial customer_hold hs))
  where
    held : Message
    held = record m { state = state.Hold; reason = customer_hold }

    go : (b : Bool) → reason_each c Hold ms hs ≡ give_all c customer_hold (held_serials ms) hs →
        reason_each c Hold ms (give_reason c m.serial customer_hold hs) ≡ give_all c customer_hold
        (held_serials ms) (give_reason c m.serial customer_hold hs) →
        reason_each c Hold ms (given hs
        (λ (n : Message). give_reason c n.serial n.reason hs) (cond b None (Some held))) ≡ give_all
        c customer_hold (map (λ (x : Message). x.serial) (cond (not b)
        (m ∷ filter (λ (x : Message). is_standing false (row_of x)) ms)
        (filter (λ (x : Message). is_standing false (row_of x)) ms))) hs
    go true stay more = stay
    go false stay more = more

pub serials_same : (c : List ℕ) (t : Tables) (es : List (Key × Row)) →
    held_serials (whole c t es) ≡ map (λ (e : Key × Row). e.0.1) (filter
    (λ (e : Key × Row). eq_by_cmp text_cmp c e.0.0 && is_standing false e.1) es)
serials_same c t [] = refl
serials_same c t (e ∷ es) = go (eq_by_cmp text_cmp c e.0.0) (is_standing false e.1)
    (serials_same c t es)
  where
    rest : List (Key × Row)
    rest = filter (λ (x : Key × Row). eq_by_cmp text_cmp c x.0.0 && is_standing false x.1) es

    one : Message
    one = joined c t.recipients t.holds e.0.1 e.1

    go : (owns passes : Bool) → held_serials (whole c t es) ≡ map (λ (x : Key × Row). x.0.1) rest →
        map (λ (m : Message). m.serial) (filter (λ (m : Message). is_standing false (row_of m))
        (map (λ (x : ℕ × Row). joined c t.recipients t.holds x.0 x.1)
        (cond owns ((e.0.1, e.1) ∷ rows_of text_cmp c es) (rows_of text_cmp c es)))) ≡ map
        (λ (x : Key × Row). x.0.1) (cond (owns && is_standing false e.1) (e ∷ rest) rest)
    go false passes more = more
    go true passes more = inner (is_standing false e.1)
      where
        inner : (b : Bool) → map (λ (m : Message). m.serial) (cond b
            (one ∷ filter (λ (m : Message). is_standing false (row_of m)) (whole c t es))
            (filter (λ (m : Message). is_standing false (row_of m)) (whole c t es))) ≡ map
            (λ (x : Key × Row). x.0.1) (cond b (e ∷ rest) rest)
        inner true = ap (λ l. e.0.1 ∷ l) more
        inner false = more

-- of a release: each message that was on hold loses it
reasons_released : (c : List ℕ) (at : ℕ) (ms : List Message) (hs : Holds) (k : Key) →
    get (reason_each c (Release at) ms hs) k ≡ cond (among c (is_standing true) k ms) None
    (get hs k)
unfolding give_reason
reasons_released c at [] hs k = refl
reasons_released c at (m ∷ ms) hs k = go (is_on_hold m.state)
    (reasons_released c at ms hs k) (reasons_released c at ms (remove hs (c, m.serial)) k)
  where
    released : Message
    released = record m { state = state.Deferred; reason = []; next_try = at }

    over : (a b : Bool) (o : Option (List ℕ)) → cond a None (cond b None o) ≡ cond (b || a) None o
    over true true o = refl
    over true false o = refl
    over false true o = refl
    over false false o = refl

    go : (b : Bool) → get (reason_each c (Release at) ms hs) k ≡ cond
        (among c (is_standing true) k ms) None (get hs k) →
        get (reason_each c (Release at) ms (remove hs (c, m.serial))) k ≡ cond
        (among c (is_standing true) k ms) None (get (remove hs (c, m.serial)) k) →
        get (reason_each c (Release at) ms (given hs
        (λ (n : Message). give_reason c n.serial n.reason hs) (cond b (Some released) None))) k ≡
        cond ((b && eq_by_cmp message_cmp k (c, m.serial)) || among c (is_standing true) k ms) None
        (get hs k)
    go true stay more = more
        ∙ ap (λ o. cond (among c (is_standing true) k ms) None o)
        (get-remove message_total hs (c, m.serial) k)
        ∙ over (among c (is_standing true) k ms) (eq_by_cmp message_cmp k (c, m.serial)) (get hs k)
    go false stay more = stay

-- who has a reason is on hold, and so loses it
module _ (c : List ℕ) (t : Tables) (sound : Sound t) where
  pub has_row : (k : Key) (reason : List ℕ) → get t.holds k ≡ Some reason →
      (r : Row) × (get t.messages k ≡ Some r)
  has_row k reason there = go (get t.messages k) refl
    where
      go : (o : Option Row) → get t.messages k ≡ o → (r : Row) × (o ≡ Some r)
      go None e = absurd (none_some reason (sym (sound.holds.no_orphans k.0 k.1 e) ∙ there))
      go (Some r) e = (r, refl)

  is_held : (serial : ℕ) (reason : List ℕ) (r : Row) → get t.holds (c, serial) ≡ Some reason →
      get t.messages (c, serial) ≡ Some r → is_standing true r ≡ true
  unfolding reason_of
  is_held serial reason r there row =
      let m : Message = joined c t.recipients t.holds serial r in
      let found : get (queue c t sound) serial ≡ Some m =
      seen c t sound serial ∙ ap (option_map (joined c t.recipients t.holds serial)) row in
      let right = ((sound.states c).shaped.messages serial m found).right in
      let told : m.reason ≡ reason = ap (λ o. unwrap_or o []) there in
      let some : 0 < length reason = sound.holds.some_reason c serial reason there in
      let long : nat_lt 0 (length reason) ≡ true = grind (arith, nat_tests) in
      sym right ∙ ap (λ x. nat_lt 0 (length x)) told ∙ long

  loses : (k : Key) (reason : List ℕ) → get t.holds k ≡ Some reason →
      eq_by_cmp text_cmp c k.0 ≡ true → among c (is_standing true) k (messages_in c t) ≡ true
  loses k reason there owns =
      let row = has_row k reason there in
      let owner : c ≡ k.0 = tells_apart exact_bytes c k.0 owns in
      some_among c t (is_standing true) k row.0 owns
      (is_held k.1 reason row.0 (ap (λ d. get t.holds (d, k.1)) owner ∙ there)
      (ap (λ d. get t.messages (d, k.1)) owner ∙ row.1)) (entries t.messages)
      (sym (get-entries t.messages k) ∙ row.1)

  no_reason : (b : Bool) → ◌≡◌ {A = Option (List ℕ)} (cond b None None) None
  no_reason true = refl
  no_reason false = refl

  left_at : (k : Key) (owns : Bool) → eq_by_cmp text_cmp c k.0 ≡ owns → (o : Option (List ℕ)) →
      get t.holds k ≡ o → cond (among c (is_standing true) k (messages_in c t)) None o ≡ cond
      (not owns) o None
  left_at k true e None there = no_reason (among c (is_standing true) k (messages_in c t))
  left_at k false e None there = no_reason (among c (is_standing true) k (messages_in c t))
  left_at k true e (Some reason) there = ap (λ b. cond b None (Some reason))
      (loses k reason there e)
  left_at k false e (Some reason) there = ap (λ b. cond b None (Some reason))
      (none_among c (is_standing true) k (messages_in c t) e)

  pub released_same : (at : ℕ) → reason_each c (Release at) (messages_in c t) t.holds ≡ retain_keys
      t.holds (λ (k : Key). not (eq_by_cmp text_cmp c k.0))
  released_same at = same_map message_total message_exact _ _ (λ k.
      reasons_released c at (messages_in c t) t.holds k
      ∙ left_at k (eq_by_cmp text_cmp c k.0) refl (get t.holds k) refl
      ∙ sym (get-retain_keys t.holds (λ (q : Key). not (eq_by_cmp text_cmp c q.0)) k
      (λ x e. ap (λ (q : Key). not (eq_by_cmp text_cmp c q.0)) (sym (message_exact k x e)))))

-- A customer's messages in order of serial, read page by page: what follows a page is what stands
-- after its last serial.
use Rattle.std.proofs.Common.{◌≡◌, ℕ, zero, suc, ◌+◌, ◌-◌, ◌*◌, ◌<◌, ◌≤◌, Bool, true, false, cond}
use Rattle.std.proofs.Common.{T, List, [], ◌∷◌, map, length, take, drop, get_or, Option, Some}
use Rattle.std.proofs.Common.{None, refl, sym, ap, ◌∙◌, subst, arith}
use Rattle.std.specs.Prelude.{nat_lt}
use Rattle.std.specs.Ordering.{nat_cmp}
use Rattle.std.specs.FinMap.{entries, entries_sorted, values, get, get-entries, is_sorted}
use Rattle.std.specs.FinMap.Entries.{below_all}
use Rattle.std.proofs.lemmas.Bool.Decides.{nat_tests}
use Rattle.std.proofs.lemmas.List.{length-drop}
use Rattle.hq_kept.specs.declared.message.Message.{Message}
use Rattle.hq_owned.proofs.Cases.{first, second, none_some, same_some}
use Rattle.hq_tables.specs.Readings.{Readings, read_tables, after_serial}
use Rattle.hq_tables.specs.Sound.{Sound}
use Rattle.hq_tables.specs.Tables.{Tables, own}
use Rattle.hq_isolation.proofs.Many.{Queue, AllFind, below, finds}
use Rattle.hq_isolation.proofs.Read.{same_readings}
use Rattle.hq_reads.specs.Reports.{last_serial}

no_cons : (m : Message) (ms : List Message) → ◌≡◌ {A = List Message} (m ∷ ms) [] → ⊥
no_cons m ms e = cc

-- ---- messages whose serials rise

-- all serials are above this one
abbrev pub Above : ℕ → List Message → Type 0
Above k [] = Unit {0}
Above k (m ∷ ms) = (k < m.serial) × Above k ms

abbrev pub Rises : List Message → Type 0
Rises [] = Unit {0}
Rises (m ∷ ms) = Above m.serial ms × Rises ms

-- so do those of a queue
module _ (q : Queue) (own_serial : (k : ℕ) (m : Message) → get q k ≡ Some m → m.serial ≡ k) where
  above_from : (k : ℕ) (es : List (ℕ × Message)) → T (below_all nat_cmp k es) →
      AllFind (entries q) es → Above k (map (λ (e : ℕ × Message). e.1) es)
  above_from k [] h f = tt
  above_from k (e ∷ es) h f =
      let lt : k < e.0 = below k e.0 (first _ _ h) in
      let at : e.1.serial ≡ e.0 = own_serial e.0 e.1 (get-entries q e.0 ∙ f.0) in
      (omega arith, above_from k es (second _ _ h) f.1)

  rises_from : (es : List (ℕ × Message)) → T (is_sorted nat_cmp es) → AllFind (entries q) es →
      Rises (map (λ (e : ℕ × Message). e.1) es)
  rises_from [] h f = tt
  rises_from (e ∷ es) h f =
      let at : e.1.serial ≡ e.0 = own_serial e.0 e.1 (get-entries q e.0 ∙ f.0) in (
        subst (λ k. Above k (map (λ (x : ℕ × Message). x.1) es)) (sym at)
            (above_from e.0 es (first _ _ h) f.1),
        rises_from es (second _ _ h) f.1,
      )

  rises_values : Rises (values q)
  rises_values = rises_from (entries q) (entries_sorted q) (finds (entries q) (entries_sorted q))

pub messages_rise : (customer : List ℕ) (t : Tables) → Sound t →
    Rises (read_tables customer t).messages
messages_rise customer t sound =
    let s = own customer t in
    subst (λ (r : Readings). Rises r.messages) (sym (same_readings customer t))
    (rises_values s.messages (λ k m f.
    ((sound.states customer).shaped.messages k m f).own_serial))

-- ---- those after a serial

abbrev after : ℕ → List Message → List Message
after k ms = after_serial (Some k) ms

is_above : (a b : ℕ) → a < b → nat_lt a b ≡ true
is_above a b h = grind (arith, nat_tests)

is_not_above : (a b : ℕ) → b ≤ a → nat_lt a b ≡ false
is_not_above a b h = grind (arith, nat_tests)

above_is : (a b : ℕ) → nat_lt a b ≡ true → a < b
above_is a b h = grind (arith, nat_tests)

-- the first is after it, or is not
with_first : (k : ℕ) (m : Message) (ms : List Message) → k < m.serial → after k (m ∷ ms) ≡ m
    ∷ after k ms
with_first k m ms h = ap (λ b. cond b (m ∷ after k ms) (after k ms)) (is_above k m.serial h)

without_first : (k : ℕ) (m : Message) (ms : List Message) → m.serial ≤ k →
    after k (m ∷ ms) ≡ after k ms
without_first k m ms h = ap (λ b. cond b (m ∷ after k ms) (after k ms)) (is_not_above k m.serial h)

all_above : (k : ℕ) (ms : List Message) → Above k ms → after k ms ≡ ms
all_above k [] h = refl
all_above k (m ∷ ms) h = with_first k m ms h.0 ∙ ap (λ rest. m ∷ rest) (all_above k ms h.1)

above_take : (k n : ℕ) (ms : List Message) → Above k ms → Above k (take n ms)
above_take k zero ms h = tt
above_take k (suc n) [] h = tt
above_take k (suc n) (m ∷ ms) h = (h.0, above_take k n ms h.1)

above_after : (k j : ℕ) (ms : List Message) → Above k ms → Above k (after j ms)
above_after k j [] h = tt
above_after k j (m ∷ ms) h = cases (nat_lt j m.serial) (above_after k j ms h.1) where
  cases : (b : Bool) → Above k (after j ms) → Above k (cond b (m ∷ after j ms) (after j ms))
  cases true rest = (h.0, rest)
  cases false rest = rest

rises_after : (j : ℕ) (ms : List Message) → Rises ms → Rises (after j ms)
rises_after j [] h = tt
rises_after j (m ∷ ms) h = cases (nat_lt j m.serial) (rises_after j ms h.1) where
  cases : (b : Bool) → Rises (after j ms) → Rises (cond b (m ∷ after j ms) (after j ms))
  cases true rest = (above_after m.serial j ms h.0, rest)
  cases false rest = rest

all_after : (j : ℕ) (ms : List Message) → Above j (after j ms)
all_after j [] = tt
all_after j (m ∷ ms) = cases (nat_lt j m.serial) refl (all_after j ms) where
  cases : (b : Bool) → nat_lt j m.serial ≡ b → Above j (after j ms) →
      Above j (cond b (m ∷ after j ms) (after j ms))
  cases true e rest = (above_is j m.serial e, rest)
  cases false e rest = rest

-- those after a later serial are among those after an earlier one
after_after : (j k : ℕ) (ms : List Message) → j ≤ k → after k ms ≡ after k (after j ms)
after_after j k [] h = refl
after_after j k (m ∷ ms) h = cases (nat_lt j m.serial) refl (after_after j k ms h) where
  before : (b : Bool) → nat_lt j m.serial ≡ false → nat_lt k m.serial ≡ b → b ≡ false
  before true e f = absurd (let a = above_is k m.serial f in let c : nat_lt j m.serial ≡ true =
      is_above j m.serial (omega arith) in cc)
  before false e f = refl

  cases : (b : Bool) → nat_lt j m.serial ≡ b → after k ms ≡ after k (after j ms) →
      after k (m ∷ ms) ≡ after k (cond b (m ∷ after j ms) (after j ms))
  cases true e rest = ap (λ xs. cond (nat_lt k m.serial) (m ∷ xs) xs) rest
  cases false e rest = ap (λ b. cond b (m ∷ after k ms) (after k ms))
      (before (nat_lt k m.serial) e refl) ∙ rest

-- ---- pages

-- where nothing is taken, nothing was there, or none was asked for
nothing_taken : (n : ℕ) (ms : List Message) → take n ms ≡ [] → drop n ms ≡ ms
nothing_taken zero ms e = refl
nothing_taken (suc n) [] e = refl
nothing_taken (suc n) (m ∷ ms) e = absurd (no_cons m (take n ms) e)

last_above : (j k : ℕ) (ms : List Message) → Above j ms → last_serial ms ≡ Some k → j < k
last_above j k [] h e = absurd (none_some k e)
last_above j k (m ∷ []) h e = subst (λ x. j < x) (same_some m.serial k e) h.0
last_above j k (m ∷ n ∷ ms) h e = last_above j k (n ∷ ms) h.1 e

-- what follows a page
behind_last : (n : ℕ) (ms : List Message) (k : ℕ) → Rises ms → last_serial (take n ms) ≡ Some k →
    after k ms ≡ drop n ms
behind_last zero ms k rises e = absurd (none_some k e)
behind_last (suc n) [] k rises e = absurd (none_some k e)
behind_last (suc n) (m ∷ ms) k rises e = by (take n ms) refl e (λ f. behind_last n ms k rises.1 f)
  where
    by : (xs : List Message) → take n ms ≡ xs → last_serial (m ∷ xs) ≡ Some k →
        (last_serial (take n ms) ≡ Some k → after k ms ≡ drop n ms) → after k (m ∷ ms) ≡ drop n ms
    by [] taken e rest =
        let same = same_some m.serial k e in
        without_first k m ms (omega arith) ∙ all_above k ms (subst (λ x. Above x ms) same rises.0)
        ∙ sym (nothing_taken n ms taken)
    by (x ∷ xs) taken e rest =
        let f : last_serial (take n ms) ≡ Some k = ap last_serial taken ∙ e in
        let lt = last_above m.serial k (take n ms) (above_take m.serial n ms rises.0) f in
        without_first k m ms (omega arith) ∙ rest f

-- what follows a page that was taken after a serial, or from the start
pub behind_page : (from : Option ℕ) (n : ℕ) (ms : List Message) (k : ℕ) → Rises ms →
    last_serial (take n (after_serial from ms)) ≡ Some k →
    after_serial (Some k) ms ≡ drop n (after_serial from ms)
behind_page None n ms k rises e = behind_last n ms k rises e
behind_page (Some j) n ms k rises e =
    let lt = last_above j k (take n (after j ms)) (above_take j n (after j ms) (all_after j ms)) e
    in
    after_after j k ms (omega arith) ∙ behind_last n (after j ms) k (rises_after j ms rises) e

-- the last message has the last serial
pub last_at : (n : ℕ) (ms : List Message) (m : Message) → length ms ≡ suc n → m ≡ get_or ms n m →
    last_serial ms ≡ Some m.serial
last_at n [] m h e = absurd (omega arith)
last_at zero (x ∷ []) m h e = ap (λ (k : Message). Some k.serial) (sym e)
last_at (suc n) (x ∷ []) m h e = absurd (omega arith)
last_at zero (x ∷ y ∷ ms) m h e = absurd (omega arith)
last_at (suc n) (x ∷ y ∷ ms) m h e = last_at n (y ∷ ms) m (omega arith) e

-- a page with no last message is the end
has_last : (m : Message) (ms : List Message) → last_serial (m ∷ ms) ≡ None → ⊥
has_last m [] e = none_some m.serial (sym e)
has_last m (n ∷ ms) e = has_last n ms e

pub no_page : (n : ℕ) (ms : List Message) → last_serial (take (suc n) ms) ≡ None → ms ≡ []
no_page n [] e = refl
no_page n (m ∷ ms) e = absurd (has_last m (take n ms) e)

-- there is room for what follows a page of a hundred or more
pub fewer_behind : (n : ℕ) (xs ys : List Message) (more : ℕ) → 100 ≤ n → ys ≡ drop n xs → 0 < more →
    length xs ≤ 100 * (more + 1) → length ys ≤ 100 * (more - 1 + 1)
fewer_behind n xs ys more many e some few = let cut : length ys ≡ length xs - n = ap length e
    ∙ length-drop n xs in omega arith

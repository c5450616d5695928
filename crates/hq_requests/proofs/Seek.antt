-- Where a parameter stands at the end of a pattern alone, the router's search finds the first row
-- that the path fits.
use Rattle.std.proofs.Common.{◌≡◌, ℕ, zero, suc, ◌-◌, ◌<◌, List, [], ◌∷◌, length, Option, Some}
use Rattle.std.proofs.Common.{None, Bool, true, false, cond, not, ◌&&◌, ◌||◌, refl, ap, subst, ◌∙◌}
use Rattle.std.proofs.Common.{arith, ◌==◌, ltb, ◌⊎◌, inl, inr}
use Rattle.std.proofs.lemmas.Bool.Decides.{nat_tests}
use Rattle.matchit.specs.Rows.{RowsOf, param_token, catch_all_token, comes_before}
use Rattle.matchit.specs.Seek.{own, step, or_else, seek, first, param_step, has_slash, segment}
use Rattle.matchit.specs.Seek.{longest_suffix}
use Rattle.matchit.specs.Level.{IsText}
use Rattle.hq_requests.specs.Routes.{fits, first_fit}

-- bytes, and at the end perhaps a parameter
abbrev pub IsSimple : List ℕ → Type 0
IsSimple [] = Unit {0}
IsSimple (x ∷ t) = ((x < 256) × IsSimple t) ⊎ ((x ≡ 256) × (t ≡ []))

module _ {K : Type 0} where
  abbrev pub AllSimple : RowsOf K → Type 0
  AllSimple [] = Unit {0}
  AllSimple ((t, k) ∷ rest) = IsSimple t × AllSimple rest

  -- each row comes after t in the order of rows
  abbrev pub Before : List ℕ → RowsOf K → Type 0
  Before t [] = Unit {0}
  Before t ((u, k) ∷ rest) = (comes_before t u ≡ true) × Before t rest

  abbrev pub Sorted : RowsOf K → Type 0
  Sorted [] = Unit {0}
  Sorted ((t, k) ∷ rest) = Before t rest × Sorted rest

  abbrev AllEnd : RowsOf K → Type 0
  AllEnd [] = Unit {0}
  AllEnd ((t, k) ∷ rest) = (t ≡ []) × AllEnd rest

  or_else-none : (a : Option K) → or_else a None ≡ a
  or_else-none None = refl
  or_else-none (Some k) = refl

  none-param : (p : List ℕ) → (param_step {K = K} [] p).1 ≡ []
  unfolding param_step
  none-param p =
      elim (has_slash p) as (λ v. (cond {A = ℕ × RowsOf K} v (0, []) (length p, [])).1 ≡ []) [
        | true ↦ refl
        | false ↦ refl
      ]

  seek-none : (n : ℕ) (p : List ℕ) → seek {K = K} n [] p ≡ None
  unfolding seek
  seek-none n [] = refl
  seek-none (suc n) (b ∷ p) = seek-none n p
  seek-none zero (b ∷ p) = simp (
    seek-none 0 p,
    none-param (b ∷ p),
    seek-none (((param_step {K = K} [] (b ∷ p)).0) - 1) p,
  )

  seek-all : (rs : RowsOf K) (p : List ℕ) → seek (length p) rs p ≡ own rs
  unfolding seek
  seek-all rs [] = refl
  seek-all rs (b ∷ p) = seek-all rs p

  longest-end : (seg : List ℕ) (rs : RowsOf K) → AllEnd rs → longest_suffix seg rs ≡ []
  longest-end seg [] h = refl
  longest-end seg (([], k) ∷ rest) h = longest-end seg rest h.1
  longest-end seg ((x ∷ t, k) ∷ rest) h = absurd (cc h.0)

  -- a parameter at the end takes a segment
  seek-param : (rs : RowsOf K) (b : ℕ) (p : List ℕ) → AllEnd rs
      → seek ((param_step rs (b ∷ p)).0 - 1) (param_step rs (b ∷ p)).1 p ≡ cond (has_slash (b ∷ p))
      None (own rs)
  unfolding param_step
  seek-param rs b p h = rw (longest-end (segment (b ∷ p)) rs h) (by (has_slash (b ∷ p)))
    where
      by : (v : Bool) → seek ((cond {A = ℕ × RowsOf K} v (0, []) (length (b ∷ p), rs)).0 - 1)
          (cond {A = ℕ × RowsOf K} v (0, []) (length (b ∷ p), rs)).1 p ≡ cond v None (own rs)
      by true = seek-none _ p
      by false = let e : length (b ∷ p) - 1 ≡ length p = omega arith in rw e (seek-all rs p)

  step-param : (rs : RowsOf K) → AllSimple rs → AllEnd (step param_token rs)
  step-param [] h = tt
  step-param (([], k) ∷ rest) h = step-param rest h.1
  step-param ((x ∷ t, k) ∷ rest) h = elim h.0 [
    | inl s ↦ let e : (x == 256) ≡ false = grind (arith, nat_tests) in rw e (step-param rest h.1)
    | inr s ↦ let e : (x == 256) ≡ true = grind (arith, nat_tests) in
        rw e (s.1, step-param rest h.1)
  ]

  step-catch_all : (rs : RowsOf K) → AllSimple rs → step catch_all_token rs ≡ []
  step-catch_all [] h = refl
  step-catch_all (([], k) ∷ rest) h = step-catch_all rest h.1
  step-catch_all ((x ∷ t, k) ∷ rest) h = elim h.0 [
    | inl s ↦ let e : (x == 257) ≡ false = grind (arith, nat_tests) in
        rw e (step-catch_all rest h.1)
    | inr s ↦ let e : (x == 257) ≡ false = grind (arith, nat_tests) in
        rw e (step-catch_all rest h.1)
  ]

  step-simple : (b : ℕ) (rs : RowsOf K) → AllSimple rs → AllSimple (step b rs)
  step-simple b [] h = tt
  step-simple b (([], k) ∷ rest) h = step-simple b rest h.1
  step-simple b ((x ∷ t, k) ∷ rest) h = by (x == b) (tail h.0) (step-simple b rest h.1)
    where
      tail : ((x < 256) × IsSimple t) ⊎ ((x ≡ 256) × (t ≡ [])) → IsSimple t
      tail (inl s) = s.1
      tail (inr s) = rw s.1 tt

      by : (v : Bool) → IsSimple t → AllSimple (step b rest) →
          AllSimple (cond v ((t, k) ∷ step b rest) (step b rest))
      by true s r = (s, r)
      by false s r = r

  step-before : (b : ℕ) (t : List ℕ) (rs : RowsOf K) → Before (b ∷ t) rs → Before t (step b rs)
  step-before b t [] h = tt
  step-before b t (([], k) ∷ rest) h = step-before b t rest h.1
  step-before b t ((x ∷ u, k) ∷ rest) h = by (x == b) refl (step-before b t rest h.1)
    where
      by : (v : Bool) → (x == b) ≡ v → Before t (step b rest) →
          Before t (cond v ((u, k) ∷ step b rest) (step b rest))
      by true e r =
          let same : x ≡ b = grind (arith, nat_tests) in
          let lt : ltb b x ≡ false = grind (arith, nat_tests) in
          let eq : (b == x) ≡ true = grind (arith, nat_tests) in
          (rw (lt, eq) at h.0, r)
      by false e r = r

  step-sorted : (b : ℕ) (rs : RowsOf K) → Sorted rs → Sorted (step b rs)
  step-sorted b [] h = tt
  step-sorted b (([], k) ∷ rest) h = step-sorted b rest h.1
  step-sorted b ((x ∷ t, k) ∷ rest) h = by (x == b) refl (step-sorted b rest h.1)
    where
      by : (v : Bool) → (x == b) ≡ v → Sorted (step b rest) →
          Sorted (cond v ((t, k) ∷ step b rest) (step b rest))
      by true e r =
          let same : x ≡ b = grind (arith, nat_tests) in
          (step-before b t rest (subst (λ y. Before (y ∷ t) rest) same h.0), r)
      by false e r = r

  -- after a parameter no row begins with a byte
  after-param : (b : ℕ) (rs : RowsOf K) → b < 256 → AllSimple rs → Before (256 ∷ []) rs →
      step b rs ≡ []
  after-param b [] lt s h = refl
  after-param b (([], k) ∷ rest) lt s h = after-param b rest lt s.1 h.1
  after-param b ((x ∷ t, k) ∷ rest) lt s h = absurd (elim s.0 [
    | inl p ↦ let l : ltb 256 x ≡ false = grind (arith, nat_tests) in let e : (256 == x) ≡ false =
        grind (arith, nat_tests) in cc (rw (l, e) at h.0)
    | inr p ↦ let l : ltb 256 x ≡ false = grind (arith, nat_tests) in let e : (256 == x) ≡ true =
        grind (arith, nat_tests) in cc (rw (l, e) at h.0)
  ])

  own-fit : (rs : RowsOf K) → own rs ≡ first_fit rs []
  own-fit [] = refl
  own-fit (([], k) ∷ rest) = refl
  own-fit ((x ∷ t, k) ∷ rest) = own-fit rest

  nothing : (v : Bool) → cond {A = Option K} v None None ≡ None
  nothing true = refl
  nothing false = refl

  -- the rows that go on with the byte, and then those that end in a parameter
  joined : (b : ℕ) (p : List ℕ) (rs : RowsOf K) → b < 256 → AllSimple rs → Sorted rs
      → or_else (first_fit (step b rs) p) (cond (has_slash (b ∷ p)) None (own (step 256 rs))) ≡
      first_fit rs (b ∷ p)
  joined b p [] lt s o = nothing (has_slash (b ∷ p))
  joined b p (([], k) ∷ rest) lt s o = joined b p rest lt s.1 o.1
  joined b p ((x ∷ t, k) ∷ rest) lt s o = elim s.0 [
    | inl q ↦
        let e : (x == 256) ≡ false = grind (arith, nat_tests) in
        rw e (byte (x == b) (joined b p rest lt s.1 o.1))
    | inr q ↦
        let e : (x == 256) ≡ true = grind (arith, nat_tests) in
        let n : (x == b) ≡ false = grind (arith, nat_tests) in
        let before : Before (256 ∷ []) rest = subst (λ u. Before u rest) (ap (λ y. y ∷ t) q.0
        ∙ ap (λ u. 256 ∷ u) q.1) o.0 in
        let none : step b rest ≡ [] = after-param b rest lt s.1 before in
        let ih = rw none at (joined b p rest lt s.1 o.1) in
        rw (e, n, q.1, none) (last (has_slash (b ∷ p)) ih)
  ]
    where
      more : (w : Bool) → or_else (first_fit (step b rest) p)
          (cond (has_slash (b ∷ p)) None (own (step 256 rest))) ≡ first_fit rest (b ∷ p)
          → or_else (cond w (Some k) (first_fit (step b rest) p))
          (cond (has_slash (b ∷ p)) None (own (step 256 rest))) ≡ cond (w || false) (Some k)
          (first_fit rest (b ∷ p))
      more true h = refl
      more false h = h

      byte : (v : Bool) → or_else (first_fit (step b rest) p)
          (cond (has_slash (b ∷ p)) None (own (step 256 rest))) ≡ first_fit rest (b ∷ p)
          → or_else (first_fit (cond v ((t, k) ∷ step b rest) (step b rest)) p)
          (cond (has_slash (b ∷ p)) None (own (step 256 rest))) ≡ cond ((v && fits t p)
          || (false && length t == 0 && not (has_slash (b ∷ p)))) (Some k)
          (first_fit rest (b ∷ p))
      byte true h = more (fits t p) h
      byte false h = h

      last : (v : Bool) → or_else None (cond v None (own (step 256 rest))) ≡ first_fit rest (b ∷ p)
          → or_else None (cond v None (Some k)) ≡ cond (false || (true && true && not v)) (Some k)
          (first_fit rest (b ∷ p))
      last true h = h
      last false h = refl

  -- the search is the first row that fits
  pub first-fits : (rs : RowsOf K) (path : List ℕ) → AllSimple rs → Sorted rs → IsText path →
      first rs path ≡ first_fit rs path
  unfolding seek
  first-fits rs [] s o t = own-fit rs
  first-fits rs (b ∷ p) s o t =
      rw (
        first-fits (step b rs) p (step-simple b rs s) (step-sorted b rs o) t.1,
        seek-param (step param_token rs) b p (step-param rs s),
        step-catch_all rs s,
        or_else-none,
      )
      (joined b p rs t.0 s o)

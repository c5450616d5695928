-- Recipients written in their places: each put where it differs, and what stands beside the places
-- taken out. It is to deal them anew.
use Rattle.std.proofs.Common.{◌≡◌, ℕ, suc, ◌+◌, ◌<◌, ◌≤◌, Bool, true, false, true≢false, not, cond}
use Rattle.std.proofs.Common.{◌&&◌, ◌||◌, T, List, [], ◌∷◌, ◌++◌, length, Option, Some, None}
use Rattle.std.proofs.Common.{is_some, refl, sym, ap, ap₂, ◌∙◌, subst, arith, nat_cmp}
use Rattle.std.specs.Prelude.{nat_lt}
use Rattle.std.specs.declared.cmp.Ordering.{Ordering}
use Rattle.std.specs.Ordering.{eq_by_cmp}
use Rattle.std.specs.Cmp.{IsTotalOrder, eq_by_cmp_equiv, nat_cmp_total, tied_then}
use Rattle.std.specs.Cmp.Lexicographic.{nat_list_cmp_total}
use Rattle.std.specs.FinMap.{FinMap, get, insert, retain_keys, get-insert, get-retain_keys}
use Rattle.std.specs.FinMap.{same_map}
use Rattle.std.proofs.lemmas.Bool.Decides.{nat_tests}
use Rattle.std.proofs.lemmas.Map.Lookups.{CmpEqualImpliesEq, exact_bytes, exact_unsigned}
use Rattle.hq_kept.specs.declared.message.Pending.{Pending}
use Rattle.hq_tables.specs.Tables.{text_cmp, recipient_cmp, place_all, deal}
use Rattle.hq_owned.proofs.Cases.{equal}
use Rattle.hq_owned.proofs.Parts.{both_total, both_exact}
use Rattle.hq_sql_recipients.specs.Places.{is_far, is_beside}

pub recipient_total : IsTotalOrder recipient_cmp
recipient_total = both_total nat_list_cmp_total (both_total nat_cmp_total nat_cmp_total)

pub recipient_exact : CmpEqualImpliesEq recipient_cmp
recipient_exact = both_exact exact_bytes (both_exact exact_unsigned exact_unsigned)

-- what is there already need not be put
pub put_same : {K V : Type 0} {R : K → K → Ordering} (o : IsTotalOrder R)
    (exact : CmpEqualImpliesEq R) (m : FinMap R V) (k : K) (v : V) → get m k ≡ Some v →
    insert m k v ≡ m
put_same {R = R} o exact m k v there = same_map o exact _ _ (λ q. get-insert o m k v q
    ∙ go q (eq_by_cmp R q k) refl)
  where
    go : (q : _) (b : Bool) → eq_by_cmp R q k ≡ b → cond b (Some v) (get m q) ≡ get m q
    go q true e = sym there ∙ ap (get m) (sym (exact q k (equal (R q k) (subst T (sym e) tt))))
    go q false e = refl

-- what no key is taken from stays
pub keep_all : {K V : Type 0} {R : K → K → Ordering} (o : IsTotalOrder R)
    (exact : CmpEqualImpliesEq R) (m : FinMap R V) (p : K → Bool) →
    ((k : K) → p k ≡ false → get m k ≡ None) → retain_keys m p ≡ m
keep_all {R = R} o exact m p gone = same_map o exact _ _
    (λ q. get-retain_keys m p q (λ x e. ap p (sym (exact q x e))) ∙ go q (p q) refl)
  where
    go : (q : _) (b : Bool) → p q ≡ b → cond b (get m q) None ≡ get m q
    go q true e = refl
    go q false e = sym (gone q e)

abbrev pub Recipients : Type 0
Recipients = FinMap recipient_cmp Pending

abbrev Key : Type 0
Key = List ℕ × (ℕ × ℕ)

-- what the places from i on have at j
abbrev placed_at : ℕ → List Pending → ℕ → Option Pending
placed_at i [] j = None
placed_at i (p ∷ ps) j = cond (eq_by_cmp nat_cmp j i) (Some p) (placed_at (suc i) ps j)

abbrev over : Bool → Option Pending → Option Pending → Option Pending
over false o x = x
over true None x = x
over true (Some p) x = Some p

abbrev mine : List ℕ → ℕ → Key → Bool
mine c serial q = eq_by_cmp text_cmp c q.0 && eq_by_cmp nat_cmp serial q.1.0

at_place : (c : List ℕ) (serial i : ℕ) (q : Key) →
    eq_by_cmp recipient_cmp q (c, (serial, i)) ≡ (mine c serial q && eq_by_cmp nat_cmp q.1.1 i)
at_place c serial i q =
    sym (tied_then (text_cmp q.0 c) _)
    ∙ ap₂ ◌&&◌ ((eq_by_cmp_equiv nat_list_cmp_total).symm q.0 c)
    (sym (tied_then (nat_cmp q.1.0 serial) (nat_cmp q.1.1 i))
    ∙ ap (λ b. b && eq_by_cmp nat_cmp q.1.1 i)
    ((eq_by_cmp_equiv nat_cmp_total).symm q.1.0 serial))
    ∙ and_assoc (eq_by_cmp text_cmp c q.0) _ _
  where
    and_assoc : (a b d : Bool) → (a && (b && d)) ≡ ((a && b) && d)
    and_assoc true b d = refl
    and_assoc false b d = refl

-- a later place is another
later_none : (i : ℕ) (ps : List Pending) (j : ℕ) → j < i → placed_at i ps j ≡ None
later_none i [] j low = refl
later_none i (p ∷ ps) j low =
    let apart : eq_by_cmp nat_cmp j i ≡ false = grind (arith, nat_tests) in
    ap (λ b. cond b (Some p) (placed_at (suc i) ps j)) apart ∙ later_none (suc i) ps j (omega arith)

looked : (c : List ℕ) (serial i : ℕ) (ps : List Pending) (m : Recipients) (q : Key) →
    get (place_all c serial i ps m) q ≡ over (mine c serial q) (placed_at i ps q.1.1) (get m q)
looked c serial i [] m q = elim (mine c serial q) as
    (λ b. get m q ≡ over b (placed_at i [] q.1.1) (get m q)) [ true ↦ refl | false ↦ refl ]
looked c serial i (p ∷ ps) m q =
    looked c serial (suc i) ps (insert m (c, (serial, i)) p) q
    ∙ ap (over (mine c serial q) (placed_at (suc i) ps q.1.1))
    (get-insert recipient_total m (c, (serial, i)) p q ∙ ap (λ b. cond b (Some p) (get m q))
    (at_place c serial i q))
    ∙ go (mine c serial q) (eq_by_cmp nat_cmp q.1.1 i) refl
  where
    go : (b e : Bool) → eq_by_cmp nat_cmp q.1.1 i ≡ e →
        over b (placed_at (suc i) ps q.1.1) (cond (b && e) (Some p) (get m q)) ≡ over b
        (cond e (Some p) (placed_at (suc i) ps q.1.1)) (get m q)
    go false e is = refl
    go true true is =
        let here : q.1.1 ≡ i = exact_unsigned q.1.1 i
        (equal (nat_cmp q.1.1 i) (subst T (sym is) tt)) in
        ap (λ o. over true o (Some p)) (later_none (suc i) ps q.1.1 (omega (arith, here)))
    go true false is = refl

inside : (i : ℕ) (ps : List Pending) (j : ℕ) → i ≤ j → j < i + length ps →
    is_some (placed_at i ps j) ≡ true
inside i [] j low high = absurd (omega arith)
inside i (p ∷ ps) j low high = go (eq_by_cmp nat_cmp j i) refl
    (λ past. inside (suc i) ps j past (omega arith))
  where
    go : (b : Bool) → eq_by_cmp nat_cmp j i ≡ b →
        (suc i ≤ j → is_some (placed_at (suc i) ps j) ≡ true) →
        is_some (cond b (Some p) (placed_at (suc i) ps j)) ≡ true
    go true e more = refl
    go false e more = more (grind (arith, nat_tests))

outside : (i : ℕ) (ps : List Pending) (j : ℕ) → i + length ps ≤ j → placed_at i ps j ≡ None
outside i [] j high = refl
outside i (p ∷ ps) j high =
    let apart : eq_by_cmp nat_cmp j i ≡ false = grind (arith, nat_tests) in
    ap (λ b. cond b (Some p) (placed_at (suc i) ps j)) apart ∙ outside (suc i) ps j (omega arith)

-- to put the recipients at the places 1, 2, .., and then to take out what stands beside them, is to
-- deal them
pub deal_in_place : (c : List ℕ) (serial : ℕ) (ps : List Pending) (rs : Recipients) →
    retain_keys (place_all c serial 1 ps rs) (λ k. not (is_beside c serial (length ps) k)) ≡ deal c
    serial ps rs
unfolding deal
deal_in_place c serial ps rs = same_map recipient_total recipient_exact _ _ (λ q.
    get-retain_keys (place_all c serial 1 ps rs) (λ k. not (is_beside c serial (length ps) k)) q
    (λ x e. ap (λ k. not (is_beside c serial (length ps) k)) (sym (recipient_exact q x e)))
    ∙ ap (λ o. cond (not (is_beside c serial (length ps) q)) o None) (looked c serial 1 ps rs q)
    ∙ go q (mine c serial q) (nat_lt q.1.1 1 || nat_lt (length ps) q.1.1) refl
    ∙ ap (over (mine c serial q) (placed_at 1 ps q.1.1))
    (sym (get-retain_keys rs (λ k. not (mine c serial k)) q
    (λ x e. ap (λ k. not (mine c serial k)) (sym (recipient_exact q x e)))))
    ∙ sym (looked c serial 1 ps (retain_keys rs (λ k. not (mine c serial k))) q))
  where
    there : (o x y : Option Pending) → is_some o ≡ true → over true o x ≡ over true o y
    there None x y h = absurd (true≢false (sym h))
    there (Some p) x y h = refl

    go : (q : Key) (b e : Bool) → (nat_lt q.1.1 1 || nat_lt (length ps) q.1.1) ≡ e →
        cond (not (b && e)) (over b (placed_at 1 ps q.1.1) (get rs q)) None ≡ over b
        (placed_at 1 ps q.1.1) (cond (not b) (get rs q) None)
    go q false e is = refl
    go q true false is = there (placed_at 1 ps q.1.1) (get rs q) None
        (inside 1 ps q.1.1 (grind (arith, nat_tests)) (grind (arith, nat_tests)))
    go q true true is = sym (ap (λ o. over true o None) (none q is))
      where
        none : (q : Key) → (nat_lt q.1.1 1 || nat_lt (length ps) q.1.1) ≡ true →
            placed_at 1 ps q.1.1 ≡ None
        none q is = split (nat_lt q.1.1 1) refl is
          where
            split : (b : Bool) → nat_lt q.1.1 1 ≡ b → (b || nat_lt (length ps) q.1.1) ≡ true →
                placed_at 1 ps q.1.1 ≡ None
            split true e k = later_none 1 ps q.1.1 (grind (arith, nat_tests))
            split false e k = outside 1 ps q.1.1 (grind (arith, nat_tests))

-- ---- one place after another, as a loop puts them

pub place_next : (c : List ℕ) (serial i : ℕ) (ps : List Pending) (p : Pending) (rs : Recipients) →
    place_all c serial i (ps ++ p ∷ []) rs ≡ insert (place_all c serial i ps rs) (
      c,
      (serial, i + length ps),
    ) p
place_next c serial i [] p rs = ap (λ j. insert rs (c, (serial, j)) p) (omega arith)
place_next c serial i (x ∷ ps) p rs = place_next c serial (suc i) ps p
    (insert rs (c, (serial, i)) x) ∙ ap (λ j. insert
    (place_all c serial (suc i) ps (insert rs (c, (serial, i)) x)) (c, (serial, j)) p) (omega arith)

over_same : (b : Bool) (x : Option Pending) → over b None x ≡ x
over_same true x = refl
over_same false x = refl

-- at the next place stands what stood there before the loop
pub seen_next : (c : List ℕ) (serial : ℕ) (ps : List Pending) (rs : Recipients) →
    get (place_all c serial 1 ps rs) (c, (serial, 1 + length ps)) ≡ get rs (
      c,
      (serial, 1 + length ps),
    )
seen_next c serial ps rs =
    let q : Key = (c, (serial, 1 + length ps)) in
    looked c serial 1 ps rs q ∙ ap (λ o. over (mine c serial q) o (get rs q))
    (outside 1 ps (1 + length ps) (omega arith)) ∙ over_same (mine c serial q) (get rs q)

-- a recipient that stood at its place before the loop need not be put
pub skip_next : (c : List ℕ) (serial : ℕ) (ps : List Pending) (p : Pending) (rs : Recipients) →
    get rs (c, (serial, 1 + length ps)) ≡ Some p →
    place_all c serial 1 (ps ++ p ∷ []) rs ≡ place_all c serial 1 ps rs
skip_next c serial ps p rs there =
    place_next c serial 1 ps p rs
    ∙ put_same recipient_total recipient_exact (place_all c serial 1 ps rs) (
      c,
      (serial, 1 + length ps),
    ) p (seen_next c serial ps rs ∙ there)

-- ---- nothing beside

far_none : (ps : List Pending) (j : ℕ) → is_far (length ps) j ≡ true → placed_at 1 ps j ≡ None
far_none ps j is = split (nat_lt j 1) refl is
  where
    split : (b : Bool) → nat_lt j 1 ≡ b → (b || nat_lt (length ps) j) ≡ true →
        placed_at 1 ps j ≡ None
    split true e k = later_none 1 ps j (grind (arith, nat_tests))
    split false e k = outside 1 ps j (grind (arith, nat_tests))

second : (a b : Bool) → (a && b) ≡ true → b ≡ true
second true b h = h
second false b h = absurd (true≢false (sym h))

from_not : (b : Bool) → not b ≡ false → b ≡ true
from_not true h = refl
from_not false h = absurd (true≢false h)

-- where nothing stood beside the places, to put the recipients there is to deal them
pub deal_same : (c : List ℕ) (serial : ℕ) (ps : List Pending) (rs : Recipients) →
    ((k : Key) → is_beside c serial (length ps) k ≡ true → get rs k ≡ None) →
    place_all c serial 1 ps rs ≡ deal c serial ps rs
deal_same c serial ps rs gone =
    sym (keep_all recipient_total recipient_exact (place_all c serial 1 ps rs)
    (λ k. not (is_beside c serial (length ps) k)) (λ k h.
    let beside = from_not (is_beside c serial (length ps) k) h in
    looked c serial 1 ps rs k ∙ ap (over (mine c serial k) (placed_at 1 ps k.1.1)) (gone k beside)
    ∙ ap (λ o. over (mine c serial k) o None)
    (far_none ps k.1.1 (second (mine c serial k) (is_far (length ps) k.1.1) beside))
    ∙ over_same (mine c serial k) None))
    ∙ deal_in_place c serial ps rs

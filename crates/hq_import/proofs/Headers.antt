-- Comparing a header field by field.
use Rattle.std.proofs.Common.{Bor, map, ◌≡◌, ◌≢◌, ℕ, zero, suc, ◌+◌, Bool, true, false, ◌&&◌, not}
use Rattle.std.proofs.Common.{List, [], ◌∷◌, length, drop, bytes_eq, Some, None, refl, sym, ap}
use Rattle.std.proofs.Common.{arith}
use Rattle.std.proofs.lemmas.List.{drop_all}
use native.Mathlib.Numerals.{unary_clauses}
use Rattle.std.specs.Cmp.Lexicographic.{pointwise}
use Rattle.csv.specs.Records.{field_at}

and_false : (t : Bool) → t && false ≡ false
and_false t = elim t as (λ t. t && false ≡ false) [ true ↦ refl | false ↦ refl ]

-- lists of other lengths are no headers of each other
pub lengths_differ : (names fields : List (List ℕ)) → length names ≢ length fields →
    pointwise bytes_eq names fields ≡ false
lengths_differ [] [] h = absurd (h refl)
lengths_differ [] (f ∷ fs) h = refl
lengths_differ (n ∷ ns) [] h = refl
lengths_differ (n ∷ ns) (f ∷ fs) h = rw (lengths_differ ns fs (λ e. h (ap suc e)))
    (and_false (bytes_eq n f))

-- the field at a place begins what is left from there on
begins : (fields : List (List ℕ)) (place : ℕ) (field : List ℕ) → field_at fields place ≡ Some field
    → drop place fields ≡ field ∷ drop (suc place) fields
unfolding field_at
begins [] place field h = absurd (nothing h)
  where
    nothing : None ≡ Some field → ⊥
    nothing e = cc
begins (f ∷ fields) zero field h = ap (λ g. g ∷ fields) (given h)
  where
    given : Some f ≡ Some field → f ≡ field
    given e = cc
begins (f ∷ fields) (suc place) field h = begins fields place field h

pub field_first : (fields : List (List ℕ)) (place : ℕ) (field : List ℕ) →
    field_at fields place ≡ Some field → drop place fields ≡ field ∷ drop (place + 1) fields
field_first fields place field h = simp unary_clauses (begins fields place field h)

-- where no field is at a place, none is left from there on
pub no_field : (fields : List (List ℕ)) (place : ℕ) → field_at fields place ≡ None →
    drop place fields ≡ []
unfolding field_at
no_field [] place h = drop_all place [] (omega arith)
no_field (f ∷ fields) zero h = absurd (nothing h)
  where
    nothing : Some f ≡ None → ⊥
    nothing e = cc
no_field (f ∷ fields) (suc place) h = no_field fields place h

-- a name that is the field at its place leaves the rest to decide
pub same_goes_on : (names : List (Bor (List ℕ))) (fields : List (List ℕ)) (place : ℕ)
    (name : Bor (List ℕ)) (field : List ℕ) → drop place names ≡ name ∷ drop (place + 1) names →
    field_at fields place ≡ Some field → bytes_eq name.now field ≡ true
    → pointwise bytes_eq (map (λ n. n.now) (drop (place + 1) names)) (drop (place + 1) fields) ≡
    pointwise bytes_eq (map (λ n. n.now) (drop place names)) (drop place fields)
same_goes_on names fields place name field left at same =
    rw (left, field_first fields place field at, same) refl

-- another name decides
pub other_decides : (names : List (Bor (List ℕ))) (fields : List (List ℕ)) (place : ℕ)
    (name : Bor (List ℕ)) (field : List ℕ) → drop place names ≡ name ∷ drop (place + 1) names →
    field_at fields place ≡ Some field → bytes_eq name.now field ≡ false
    → pointwise bytes_eq (map (λ n. n.now) (drop place names)) (drop place fields) ≡ false
other_decides names fields place name field left at other =
    rw (left, field_first fields place field at, other) refl

-- a name with no field decides
pub none_decides : (names : List (Bor (List ℕ))) (fields : List (List ℕ)) (place : ℕ)
    (name : Bor (List ℕ)) → drop place names ≡ name ∷ drop (place + 1) names →
    field_at fields place ≡ None
    → pointwise bytes_eq (map (λ n. n.now) (drop place names)) (drop place fields) ≡ false
none_decides names fields place name left at = rw (left, no_field fields place at) refl

pub told_apart : (t : Bool) → not t ≡ true → t ≡ false
told_apart true h = sym h
told_apart false h = refl

pub told_same : (t : Bool) → not t ≡ false → t ≡ true
told_same true h = refl
told_same false h = sym h

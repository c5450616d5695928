-- An element of a list: the first or one of the others, or one at an index.
use Rattle.std.proofs.Common.{◌≡◌, ◌⊎◌, inl, inr, ℕ, zero, suc, ◌<◌, List, [], ◌∷◌, length, sym}
use Rattle.std.proofs.Common.{arith}
use Rattle.std.specs.Prelude.{slice_index_or}
use Rattle.std.specs.List.{Contains}

abbrev pub Among : {A : Type 0} → A → List A → Type 0
Among x [] = ⊥
Among x (y ∷ ys) = (x ≡ y) ⊎ Among x ys

pub contained : {A : Type 0} (x : A) (xs : List A) → Among x xs → Contains xs x
contained x [] h = absurd h
contained x (y ∷ ys) (inl same) = (0, omega arith, sym same)
contained x (y ∷ ys) (inr there) =
    let rest = contained x ys there in
    let short : rest.0 < length ys = rest.1 in
    (suc rest.0, omega (arith, short), rest.2)

pub among : {A : Type 0} (x : A) (xs : List A) → Contains xs x → Among x xs
among x [] h = absurd (none h.0 h.1) where
  none : (k : ℕ) → k < 0 → ⊥
  none k h = omega arith
among x (y ∷ ys) h = at (among x ys) h.0 h.1 h.2 where
  at : (Contains ys x → Among x ys) → (k : ℕ) → k < length (y ∷ ys) →
      slice_index_or (y ∷ ys) k x ≡ x → Among x (y ∷ ys)
  at rest zero short same = inl (sym same)
  at rest (suc k) short same = inr (rest (k, omega arith, same))

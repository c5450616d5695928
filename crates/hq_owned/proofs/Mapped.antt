-- Lists counted before or after a function on their elements.
use Rattle.std.proofs.Common.{◌≡◌, ℕ, suc, ◌+◌, List, [], ◌∷◌, map, length, refl, sym, ap, ◌∙◌}
use Rattle.std.specs.List.{sum_by}
use Rattle.std.proofs.lemmas.List.Sums.{sum_by-cons}

module _ {X Y : Type 0} (f : X → Y) where
  pub same_length : (xs : List X) → length (map f xs) ≡ length xs
  same_length [] = refl
  same_length (x ∷ xs) = ap (λ n. suc n) (same_length xs)

  pub same_sum : (weight : Y → ℕ) (xs : List X) →
      sum_by weight (map f xs) ≡ sum_by (λ x. weight (f x)) xs
  same_sum weight [] = refl
  same_sum weight (x ∷ xs) = sum_by-cons weight (f x) (map f xs)
      ∙ ap (λ n. weight (f x) + n) (same_sum weight xs) ∙ sym (sum_by-cons (λ x. weight (f x)) x xs)

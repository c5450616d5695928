-- Folding twice is folding once.
use Rattle.std.proofs.Common.{◌≡◌, ℕ, List, [], ◌∷◌, refl, ap, ◌∙◌}
use Rattle.std.specs.Char.{to_ascii_lowercase}
use Rattle.std.proofs.lemmas.Str.Ascii.{lowercase-lowercase}
use Rattle.hq_values.specs.Addresses.{folded}

pub folded_twice : (bytes : List ℕ) → folded (folded bytes) ≡ folded bytes
folded_twice [] = refl
folded_twice (b ∷ bytes) = ap (λ x. x ∷ folded (folded bytes)) (lowercase-lowercase b)
    ∙ ap (λ t. to_ascii_lowercase b ∷ t) (folded_twice bytes)

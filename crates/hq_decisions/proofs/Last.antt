-- The last of some ends.
use Rattle.std.proofs.Common.{◌≡◌, ℕ, zero, suc, List, [], ◌∷◌, length, get_or, Option, Some, sym}
use Rattle.std.proofs.Common.{ap}
use Rattle.std.proofs.Common.{arith}
use Rattle.std.specs.List.{last_or}
use Rattle.hq_kept.specs.declared.end.End.{End}

pub last_is : (n : ℕ) (es : List End) (e : End) (o : Option End) → length es ≡ suc n →
    e ≡ get_or es n e → last_or o es ≡ Some e
last_is n [] e o h g = absurd (omega arith)
last_is zero (x ∷ []) e o h g = ap (λ (k : End). Some k) (sym g)
last_is (suc n) (x ∷ []) e o h g = absurd (omega arith)
last_is zero (x ∷ y ∷ es) e o h g = absurd (omega arith)
last_is (suc n) (x ∷ y ∷ es) e o h g = last_is n (y ∷ es) e (Some x) (omega arith) g

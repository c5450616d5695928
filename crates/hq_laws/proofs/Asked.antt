-- A call by hundreds asks somebody, and a hundred at most.
use Rattle.std.proofs.Common.{◌≡◌, ℕ, zero, suc, ◌≤◌, List, [], ◌∷◌, length, ap, arith}
use Rattle.std.specs.Prelude.{take}
use Rattle.hq_kept.specs.declared.account.Customer.{Customer}

pub asks_some : (xs : List Customer) (c : Customer) (more : List Customer) → xs ≡ c ∷ more →
    (rest : List Customer) × (take 100 xs ≡ c ∷ rest)
asks_some xs c more h = (take 99 more, ap (take 100) h)

pub asks_few : (n : ℕ) (xs : List Customer) → length (take n xs) ≤ n
asks_few zero xs = grind arith
asks_few (suc n) [] = grind arith
asks_few (suc n) (x ∷ xs) = let rest = asks_few n xs in omega arith

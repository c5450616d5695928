-- Numbers of few digits are small.
use Rattle.std.proofs.Common.{◌<◌, ◌≤◌, ◌^◌, ℕ, arith, lit<}
use Rattle.std.proofs.Math.Nat.{pow-le-pow_right}

-- what fewer than 13 digits write has at most 12
pub below_all : (n digits : ℕ) → n < 10 ^ digits → digits < 13 → n < 1000000000000
below_all n digits small few =
    let most : 10 ^ digits ≤ 10 ^ 12 =
    pow-le-pow_right {n = 10} (lit< tt) {i = digits} {j = 12} (omega arith) in
    omega arith

-- Which numbers are statuses.
use Rattle.std.proofs.Common.{◌≡◌, ℕ, true, false, ◌&&◌, nat_le, nat_lt, arith}
use Rattle.std.proofs.lemmas.Bool.Decides.{nat_tests}
use Rattle.http.specs.StatusCode.{IsStatusCode}

pub is_status : (n : ℕ) → IsStatusCode n → (nat_le 100 n && nat_lt n 1000) ≡ true
is_status n h = grind (arith, nat_tests)

pub is_no_status : (n : ℕ) → (IsStatusCode n → ⊥) → (nat_le 100 n && nat_lt n 1000) ≡ false
is_no_status n h = grind (arith, nat_tests)

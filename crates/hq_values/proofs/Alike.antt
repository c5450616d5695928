-- The test of sameness decides whether the folded texts are equal.
use Rattle.std.proofs.Common.{◌≡◌, ℕ, Bool, true, false, List, sym, refl, ap, ◌∙◌}
use Rattle.std.specs.Prelude.{IsTrue, ◌↔◌}
use Rattle.std.specs.Ordering.{nat_cmp, eq_by_cmp}
use Rattle.std.specs.Cmp.Lexicographic.{slice_cmp, nat_list_cmp_total}
use Rattle.std.proofs.lemmas.Bool.{false≢true}
use Rattle.std.proofs.lemmas.Cmp.{eq_by_cmp_equiv}
use Rattle.std.proofs.lemmas.Map.Lookups.{exact_bytes}
use Rattle.std.proofs.lemmas.Map.Views.{tells_apart}
use Rattle.hq_values.specs.Addresses.{folded, same_address}

-- an address is the same as itself
same_itself : (a : List ℕ) → same_address a a ≡ true
same_itself a = (eq_by_cmp_equiv nat_list_cmp_total).refl (folded a)

-- an answer that holds exactly where the folded texts are equal is that of the test
pub same_is : (r : Bool) (a b : List ℕ) → (IsTrue r ↔ (folded a ≡ folded b)) → r ≡ same_address a b
same_is true a b h = sym (ap (λ x. eq_by_cmp (slice_cmp nat_cmp) (folded a) x) (sym (h.0 refl))
    ∙ same_itself a)
same_is false a b h = cases (same_address a b) refl where
  cases : (s : Bool) → same_address a b ≡ s → false ≡ s
  cases true e = absurd (false≢true (h.1 (tells_apart exact_bytes (folded a) (folded b) e)))
  cases false e = refl

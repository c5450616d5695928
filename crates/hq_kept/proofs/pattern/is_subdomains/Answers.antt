use Rattle.std.proofs.Common.{◌≡◌, ◌≢◌, ℕ, Bool, true, false, ◌&&◌, List, [], ◌∷◌, refl, sym, ap}
use Rattle.std.proofs.Common.{arith, eqb}
use Rattle.std.proofs.lemmas.Bool.Decides.{nat_tests}
use Rattle.hq_values.specs.Addresses.{is_domain}
use Rattle.hq_kept.specs.Patterns.{is_subdomains}
use Rattle.hq_kept.proofs.pattern.is_subdomains.Goals as goal

-- a text that does not begin with a dot
no_dot_first : (text : List ℕ) → ((rest : List ℕ) → text ≢ 46 ∷ rest) → is_subdomains text ≡ false
no_dot_first [] none = refl
no_dot_first (b ∷ bytes) none = by (eqb b 46) refl where
  by : (t : Bool) → eqb b 46 ≡ t → (t && is_domain bytes) ≡ false
  by true e = let is : b ≡ 46 = grind (arith, nat_tests) in
      absurd (none bytes (ap (λ x. x ∷ bytes) is))
  by false e = refl

pub returns-in-None : goal.returns-in-None
unfolding lib.Utf8.encode
returns-in-None c = sym (no_dot_first c.args.text.now c.in-None.ensures.cases)

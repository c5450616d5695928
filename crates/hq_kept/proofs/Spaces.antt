-- What `trim_start_matches` and `trim_end_matches` give at a space.
use Rattle.std.proofs.Common.{◌≡◌, ◌≢◌, ℕ, ◌-◌, Bool, true, false, cond, List, [], ◌∷◌, ◌++◌}
use Rattle.std.proofs.Common.{length, take, Option, Some, None, refl, sym, ap, ◌∙◌, arith, eqb}
use Rattle.std.proofs.Common.{lit<, reverse}
use Rattle.std.specs.Option.{IfSome}
use Rattle.std.specs.Str.Pattern.{FindsCharPrefix, FindsCharSuffix, CutsPrefixes, CutsSuffixes}
use Rattle.std.specs.Str.Pattern.{IsTrimStartMatches, IsTrimEndMatches}
use Rattle.std.proofs.lemmas.List.{take-append-drop, drop_all, reverse-append, reverse-reverse}
use Rattle.std.proofs.lemmas.Str.Pattern.{drop_at_char}
use Rattle.std.proofs.lemmas.Bool.Decides.{nat_tests}
use Rattle.hq_kept.specs.Actions.{skip_spaces, drop_spaces}

-- a space that is cut off the front was skipped
cut_front : (ns : List ℕ) (s r : List ℕ) → CutsPrefixes (FindsCharPrefix 32) s ns r →
    skip_spaces r ≡ skip_spaces s
cut_front [] s r h = ap skip_spaces h
cut_front (n ∷ ns) s r h = ap skip_spaces h.3
    ∙ sym (ap skip_spaces (drop_at_char 32 h.0 0 n h.2 (lit< tt))) ∙ cut_front ns s h.0 h.1

-- what does not begin with a space stays
no_space_first : (r : List ℕ) → ((rest : List ℕ) → r ≢ 32 ∷ rest) → skip_spaces r ≡ r
no_space_first [] none = refl
no_space_first (b ∷ bytes) none = by (eqb b 32) refl where
  by : (t : Bool) → eqb b 32 ≡ t → cond t (skip_spaces bytes) (b ∷ bytes) ≡ b ∷ bytes
  by true e = let is : b ≡ 32 = grind (arith, nat_tests) in
      absurd (none bytes (ap (λ x. x ∷ bytes) is))
  by false e = refl

front_is_cut : (r : List ℕ) (o : Option ℕ) → FindsCharPrefix 32 r o → IfSome o (λ n. n ≡ 0) →
    skip_spaces r ≡ r
unfolding lib.Utf8.encode
front_is_cut r None none zero_long = no_space_first r none
front_is_cut r (Some n) found zero_long = let no : ⊥ = omega (arith, found.ends, zero_long) in
    absurd no

pub skip_spaces_is : (s r : List ℕ) → IsTrimStartMatches (FindsCharPrefix 32) s r →
    r ≡ skip_spaces s
skip_spaces_is s r h = sym (front_is_cut r h.1.0 h.1.1 h.1.2) ∙ cut_front h.0.0 s r h.0.1

-- a text that ends with a space
last_space : (m : List ℕ) (n : ℕ) → FindsCharSuffix 32 m (Some n) → m ≡ take (length m - n) m ++ 32
    ∷ []
last_space m n found =
    sym (take-append-drop (length m - n) m)
    ∙ ap (λ t. take (length m - n) m ++ t)
    (drop_at_char 32 m (length m - n) (length m) found.1 (lit< tt)
    ∙ ap (λ t. 32 ∷ t) (drop_all (length m) m (omega arith)))

-- a space at the end is dropped
drop_last : (front : List ℕ) → drop_spaces (front ++ 32 ∷ []) ≡ drop_spaces front
drop_last front = ap (λ t. reverse (skip_spaces t)) (reverse-append front (32 ∷ []))

cut_back : (ns : List ℕ) (s r : List ℕ) → CutsSuffixes (FindsCharSuffix 32) s ns r →
    drop_spaces r ≡ drop_spaces s
cut_back [] s r h = ap drop_spaces h
cut_back (n ∷ ns) s r h =
    ap drop_spaces h.3 ∙ sym (drop_last (take (length h.0 - n) h.0))
    ∙ sym (ap drop_spaces (last_space h.0 n h.2)) ∙ cut_back ns s h.0 h.1

-- what does not end with a space stays
no_space_last : (r : List ℕ) → ((front : List ℕ) → r ≢ front ++ 32 ∷ []) → drop_spaces r ≡ r
no_space_last r none =
    ap reverse (no_space_first (reverse r) (λ rest e. none (reverse rest) (sym (reverse-reverse r)
    ∙ ap reverse e ∙ reverse-append (32 ∷ []) rest)))
    ∙ reverse-reverse r

back_is_cut : (r : List ℕ) (o : Option ℕ) → FindsCharSuffix 32 r o → IfSome o (λ n. n ≡ 0) →
    drop_spaces r ≡ r
unfolding lib.Utf8.encode
back_is_cut r None none zero_long = no_space_last r none
back_is_cut r (Some n) found zero_long = let no : ⊥ = omega (arith, found.0, zero_long) in absurd no

pub drop_spaces_is : (s r : List ℕ) → IsTrimEndMatches (FindsCharSuffix 32) s r → r ≡ drop_spaces s
drop_spaces_is s r h = sym (back_is_cut r h.1.0 h.1.1 h.1.2) ∙ cut_back h.0.0 s r h.0.1

-- What `rsplit_once` at a slash gives is the last segment.
use Rattle.std.proofs.Common.{◌≡◌, ◌≢◌, ℕ, suc, ◌<◌, List, [], ◌∷◌, ◌++◌, length, get_or, Option}
use Rattle.std.proofs.Common.{Some, None, Bool, true, false, cond, eqb, refl, sym, ap, ◌∙◌, subst}
use Rattle.std.proofs.Common.{arith, Bor, lit<}
use Rattle.std.specs.Option.{MatchOption}
use Rattle.std.specs.Str.{NoCharPasses}
use Rattle.std.specs.Str.Pattern.{RFindsChar, SplitsAroundMatch}
use Rattle.std.proofs.lemmas.List.{take-append-drop}
use Rattle.std.proofs.lemmas.Str.Pattern.{NoCharPasses-char, drop_at_char}
use Rattle.std.proofs.lemmas.Bool.Decides.{nat_tests}
use Rattle.matchit.specs.Seek.{has_slash}
use Rattle.hq_requests.specs.Routes.{last_segment}

-- where no byte is a slash
abbrev pub HasNone : List ℕ → Type 0
HasNone bytes = (i : ℕ) → i < length bytes → get_or bytes i 0 ≢ 47

tail_has_none : (b : ℕ) (bytes : List ℕ) → HasNone (b ∷ bytes) → HasNone bytes
tail_has_none b bytes h i below = h (suc i) (omega arith)

has_no_slash : (bytes : List ℕ) → HasNone bytes → has_slash bytes ≡ false
has_no_slash [] h = refl
has_no_slash (b ∷ bytes) h =
    let other : b ≢ 47 = h 0 (omega arith) in
    let test : eqb b 47 ≡ false = grind (arith, nat_tests) in
    ap (λ t. cond t true (has_slash bytes)) test ∙ has_no_slash bytes (tail_has_none b bytes h)

pub segment_whole : (bytes : List ℕ) → HasNone bytes → last_segment bytes ≡ bytes
segment_whole [] h = refl
segment_whole (b ∷ bytes) h = ap (λ t. cond t (last_segment bytes) (b ∷ bytes))
    (has_no_slash (b ∷ bytes) h)

has_a_slash : (front back : List ℕ) → has_slash (front ++ 47 ∷ back) ≡ true
has_a_slash [] back = refl
has_a_slash (b ∷ front) back = ap (λ t. cond (eqb b 47) true t) (has_a_slash front back)
    ∙ either (eqb b 47) where
      either : (t : Bool) → cond t true true ≡ true
      either true = refl
      either false = refl

pub segment_at : (front back : List ℕ) → HasNone back → last_segment (front ++ 47 ∷ back) ≡ back
segment_at [] back h = ap (λ t. cond t (last_segment back) (47 ∷ back)) (has_a_slash [] back)
    ∙ segment_whole back h
segment_at (b ∷ front) back h = ap (λ t. cond t (last_segment (front ++ 47 ∷ back)) (b ∷ front ++ 47
    ∷ back)) (has_a_slash (b ∷ front) back) ∙ segment_at front back h

pub segment_from_rsplit : (bytes : List ℕ) (r : Option (Bor (List ℕ) × Bor (List ℕ))) →
    MatchOption r (RFindsChar 47 bytes None)
    (λ x. SplitsAroundMatch (RFindsChar 47) bytes x.0.now x.1.now) →
    MatchOption r (last_segment bytes ≡ bytes) (λ x. last_segment bytes ≡ x.1.now)
segment_from_rsplit bytes None h = segment_whole bytes
    (λ i below. NoCharPasses-char 47 bytes i h (lit< tt) below)
segment_from_rsplit bytes (Some x) h =
    let whole : bytes ≡ x.0.now ++ 47 ∷ x.1.now = sym (take-append-drop h.0 bytes)
    ∙ rw (drop_at_char 47 bytes h.0 h.1 h.2.1 (lit< tt), ← h.3, ← h.4) refl in
    let none : HasNone x.1.now = λ i below. NoCharPasses-char 47 x.1.now i
    (subst (λ (s : List ℕ). NoCharPasses (λ d. eqb d 47) s) (sym h.4) h.2.0) (lit< tt) below in
    ap last_segment whole ∙ segment_at x.0.now x.1.now none

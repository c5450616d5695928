-- What `rsplit_once` at an @ gives is `parts_of`.
use Rattle.std.proofs.Common.{◌≡◌, ◌≢◌, ℕ, suc, ◌<◌, List, [], ◌∷◌, ◌++◌, length, get_or, Option}
use Rattle.std.proofs.Common.{Some, None, refl, sym, ap, ◌∙◌, subst, arith, eqb, cond, false, Bor}
use Rattle.std.proofs.Common.{lit<}
use Rattle.std.specs.Option.{MatchOption}
use Rattle.std.specs.Str.{NoCharPasses}
use Rattle.std.specs.Str.Pattern.{RFindsChar, SplitsAroundMatch}
use Rattle.std.proofs.lemmas.List.{take-append-drop}
use Rattle.std.proofs.lemmas.Str.Pattern.{NoCharPasses-char, drop_at_char}
use Rattle.std.proofs.lemmas.Bool.Decides.{nat_tests}
use Rattle.hq_values.specs.Addresses.{last_at, parts_of}

-- where no byte is an @
abbrev pub HasNoAt : List ℕ → Type 0
HasNoAt bytes = (i : ℕ) → i < length bytes → get_or bytes i 0 ≢ 64

tail_has_none : (b : ℕ) (bytes : List ℕ) → HasNoAt (b ∷ bytes) → HasNoAt bytes
tail_has_none b bytes h i below = h (suc i) (omega arith)

pub parts_of_none : (bytes : List ℕ) → HasNoAt bytes → parts_of bytes ≡ None
parts_of_none [] h = refl
parts_of_none (b ∷ bytes) h =
    let other : b ≢ 64 = h 0 (omega arith) in
    let test : eqb b 64 ≡ false = grind (arith, nat_tests) in
    ap (λ o. last_at b o bytes) (parts_of_none bytes (tail_has_none b bytes h))
    ∙ ap (λ t. cond t (Some ([], bytes)) None) test

pub parts_of_at : (front back : List ℕ) → HasNoAt back →
    parts_of (front ++ 64 ∷ back) ≡ Some (front, back)
parts_of_at [] back h = ap (λ o. last_at 64 o back) (parts_of_none back h)
parts_of_at (b ∷ front) back h = ap (λ o. last_at b o (front ++ 64 ∷ back))
    (parts_of_at front back h)

pub parts_from_rsplit : (bytes : List ℕ) (r : Option (Bor (List ℕ) × Bor (List ℕ))) →
    MatchOption r (RFindsChar 64 bytes None)
    (λ x. SplitsAroundMatch (RFindsChar 64) bytes x.0.now x.1.now) →
    MatchOption r (parts_of bytes ≡ None) (λ x. parts_of bytes ≡ Some (x.0.now, x.1.now))
parts_from_rsplit bytes None h = parts_of_none bytes
    (λ i below. NoCharPasses-char 64 bytes i h (lit< tt) below)
parts_from_rsplit bytes (Some x) h =
    let whole : bytes ≡ x.0.now ++ 64 ∷ x.1.now = sym (take-append-drop h.0 bytes)
    ∙ rw (drop_at_char 64 bytes h.0 h.1 h.2.1 (lit< tt), ← h.3, ← h.4) refl in
    let none : HasNoAt x.1.now = λ i below. NoCharPasses-char 64 x.1.now i
    (subst (λ (s : List ℕ). NoCharPasses (λ d. eqb d 64) s) (sym h.4) h.2.0) (lit< tt) below in
    ap parts_of whole ∙ parts_of_at x.0.now x.1.now none

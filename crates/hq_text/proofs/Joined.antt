-- Texts made of lines, line after line.
use Rattle.std.proofs.Common.{◌≡◌, ℕ, ◌+◌, ◌<◌, List, [], ◌∷◌, ◌++◌, length, map, take, get_or}
use Rattle.std.proofs.Common.{refl, sym, ap, ◌∙◌, append_assoc, append-nil}
use Rattle.std.specs.List.{flat_map}
use Rattle.std.proofs.lemmas.List.{flat_map_more, take_more}
use Rattle.std.proofs.lemmas.List.Concat.{flat_map_single}
use Rattle.std.proofs.lemmas.Grind.{flat_map-append}
use Rattle.hq_rules.specs.TextLines.{text_of}

pub text_of-nil : (end : List ℕ) → text_of end [] ≡ []
unfolding text_of
text_of-nil end = refl

pub text_of-cons : (end line : List ℕ) (lines : List (List ℕ)) →
    text_of end (line ∷ lines) ≡ (line ++ end) ++ text_of end lines
unfolding text_of
text_of-cons end line lines = refl

pub text_of-append : (end : List ℕ) (xs ys : List (List ℕ)) →
    text_of end (xs ++ ys) ≡ text_of end xs ++ text_of end ys
unfolding text_of
text_of-append end xs ys = flat_map-append _ xs ys

-- no line was added
pub no_line : (end old : List ℕ) → old ≡ old ++ text_of end []
no_line end old = sym (ap (λ text. old ++ text) (text_of-nil end) ∙ append-nil old)

-- a line was added, and then lines
pub line_then : (end old mid new shown line : List ℕ) (lines : List (List ℕ)) → mid ≡ old
    ++ (shown ++ end) → shown ≡ line → new ≡ mid ++ text_of end lines
    → new ≡ old ++ text_of end (line ∷ lines)
line_then end old mid new shown line lines first is second =
    second ∙ ap (λ text. text ++ text_of end lines) (first ∙ ap (λ x. old ++ (x ++ end)) is)
    ∙ append_assoc old (line ++ end) (text_of end lines)
    ∙ ap (λ text. old ++ text) (sym (text_of-cons end line lines))

-- a line of a name and a value was added, and then lines
pub field_then : (end old mid new name value shown : List ℕ) (lines : List (List ℕ)) → mid ≡ old
    ++ (name ++ shown ++ end) → shown ≡ value → new ≡ mid ++ text_of end lines
    → new ≡ old ++ text_of end ((name ++ value) ∷ lines)
field_then end old mid new name value shown lines first is second =
    line_then end old mid new (name ++ shown) (name ++ value) lines first (ap (λ x. name ++ x) is)
    second

-- lines were added, and then others
pub lines_then : (end old mid new : List ℕ) (xs ys : List (List ℕ)) → mid ≡ old ++ text_of end xs →
    new ≡ mid ++ text_of end ys → new ≡ old ++ text_of end (xs ++ ys)
lines_then end old mid new xs ys first second =
    second ∙ ap (λ text. text ++ text_of end ys) first
    ∙ append_assoc old (text_of end xs) (text_of end ys)
    ∙ ap (λ text. old ++ text) (sym (text_of-append end xs ys))

-- the lines of one more value behind those of the values before it
pub one_more : {X : Type 0} (end old new : List ℕ) (before : List (List ℕ)) (f : X → List (List ℕ))
    (xs : List X) (i : ℕ) (x : X)
    → i < length xs → x ≡ get_or xs i x → old ≡ text_of end (before ++ flat_map f (take i xs)) →
    new ≡ old ++ text_of end (f x) → new ≡ text_of end (before ++ flat_map f (take (i + 1) xs))
one_more end old new before f xs i x below is first second =
    second ∙ ap (λ text. text ++ text_of end (f x)) first
    ∙ sym (text_of-append end (before ++ flat_map f (take i xs)) (f x))
    ∙ ap (text_of end) (flat_map_more f before (take i xs) x
    ∙ ap (λ ys. before ++ flat_map f ys) (ap (λ y. take i xs ++ y ∷ []) is
    ∙ sym (take_more xs i x below)))

-- the same where each value has one line
pub one_line_more : {X : Type 0} (end old new : List ℕ) (before : List (List ℕ)) (f : X → List ℕ)
    (xs : List X) (i : ℕ) (x : X)
    → i < length xs → x ≡ get_or xs i x → old ≡ text_of end (before ++ map f (take i xs)) →
    new ≡ old ++ (f x ++ end) → new ≡ text_of end (before ++ map f (take (i + 1) xs))
one_line_more {X} end old new before f xs i x below is first second =
    let single = λ (ys : List X). ap (λ lines. text_of end (before ++ lines)) (flat_map_single f ys)
    in
    let line = second ∙ ap (λ text. old ++ text) (sym (append-nil (f x ++ end))
    ∙ sym (text_of-cons end (f x) [] ∙ ap (λ text. (f x ++ end) ++ text) (text_of-nil end))) in
    one_more end old new before (λ y. f y ∷ []) xs i x below is (first ∙ sym (single (take i xs)))
    line ∙ single (take (i + 1) xs)

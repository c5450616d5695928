-- Lines without a CR in them are told by their text.
use Rattle.std.proofs.Common.{◌≡◌, ℕ, true, List, [], ◌∷◌, ◌++◌, length, refl, sym, ap, ◌∙◌}
use Rattle.std.proofs.Common.{append_assoc, arith}
use Rattle.std.specs.List.{list_all}
use Rattle.std.proofs.lemmas.Bool.{false≢true}
use Rattle.std.proofs.lemmas.List.{length-append}
use Rattle.hq_values.specs.Words.{is_text_byte}
use Rattle.hq_rules.specs.TextLines.{crlf, text_of}
use Rattle.hq_text.proofs.Joined.{text_of-nil, text_of-cons}
use Rattle.hq_text.proofs.Printed.{both, is_printed}

pub heads_same : {X : Type 0} (a b : X) (xs ys : List X) → ◌≡◌ {A = List X} (a ∷ xs) (b ∷ ys) →
    (a ≡ b) × (xs ≡ ys)
heads_same a b xs ys e = (cc, cc)

-- a CR is no byte of a line
not_cr : (b : ℕ) → is_text_byte b ≡ true → b ≡ 13 → ⊥
not_cr b h e = false≢true (ap is_text_byte (sym e) ∙ h)

line_parted : (x y more others : List ℕ) → is_printed x ≡ true → is_printed y ≡ true → x
    ++ (13 ∷ more) ≡ y ++ (13 ∷ others) → (x ≡ y) × (more ≡ others)
line_parted [] [] more others h k e = (refl, (heads_same _ _ _ _ e).1)
line_parted [] (b ∷ y) more others h k e =
    absurd (not_cr b (both (is_text_byte b) (is_printed y) k).0 (sym (heads_same _ _ _ _ e).0))
line_parted (a ∷ x) [] more others h k e =
    absurd (not_cr a (both (is_text_byte a) (is_printed x) h).0 (heads_same _ _ _ _ e).0)
line_parted (a ∷ x) (b ∷ y) more others h k e =
    let same = heads_same _ _ _ _ e in
    let rest = line_parted x y more others (both (is_text_byte a) (is_printed x) h).1
    (both (is_text_byte b) (is_printed y) k).1 same.1 in
    (ap (λ c. c ∷ x) same.0 ∙ ap (λ z. b ∷ z) rest.0, rest.1)

-- a text of lines begins with its first line
begins : (line : List ℕ) (lines : List (List ℕ)) → text_of crlf (line ∷ lines) ≡ line
    ++ (13 ∷ 10 ∷ text_of crlf lines)
begins line lines = text_of-cons crlf line lines ∙ append_assoc line crlf (text_of crlf lines)

none_is_some : (line : List ℕ) (lines : List (List ℕ)) →
    text_of crlf [] ≡ text_of crlf (line ∷ lines) → ⊥
none_is_some line lines e =
    let long : length {A = ℕ} [] ≡ length (line ++ (13 ∷ 10 ∷ text_of crlf lines)) =
    ap length (sym (text_of-nil crlf) ∙ e ∙ begins line lines) in
    omega (arith, length-append line (13 ∷ 10 ∷ text_of crlf lines), long)

-- printable lines of one text are the same lines
pub parted : (xs ys : List (List ℕ)) → list_all is_printed xs ≡ true → list_all is_printed ys ≡ true
    → text_of crlf xs ≡ text_of crlf ys → xs ≡ ys
parted [] [] h k e = refl
parted [] (y ∷ ys) h k e = absurd (none_is_some y ys e)
parted (x ∷ xs) [] h k e = absurd (none_is_some x xs (sym e))
parted (x ∷ xs) (y ∷ ys) h k e =
    let first = both (is_printed x) (list_all is_printed xs) h in
    let second = both (is_printed y) (list_all is_printed ys) k in
    let same = line_parted x y _ _ first.0 second.0 (sym (begins x xs) ∙ e ∙ begins y ys) in
    let rest = parted xs ys first.1 second.1 (heads_same _ _ _ _ same.1).1 in
    ap (λ z. z ∷ xs) same.0 ∙ ap (λ zs. y ∷ zs) rest

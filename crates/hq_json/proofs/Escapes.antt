-- A text is escaped run by run: bytes that stand for themselves, and then one that does not.
use Rattle.std.proofs.Common.{◌≡◌, ◌<◌, ◌≤◌, ◌+◌, ◌-◌, ℕ, true, List, [], ◌∷◌, ◌++◌, length}
use Rattle.std.proofs.Common.{take, drop, get_or, sym, ap, ◌∙◌, arith, append_assoc}
use Rattle.std.proofs.Common.{◌||◌, ◌==◌}
use Rattle.std.proofs.lemmas.List.{take_more, drop_more, get_or-drop, length-drop}
use Rattle.std.proofs.lemmas.Bool.{or_parts, not-true, eqb-false, ltb-false}
use Rattle.json.specs.Print.{escape, escape_byte}
use Rattle.json.specs.Run.{is_plain}
use Rattle.json.proofs.Printed.Strings.{escape_byte_plain}

stands : (x : ℕ) → is_plain x ≡ true → escape_byte x ≡ x ∷ []
stands x e =
    let none = or_parts ((x == 34) || (x == 92)) _ (not-true _ e) in
    let tests = or_parts (x == 34) _ none.0 in
    escape_byte_plain x (eqb-false x 34 tests.0) (eqb-false x 92 tests.1) (ltb-false x 32 none.1)

-- the run, a byte longer
run_more : (xs : List ℕ) (from i : ℕ) → from ≤ i → i < length xs →
    take (i + 1 - from) (drop from xs) ≡ take (i - from) (drop from xs) ++ get_or xs i 0 ∷ []
run_more xs from i h below =
    let size : length (drop from xs) ≡ length xs - from = length-drop from xs in
    let at : i - from < length (drop from xs) = omega arith in
    let more : i + 1 - from ≡ i - from + 1 = omega arith in
    let place : from + (i - from) ≡ i = omega arith in
    ap (λ n. take n (drop from xs)) more ∙ take_more (drop from xs) (i - from) 0 at
    ∙ ap (λ x. take (i - from) (drop from xs) ++ x ∷ [])
    (get_or-drop from xs (i - from) 0 ∙ ap (λ n. get_or xs n 0) place)

rest_more : (xs : List ℕ) (i : ℕ) → i < length xs →
    escape (drop i xs) ≡ escape_byte (get_or xs i 0) ++ escape (drop (i + 1) xs)
rest_more xs i below = ap escape (drop_more xs i 0 below)

-- a byte more that stands for itself
pub plain_more : (xs body end : List ℕ) (from i : ℕ) → from ≤ i → i < length xs →
    is_plain (get_or xs i 0) ≡ true →
    body ++ (take (i - from) (drop from xs) ++ escape (drop i xs)) ≡ end →
    body ++ (take (i + 1 - from) (drop from xs) ++ escape (drop (i + 1) xs)) ≡ end
plain_more xs body end from i h below plain so_far =
    let run = take (i - from) (drop from xs) in
    let left = escape (drop (i + 1) xs) in
    ap (λ l. body ++ (l ++ left)) (run_more xs from i h below)
    ∙ ap (λ l. body ++ l) (append_assoc run (get_or xs i 0 ∷ []) left
    ∙ ap (λ l. run ++ l) (ap (λ l. l ++ left) (sym (stands (get_or xs i 0) plain))
    ∙ sym (rest_more xs i below))) ∙ so_far

-- a run and a byte that is escaped
pub escaped_more : (xs body end : List ℕ) (from i : ℕ) → i < length xs →
    body ++ (take (i - from) (drop from xs) ++ escape (drop i xs)) ≡ end →
    ((body ++ take (i - from) (drop from xs)) ++ escape_byte (get_or xs i 0))
    ++ (take (i + 1 - (i + 1)) (drop (i + 1) xs) ++ escape (drop (i + 1) xs)) ≡ end
escaped_more xs body end from i below so_far =
    let run = take (i - from) (drop from xs) in
    let byte = escape_byte (get_or xs i 0) in
    let left = escape (drop (i + 1) xs) in
    let none : i + 1 - (i + 1) ≡ 0 = omega arith in
    ap (λ n. ((body ++ run) ++ byte) ++ (take n (drop (i + 1) xs) ++ left)) none
    ∙ append_assoc (body ++ run) byte left ∙ append_assoc body run (byte ++ left)
    ∙ ap (λ l. body ++ (run ++ l)) (sym (rest_more xs i below)) ∙ so_far

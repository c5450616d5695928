-- The lines of bytes that grow by one, and what is kept of a line that is too long.
use Rattle.std.proofs.Common.{◌≡◌, ℕ, ◌<◌, ◌≤◌, Bool, true, false, List, [], ◌∷◌, ◌++◌, length}
use Rattle.std.proofs.Common.{take, map, Option, None, refl, sym, ap, ◌∙◌, subst, arith, cond, eqb}
use Rattle.std.proofs.Common.{ltb, leb, ⊎_elim, append_assoc, append-nil, length-append, lit<}
use Rattle.std.specs.List.{filter}
use Rattle.std.specs.Io.BufRead.{strip_last}
use Rattle.std.proofs.lemmas.Bool.{cases_lt, lt-ltb, le-ltb, lt-leb}
use Rattle.std.proofs.lemmas.List.{take_all, take-append-le, length-take-le, map-append}
use Rattle.std.proofs.lemmas.List.Elements.{filter-append}
use Rattle.hq_lines.specs.Fields.{LineRequest, request_in, line_fields}
use Rattle.hq_lines.specs.Lines.{before_first, parted, without_return, is_filled, whole_lines}
use Rattle.hq_lines.specs.Lines.{requests}
use Rattle.hq_lines.specs.Progress.{kept}

-- the parts after one more byte, where `ends` says that it is an LF
abbrev joined : Bool → ℕ → List (List ℕ) × List ℕ → List (List ℕ) × List ℕ
joined ends b p = (cond ends (p.0 ++ p.1 ∷ []) p.0, cond ends [] (p.1 ++ b ∷ []))

joined_first : (first ends : Bool) (x b : ℕ) (p : List (List ℕ) × List ℕ) →
    cond first ([] ∷ (joined ends b p).0, (joined ends b p).1) (before_first x (joined ends b p)) ≡
    joined ends b (cond first ([] ∷ p.0, p.1) (before_first x p))
joined_first true true x b p = refl
joined_first true false x b p = refl
joined_first false true x b ([], rest) = refl
joined_first false true x b (line ∷ lines, rest) = refl
joined_first false false x b ([], rest) = refl
joined_first false false x b (line ∷ lines, rest) = refl

joined_none : (ends : Bool) (b : ℕ) → cond ends ([] ∷ [], []) ([], b ∷ []) ≡ joined ends b ([], [])
joined_none true b = refl
joined_none false b = refl

parted_joined : (xs : List ℕ) (b : ℕ) → parted (xs ++ b ∷ []) ≡ joined (eqb b 10) b (parted xs)
parted_joined [] b = joined_none (eqb b 10) b
parted_joined (x ∷ xs) b = ap (λ (p : List (List ℕ) × List ℕ). cond (eqb x 10) ([] ∷ p.0, p.1)
    (before_first x p)) (parted_joined xs b) ∙ joined_first (eqb x 10) (eqb b 10) x b (parted xs)

-- what follows the last LF after one more byte
pub rest_more : (xs : List ℕ) (b : ℕ) → (parted (xs ++ b ∷ [])).1 ≡ cond (eqb b 10) []
    ((parted xs).1 ++ b ∷ [])
rest_more xs b = ap (λ (p : List (List ℕ) × List ℕ). p.1) (parted_joined xs b)

whole_joined : (ends : Bool) (p : List (List ℕ) × List ℕ) →
    filter is_filled (map without_return (cond ends (p.0 ++ p.1 ∷ []) p.0)) ≡ filter is_filled
    (map without_return p.0) ++ cond ends (filter is_filled (without_return p.1 ∷ [])) []
whole_joined true p = ap (filter is_filled) (map-append without_return p.0 (p.1 ∷ []))
    ∙ filter-append is_filled (map without_return p.0) (without_return p.1 ∷ [])
whole_joined false p = sym (append-nil _)

-- the whole lines after one more byte
pub whole_more : (xs : List ℕ) (b : ℕ) → whole_lines (xs ++ b ∷ []) ≡ whole_lines xs
    ++ cond (eqb b 10) (filter is_filled (without_return (parted xs).1 ∷ [])) []
whole_more xs b = ap (λ (p : List (List ℕ) × List ℕ). filter is_filled (map without_return p.0))
    (parted_joined xs b) ∙ whole_joined (eqb b 10) (parted xs)

-- the whole lines of the first bytes are the first whole lines of all
pub first_lines : (ys xs : List ℕ) → (more : List (List ℕ))
    × (whole_lines (xs ++ ys) ≡ whole_lines xs ++ more)
first_lines [] xs = ([], ap whole_lines (append-nil xs) ∙ sym (append-nil (whole_lines xs)))
first_lines (y ∷ ys) xs =
    let rest = first_lines ys (xs ++ y ∷ []) in (
      cond (eqb y 10) (filter is_filled (without_return (parted xs).1 ∷ [])) [] ++ rest.0,
      ap whole_lines (sym (append_assoc xs (y ∷ []) ys)) ∙ rest.1
          ∙ ap (λ l. l ++ rest.0) (whole_more xs y) ∙ append_assoc (whole_lines xs) _ rest.0,
    )

take_push : (n : ℕ) (front : List ℕ) (b : ℕ) →
    cond (ltb (length (take n front)) n) (take n front ++ b ∷ []) (take n front) ≡ take n (front
    ++ b ∷ [])
take_push n front b = ⊎_elim
    (λ (h : length front < n).
    let same : take n front ≡ front = take_all n front (omega arith) in
    let whole : take n (front ++ b ∷ []) ≡ front ++ b ∷ [] =
    take_all n (front ++ b ∷ []) (omega (arith, length-append front (b ∷ []))) in
    ap (λ t. cond (ltb (length t) n) (t ++ b ∷ []) t) same
    ∙ ap (λ x. cond x (front ++ b ∷ []) front) (lt-ltb (length front) n h) ∙ sym whole)
    (λ (h : n ≤ length front).
    let long : length (take n front) ≡ n = length-take-le n front h in
    ap (λ m. cond (ltb m n) (take n front ++ b ∷ []) (take n front)) long
    ∙ ap (λ x. cond x (take n front ++ b ∷ []) (take n front)) (le-ltb n n (omega arith))
    ∙ sym (take-append-le n front (b ∷ []) h))
    (cases_lt (length front) n)

kept_by : (ends : Bool) (front : List ℕ) (b : ℕ) →
    cond ends [] (cond (ltb (length (kept front)) 300001) (kept front ++ b ∷ []) (kept front)) ≡
    kept (cond ends [] (front ++ b ∷ []))
unfolding kept
kept_by true front b = sym (take_all 300001 [] (omega arith))
kept_by false front b = take_push 300001 front b

-- a line is kept as far as it tells that it is too long
pub kept_more : (line xs : List ℕ) (b : ℕ) → line ≡ kept (parted xs).1 →
    cond (eqb b 10) [] (cond (ltb (length line) 300001) (line ++ b ∷ []) line) ≡ kept
    (parted (xs ++ b ∷ [])).1
kept_more line xs b h = ap (λ l. cond (eqb b 10) [] (cond (ltb (length l) 300001) (l ++ b ∷ []) l))
    h ∙ kept_by (eqb b 10) (parted xs).1 b ∙ ap kept (sym (rest_more xs b))

pub kept_none : [] ≡ kept []
unfolding kept
kept_none = sym (take_all 300001 [] (omega arith))

test_none : {A : Type 0} (n : ℕ) (line : List ℕ) (x y : A) → n < length line →
    cond (leb (length line) n) x y ≡ y
test_none n line x y h = ap (λ t. cond t x y) (lt-leb (length line) n h)

-- a line that is too long asks for nothing that can be read
asks_long : (line : List ℕ) → 300000 < length line → requests (filter is_filled (line ∷ [])) ≡ None
    ∷ []
unfolding request_in
asks_long line h = ap (λ t. requests (cond t (line ∷ []) [])) (lt-ltb 0 (length line) (omega arith))
    ∙ ap (λ r. r ∷ []) (test_none 300000 line (line_fields line) None h)

return_long : (line : List ℕ) → 300000 < length line → without_return line ≡ line
unfolding without_return
return_long line h = test_none 300000 line (strip_last 13 line) line h

-- so what is kept of it tells as much
kept_long : (n m : ℕ) (line : List ℕ) → n < m → m ≤ length line → n < length (take m line)
kept_long n m line h k = subst (λ l. n < l) (sym (length-take-le m line k)) h

by_kept : (f : List ℕ → List (Option LineRequest)) → ((line : List ℕ) → 300000 < length line →
    f line ≡ None ∷ []) → (line : List ℕ) → f (kept line) ≡ f line
unfolding kept
by_kept f long line = ⊎_elim
    (λ (h : length line < 300001). ap f (take_all 300001 line (omega arith)))
    (λ (h : 300001 ≤ length line). long (kept line) (kept_long 300000 300001 line (lit< tt) h)
    ∙ sym (long line (omega arith)))
    (cases_lt (length line) 300001)

pub asks_kept : (line : List ℕ) → requests (filter is_filled (kept line ∷ [])) ≡ requests
    (filter is_filled (line ∷ []))
asks_kept line = by_kept (λ l. requests (filter is_filled (l ∷ []))) asks_long line

pub asks_ended : (line : List ℕ) →
    requests (filter is_filled (without_return (kept line) ∷ [])) ≡ requests
    (filter is_filled (without_return line ∷ []))
asks_ended line = by_kept (λ l. requests (filter is_filled (without_return l ∷ [])))
    (λ l h. ap (λ t. requests (filter is_filled (t ∷ []))) (return_long l h) ∙ asks_long l h) line

-- The lines of an access table have patterns of their own.
use Rattle.std.proofs.Common.{◌≡◌, ℕ, Bool, true, false, not, List, [], ◌∷◌, ◌++◌, Result, Ok, Err}
use Rattle.std.proofs.Common.{IfOk, IsTrue, Vec, Global, refl, subst}
use Rattle.hq_values.specs.Readers.{◌>>=◌, guard, ReadsIn, seen_by}
use Rattle.hq_values.specs.declared.failure.Fail.{Fail}
use Rattle.hq_values.specs.declared.failure.Refusal.{Refusal}
use Rattle.hq_kept.specs.declared.pattern.Class.{Class}
use Rattle.hq_kept.specs.declared.pattern.Class.TheVariants.{SenderSide, RecipientSide}
use Rattle.hq_kept.specs.declared.pattern.Line.{Line}
use Rattle.hq_rules.specs.TableFiles.{is_same_class, is_same_pattern, is_repeated_line}
use Rattle.hq_rules.specs.TableFiles.{patterns_apart}
use Rattle.hq_rules.specs.TableFiles.{next_line, lines_under}
use Rattle.hq_import.proofs.Apart.{err_ok, same_ok, apart_push}
use Rattle.hq_import.proofs.Seeing.{same_either_way}

classes_turned : (a b : Class) → is_same_class a b ≡ is_same_class b a
classes_turned SenderSide SenderSide = refl
classes_turned SenderSide RecipientSide = refl
classes_turned RecipientSide SenderSide = refl
classes_turned RecipientSide RecipientSide = refl

abbrev same_line : Line → Line → Bool
same_line a b = is_same_pattern a.pattern b

lines_turned : (a b : Line) → same_line a b ≡ same_line b a
lines_turned a b = rw (
  classes_turned a.pattern.0 b.pattern.0,
  same_either_way a.pattern.1 b.pattern.1,
) refl

-- where the test passes, the pattern is not doubled
accepted : (earlier : List Line) (few : Bool) (one two : Refusal) (read : Result Line Refusal)
    (line : Line)
    → (guard few one >>= (λ _. read >>= (λ l. guard (not (is_repeated_line earlier l)) two >>=
    (λ _. Ok l)))) ≡ Ok line
    → is_repeated_line earlier line ≡ false
accepted earlier false one two read line h = absurd (err_ok one line h)
accepted earlier true one two (Err e) line h = absurd (err_ok e line h)
accepted earlier true one two (Ok l) line h = told (is_repeated_line earlier l) refl h
  where
    told : (b : Bool) → is_repeated_line earlier l ≡ b → (guard (not b) two >>= (λ _. Ok l))
        ≡ Ok line →
        is_repeated_line earlier line ≡ false
    told true f g = absurd (err_ok two line g)
    told false f g = subst (λ x. is_repeated_line earlier x ≡ false) (same_ok Refusal l line g) f

new_line : (earlier : List Line) (row : List (List ℕ)) (line : Line) →
    next_line earlier row ≡ Ok line → is_repeated_line earlier line ≡ false
unfolding next_line
new_line earlier row line h = accepted earlier _ _ _ _ line h

-- what the rows of an access table hold
under_apart : (rows : List (List (List ℕ))) (earlier lines : List Line) →
    patterns_apart earlier ≡ true → lines_under earlier rows ≡ Ok lines →
    patterns_apart lines ≡ true
unfolding lines_under
under_apart [] earlier lines h read = subst (λ xs. patterns_apart xs ≡ true)
    (same_ok Refusal earlier lines read) h
under_apart (row ∷ rows) earlier lines h read =
    by (λ line. under_apart rows (earlier ++ line ∷ []) lines) (next_line earlier row) refl read
  where
    by : ((line : Line) → patterns_apart (earlier ++ line ∷ []) ≡ true →
        lines_under (earlier ++ line ∷ []) rows ≡ Ok lines → patterns_apart lines ≡ true)
        → (o : Result Line Refusal) → next_line earlier row ≡ o →
        (o >>= (λ line. lines_under (earlier ++ line ∷ []) rows)) ≡ Ok lines →
        patterns_apart lines ≡ true
    by further (Err e) f g = absurd (err_ok e lines g)
    by further (Ok line) f g =
        further line (apart_push same_line lines_turned earlier line h
        (new_line earlier row line f)) g

-- what was read of them
pub read_apart : (refused : Type 0) (result : Result (Vec Line Global) Fail)
    (rows : List (List (List ℕ))) → ReadsIn refused (seen_by (λ v. v.items) result) (lines_under []
    rows) →
    IfOk result (λ v. IsTrue (patterns_apart v.items))
read_apart refused (Ok v) rows read = under_apart rows [] v.items refl read
read_apart refused (Err e) rows read = tt

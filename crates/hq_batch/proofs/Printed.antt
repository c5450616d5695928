-- Answers that are printed one after the other.
use Rattle.std.proofs.Common.{◌≡◌, ◌≢◌, ◌==◌, ℕ, zero, suc, Bool, true, false, ◌&&◌, List, [], ◌∷◌}
use Rattle.std.proofs.Common.{◌++◌, map, Option, Result, Ok, Err, max, refl, sym, ap, ap₂, ◌∙◌}
use Rattle.std.proofs.Common.{subst, append-nil, if◌then◌else◌, ◌⊎◌, inl, inr, ⊎_elim, arith}
use Rattle.std.proofs.KnownBytes.{Appends-nil, Appends-trans}
use Rattle.std.proofs.lemmas.Bool.{ne_eqb}
use Rattle.std.proofs.lemmas.List.{map_push}
use Rattle.std.proofs.lemmas.List.Folds.{concat-append, list_all-append}
use Rattle.std.specs.Io.KnownBytes.{Appends}
use Rattle.std.specs.Bool.{⊤}
use Rattle.std.specs.List.{concat, list_all}
use Rattle.hq_rules.specs.declared.render.Rendered.{Rendered}
use Rattle.hq_settings.specs.declared.trouble.Trouble.{Trouble}
use Rattle.hq_lines.specs.Written.{AppendsPart}
use Rattle.hq_lines.proofs.Written.{part_all}
use Rattle.hq_batch.proofs.Lined.{broken_at}
use Rattle.hq_batch.specs.Printing.{IsPut, IsShown, answer_of, answers_of, calls_status}
use Rattle.hq_batch.specs.Printing.{is_answered}

-- these were printed, with this status
pub record SoFar (told : List Rendered) (old new : Option (List ℕ)) (exit_status : ℕ) : Type 0 where
  pub written : Appends old new (answers_of told)
  pub status_is : exit_status ≡ calls_status told

pub none_yet : (old : Option (List ℕ)) → SoFar [] old old 0
none_yet old = record { written = Appends-nil old; status_is = refl }

answers_more : (told : List Rendered) (rendered : Rendered) →
    answers_of (told ++ rendered ∷ []) ≡ answers_of told ++ answer_of rendered
answers_more told rendered = ap concat (map_push answer_of told rendered)
    ∙ concat-append (map answer_of told) (answer_of rendered ∷ [])
    ∙ ap (λ l. answers_of told ++ l) (append-nil (answer_of rendered))

greater : (all one : Bool) (s p : ℕ) → s ≡ (if all then 0 else 1) → p ≡ (if one then 0 else 1) →
    max s p ≡ (if all && (one && true) then 0 else 1)
greater true true s p h k = ap₂ max h k
greater true false s p h k = ap₂ max h k
greater false true s p h k = ap₂ max h k
greater false false s p h k = ap₂ max h k

status_more : (told : List Rendered) (rendered : Rendered) (s p : ℕ) → s ≡ calls_status told →
    p ≡ (if is_answered rendered then 0 else 1) → max s p ≡ calls_status (told ++ rendered ∷ [])
status_more told rendered s p h k =
    greater (list_all is_answered told) (is_answered rendered) s p h k
    ∙ ap (λ b. if b then 0 else 1) (sym (list_all-append is_answered told (rendered ∷ [])))

zero_or : (n : ℕ) → (n ≡ 0) ⊎ ((n ≢ 0) × ((n == 0) ≡ false))
zero_or zero = inl refl
zero_or (suc n) = inr (some n, ne_eqb (suc n) 0 (some n)) where
  some : (n : ℕ) → suc n ≢ 0
  some n h = absurd (omega (arith, h))

module _ {W : Type 0} (contents : W → Option (List ℕ)) (told : List Rendered) (rendered : Rendered)
    (old : Option (List ℕ)) (mid new : W) (s p : ℕ) (before : SoFar told old (contents mid) s) where
  more : (Appends (contents mid) (contents new) (answer_of rendered)) →
      p ≡ (if is_answered rendered then 0 else 1) →
      SoFar (told ++ rendered ∷ []) old (contents new) (max s p)
  more wrote is = record {
    written = subst (Appends old (contents new)) (sym (answers_more told rendered))
        (Appends-trans old (contents mid) (contents new) _ _ before.written wrote);
    status_is = status_more told rendered s p before.status_is is;
  }

  -- one more is printed
  pub one_more : IsShown rendered (new ≡ mid) (contents mid) (contents new) (Ok p) →
      SoFar (told ++ rendered ∷ []) old (contents new) (max s p)
  one_more shown = ⊎_elim
      (λ (none : rendered.number ≡ 0).
      let is : is_answered rendered ≡ true = ap (λ n. n == 0) none in
      more (subst (λ b. Appends (contents mid) (contents new) (if b then rendered.bytes.items else
      [])) (sym is) (shown.1 none).1)
      ((shown.1 none).0 ∙ ap (λ b. if b then 0 else 1) (sym is)))
      (λ (some : (rendered.number ≢ 0) × ((rendered.number == 0) ≡ false)).
      more (subst (λ b. Appends (contents mid) (contents new) (if b then rendered.bytes.items else
      [])) (sym some.1) (subst (λ w. Appends (contents mid) (contents w) [])
      (sym (shown.0 some.0).0) (Appends-nil (contents mid))))
      ((shown.0 some.0).1 ∙ ap (λ b. if b then 0 else 1) (sym some.1)))
      (zero_or rendered.number)

-- the status where the output failed
pub failed : (told : List Rendered) → 1 ≡ max (calls_status told) 1
failed told = by_all (list_all is_answered told) where
  by_all : (b : Bool) → 1 ≡ max (if b then 0 else 1) 1
  by_all true = refl
  by_all false = refl

-- and where it did not
pub done : (told : List Rendered) → calls_status told ≡ max (calls_status told) 0
done told = by_all (list_all is_answered told) where
  by_all : (b : Bool) → (if b then 0 else 1) ≡ max (if b then 0 else 1) 0
  by_all true = refl
  by_all false = refl

-- ---- where the output fails

-- all of a text, or a beginning of it, is a beginning of it
pub begun : (text : List ℕ) (old new : Option (List ℕ)) (done : Result ⊤ Trouble) →
    IsPut text old new done → AppendsPart old new text
begun text old new (Ok x) p = part_all old new text p
begun text old new (Err trouble) p = p.1

-- behind the first answers, one is broken off
pub broken_off : (first others : List Rendered) (rendered : Rendered) (unwritten : Type 0)
    (old mid new : Option (List ℕ)) (s : ℕ) (trouble : Trouble) → SoFar first old mid s →
    IsShown rendered unwritten mid new (Err trouble) →
    AppendsPart old new (answers_of ((first ++ rendered ∷ []) ++ others))
broken_off first others rendered unwritten old mid new s trouble before shown =
    broken_at answer_of first rendered old mid new others before.written
    (subst (λ (b : Bool). AppendsPart mid new (if b then rendered.bytes.items else []))
    (sym (ap (λ n. n == 0) shown.0)) shown.2)

-- What is noted of texts.
use Rattle.std.proofs.Common.{◌≡◌, ℕ, Bool, true, false, cond, ◌||◌, List, bytes_eq, refl, sym, ap}
use Rattle.std.proofs.Common.{◌∙◌}
use Rattle.std.specs.Bool.{one_answer}
use Rattle.std.proofs.lemmas.Slice.Eq.{bytes_eq-Decides}
use Rattle.std.proofs.lemmas.Map.Text.{is_eq-slice_cmp}
use Rattle.hq_kept.specs.Customers.{is_same_text}

-- which text is compared with which does not count
swapped : (a b : List ℕ) → bytes_eq a b ≡ bytes_eq b a
swapped a b =
    let other = bytes_eq-Decides b a in
    one_answer (bytes_eq a b) (bytes_eq b a) (bytes_eq-Decides a b) (
      (λ e. sym (other.0 e)),
      λ e. other.1 (sym e),
    )

chosen : (t x : Bool) → cond t true x ≡ x || t
chosen true true = refl
chosen true false = refl
chosen false true = refl
chosen false false = refl

-- a text is noted where it was, and where it is this one
pub noted_text : (text other : List ℕ) (before after : Bool) →
    after ≡ cond (bytes_eq text other) true before → after ≡ before || is_same_text other text
noted_text text other before after h = h ∙ chosen (bytes_eq text other) before
    ∙ ap (λ t. before || t) (swapped text other ∙ sym (is_eq-slice_cmp other text))

-- the same of texts as an order tells them
pub same_either_way : (a b : List ℕ) → is_same_text a b ≡ is_same_text b a
same_either_way a b = is_eq-slice_cmp a b ∙ swapped a b ∙ sym (is_eq-slice_cmp b a)

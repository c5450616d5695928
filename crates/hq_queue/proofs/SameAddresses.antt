-- Addresses without the later ones that are the same.
use Rattle.std.proofs.Common.{◌≡◌, ℕ, Bool, true, false, cond, not, ◌&&◌, ◌||◌, List, [], ◌∷◌, ◌++◌}
use Rattle.std.proofs.Common.{filter, sym, refl, ap, ◌∙◌}
use Rattle.std.specs.Prelude.{if◌then◌else◌}
use Rattle.std.specs.List.{list_any}
use Rattle.std.specs.Ordering.{eq_by_cmp}
use Rattle.std.proofs.lemmas.List.Elements.{filter-append}
use Rattle.std.proofs.lemmas.Map.Lookups.{exact_bytes}
use Rattle.std.proofs.lemmas.Map.Views.{tells_apart, any-filter_same}
use Rattle.hq_values.specs.Addresses.{folded}
use Rattle.hq_tables.specs.Tables.{text_cmp}
use Rattle.hq_tables.specs.Sound.{same_address}
use Rattle.hq_rules.specs.Submissions.{distinct}

-- the same addresses are the same to a third
alike : (x k a : List ℕ) → same_address k a ≡ true → not (same_address x k) ≡ not (same_address x a)
alike x k a h = ap (λ t. not (eq_by_cmp text_cmp (folded x) t))
    (tells_apart exact_bytes (folded k) (folded a) h)

-- what a filter leaves of a last address
tail_is : (x a : List ℕ) (s l : Bool) → same_address x a ≡ s →
    filter (λ b. not (same_address x b)) (if l then [] else a ∷ []) ≡ (if s || (not s && l) then
    [] else a ∷ [])
tail_is x a true true e = refl
tail_is x a false true e = refl
tail_is x a true false e = ap (λ v. cond (not v) (a ∷ []) []) e
tail_is x a false false e = ap (λ v. cond (not v) (a ∷ []) []) e

-- one more address: it counts where it is the same as none before
pub distinct_more : (xs : List (List ℕ)) (a : List ℕ) → distinct (xs ++ a ∷ []) ≡ distinct xs
    ++ (if list_any (λ known. same_address known a) (distinct xs) then [] else a ∷ [])
distinct_more [] a = refl
distinct_more (x ∷ xs) a =
    let others : List ℕ → Bool = λ b. not (same_address x b) in
    let among : List ℕ → Bool = λ known. same_address known a in
    let seen = any-filter_same among others (not (same_address x a)) (λ k h. alike x k a h)
    (distinct xs) in
    ap (λ kept. x ∷ filter others kept) (distinct_more xs a)
    ∙ ap (λ kept. x ∷ kept) (filter-append others (distinct xs)
    (if list_any among (distinct xs) then [] else a ∷ []))
    ∙ ap (λ rest. x ∷ filter others (distinct xs) ++ rest)
    (tail_is x a (same_address x a) (list_any among (distinct xs)) refl)
    ∙ ap (λ t. x ∷ filter others (distinct xs) ++ (if same_address x a || t then [] else a ∷ []))
    (sym seen)

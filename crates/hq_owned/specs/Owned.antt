-- Tables of many customers: the keys begin with the owner. What one owner has of such a table.
use Rattle.std.specs.Prelude.{ℕ, List, [], ◌∷◌, cond, map, Option, Some, None}
use Rattle.std.specs.declared.cmp.Ordering.{Ordering}
use Rattle.std.specs.Ordering.{eq_by_cmp, nat_cmp, ordering_then}
use Rattle.std.specs.Cmp.Lexicographic.{slice_cmp}
use Rattle.std.specs.FinMap.{FinMap, entries, from_sorted}

-- names and texts in the order of their bytes
abbrev pub text_cmp : List ℕ → List ℕ → Ordering
text_cmp = slice_cmp nat_cmp

-- by owner, and then by the rest of the key
abbrev pub by_both : {N K : Type 0} → (N → N → Ordering) → (K → K → Ordering) → N × K → N × K →
    Ordering
by_both S R x y = ordering_then (S x.0 y.0) (R x.1 y.1)

-- the owner's rows, without the owner
abbrev pub rows_of : {N K X : Type 0} → (N → N → Ordering) → N → List ((N × K) × X) → List (K × X)
rows_of S c [] = []
rows_of S c (e ∷ es) = cond (eq_by_cmp S c e.0.0) ((e.0.1, e.1) ∷ rows_of S c es) (rows_of S c es)

-- the owner's part of a table
unfoldable pub part_of : {N K X : Type 0} (S : N → N → Ordering) {R : K → K → Ordering} → N →
    FinMap (by_both S R) X → FinMap R X
part_of S c m = from_sorted (rows_of S c (entries m))

-- another value at each key
unfoldable pub map_values : {K X Y : Type 0} {R : K → K → Ordering} → (K → X → Y) → FinMap R X →
    FinMap R Y
map_values f m = from_sorted (map (λ e. (e.0, f e.0 e.1)) (entries m))

-- f of what is there, or else b
abbrev pub given : {A B : Type 0} → B → (A → B) → Option A → B
given b f None = b
given b f (Some a) = f a

-- Rows in some order, as a map: of rows with one key the first counts.
use Rattle.std.specs.Prelude.{List, ◌∷◌, map}
use Rattle.std.specs.declared.cmp.Ordering.{Ordering}
use Rattle.std.specs.Ordering.{eq_by_cmp}
use Rattle.std.specs.List.{IsDistinct}
use Rattle.std.specs.FinMap.{FinMap, from_entries}

-- a row as its key and its value
abbrev pub pairs_of : {A K X : Type 0} → (A → K) → (A → X) → List A → List (K × X)
pairs_of key val rows = map (λ r. (key r, val r)) rows

-- the map that rows stand for
unfoldable pub map_of : {A K X : Type 0} (R : K → K → Ordering) → (A → K) → (A → X) → List A →
    FinMap R X
map_of R key val rows = from_entries (pairs_of key val rows)

-- no key stands twice
abbrev pub HasUniqueKeys : {A K : Type 0} (R : K → K → Ordering) → (A → K) → List A → Type 0
HasUniqueKeys R key rows = IsDistinct (eq_by_cmp R) (map key rows)

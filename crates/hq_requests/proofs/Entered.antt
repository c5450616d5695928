-- The rows of the router are the table.
use Rattle.std.proofs.Common.{◌≡◌, ℕ, ◌<◌, List, [], ◌∷◌, map, refl, ap, sym, ◌∙◌, Bool, true}
use Rattle.std.proofs.Common.{false, ◌&&◌, ◌||◌, ◌==◌, ltb, length, arith, ◌⊎◌, inl, inr, get_or}
use Rattle.std.proofs.Common.{suc}
use Rattle.std.proofs.lemmas.Bool.{and_parts}
use Rattle.std.proofs.lemmas.Bool.Decides.{nat_tests}
use Rattle.matchit.specs.Rows.{RowsOf, comes_before}
use Rattle.matchit.specs.Seek.{first}
use Rattle.matchit.specs.Level.{IsText}
use Rattle.matchit.specs.Router.{RouteOf, map_key}
use Rattle.matchit.proofs.RenameLemmas.{seek-rename}
use Rattle.hq_requests.proofs.Seek.{IsSimple, AllSimple, Before, Sorted, first-fits}
use Rattle.matchit.proofs.OnLiterals.{matchit_on_literals}
use Rattle.matchit.specs.Router.{rename}
use Rattle.hq_requests.specs.Adding.{added_all, can_add_all}
use Rattle.hq_requests.specs.Routes.{methods_at, routes}
use Rattle.hq_requests.specs.declared.table.Methods.{Methods}
use Rattle.hq_requests.specs.declared.table.TheConstants.{TABLE}

pub rows_are : rename (λ e. e.value)
    (added_all (map (λ e. (e.0.now, e.1)) TABLE) []) ≡ routes
unfolding matchit_on_literals routes
rows_are = refl

pub can_add_paths : can_add_all (map (λ e. (e.0.now, e.1)) TABLE) [] ≡ true
unfolding matchit_on_literals
can_add_paths = refl

-- ---- the table's shape, as tests that compute

abbrev is_simple : List ℕ → Bool
is_simple [] = true
is_simple (x ∷ t) = (ltb x 256 && is_simple t) || (x == 256 && length t == 0)

or_parts : (a b : Bool) → (a || b) ≡ true → (a ≡ true) ⊎ (b ≡ true)
or_parts true b e = inl refl
or_parts false b e = inr e

no_length : (t : List ℕ) → (length t == 0) ≡ true → t ≡ []
no_length [] e = refl
no_length (x ∷ t) e = let h : suc (length t) ≡ 0 = grind (arith, nat_tests) in absurd (omega arith)

simple_from : (t : List ℕ) → is_simple t ≡ true → IsSimple t
simple_from [] e = tt
simple_from (x ∷ t) e = by (λ h. simple_from t h)
    (or_parts (ltb x 256 && is_simple t) (x == 256 && length t == 0) e)
  where
    by : (is_simple t ≡ true → IsSimple t) → ((ltb x 256 && is_simple t) ≡ true)
        ⊎ ((x == 256 && length t == 0) ≡ true) → IsSimple (x ∷ t)
    by rest (inl h) =
        let p = and_parts (ltb x 256) (is_simple t) h in
        let a : ltb x 256 ≡ true = p.0 in
        let l : x < 256 = grind (arith, nat_tests) in
        inl (l, rest p.1)
    by rest (inr h) =
        let p = and_parts (x == 256) (length t == 0) h in
        let a : (x == 256) ≡ true = p.0 in
        let l : x ≡ 256 = grind (arith, nat_tests) in
        inr (l, no_length t p.1)

module _ {K : Type 0} where
  abbrev are_simple : RowsOf K → Bool
  are_simple [] = true
  are_simple ((t, k) ∷ rest) = is_simple t && are_simple rest

  all_simple_from : (rs : RowsOf K) → are_simple rs ≡ true → AllSimple rs
  all_simple_from [] e = tt
  all_simple_from ((t, k) ∷ rest) e = let p = and_parts (is_simple t) (are_simple rest) e in
      (simple_from t p.0, all_simple_from rest p.1)

  abbrev is_before : List ℕ → RowsOf K → Bool
  is_before t [] = true
  is_before t ((u, k) ∷ rest) = comes_before t u && is_before t rest

  before_from : (t : List ℕ) (rs : RowsOf K) → is_before t rs ≡ true → Before t rs
  before_from t [] e = tt
  before_from t ((u, k) ∷ rest) e = let p = and_parts (comes_before t u) (is_before t rest) e in
      (p.0, before_from t rest p.1)

  abbrev is_sorted : RowsOf K → Bool
  is_sorted [] = true
  is_sorted ((t, k) ∷ rest) = is_before t rest && is_sorted rest

  sorted_from : (rs : RowsOf K) → is_sorted rs ≡ true → Sorted rs
  sorted_from [] e = tt
  sorted_from ((t, k) ∷ rest) e = let p = and_parts (is_before t rest) (is_sorted rest) e in
      (before_from t rest p.0, sorted_from rest p.1)

table_simple : are_simple routes ≡ true
unfolding routes
table_simple = refl

table_sorted : is_sorted routes ≡ true
unfolding routes
table_sorted = refl

pub text_from : (bytes : List ℕ) → ((i : ℕ) → get_or bytes i 0 < 256) → IsText bytes
text_from [] h = tt
text_from (b ∷ bytes) h = (h 0, text_from bytes (λ i. h (suc i)))

-- what the router finds is what the table says
pub found : (rows : RowsOf (RouteOf Methods)) (path : List ℕ) → rename (λ e. e.value) rows
    ≡ routes →
    IsText path → map_key (λ e. e.value) (first rows path) ≡ methods_at path
unfolding methods_at
found rows path h t = sym (seek-rename (λ e. e.value) 0 rows path) ∙ ap (λ r. first r path) h
    ∙ first-fits routes path (all_simple_from routes table_simple) (sorted_from routes table_sorted)
    t

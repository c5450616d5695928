-- Lists: what is found at a place, and a function that changes an element at one place alone.
use Rattle.std.proofs.Common.{◌≡◌, ◌≢◌, ℕ, zero, suc, ◌<◌, ◌≤◌, List, [], ◌∷◌, map, take, length}
use Rattle.std.proofs.Common.{set}
use Rattle.std.proofs.Common.{Some, None, slice_get, refl, sym, ap, subst, arith}
use Rattle.std.specs.Prelude.{unwrap_or}
use Rattle.std.specs.List.{AllByRecursion}
use Rattle.sqlite_trees.specs.Tree.{IsAscending}
use Rattle.sqlite_keyed.proofs.ListLemmas.{all-slice_get}
use Rattle.hq_sql_queue.specs.Dealt.{Rise, at_place}

pub same_some : {A : Type 0} (x y : A) → Some x ≡ Some y → x ≡ y
same_some x y h = ap (λ o. unwrap_or o x) h

pub none_is : {A : Type 0} (x : A) → None ≡ Some x → ⊥
none_is x h = let f = h in cc

pub all_from_get : {A : Type 0} (P : A → Type 0) (xs : List A) →
    ((k : ℕ) (x : A) → slice_get xs k ≡ Some x → P x) → AllByRecursion P xs
all_from_get P [] h = tt
all_from_get P (x ∷ xs) h = (h 0 x refl, all_from_get P xs (λ k y e. h (suc k) y e))

pub all_taken : {A : Type 0} (P : A → Type 0) (n : ℕ) (xs : List A) → AllByRecursion P xs →
    AllByRecursion P (take n xs)
all_taken P zero xs all = tt
all_taken P (suc n) [] all = tt
all_taken P (suc n) (x ∷ xs) all = (all.0, all_taken P n xs all.1)

pub ascending_taken : {A : Type 0} (R : A → A → Type 0) (n : ℕ) (xs : List A) → IsAscending R xs →
    IsAscending R (take n xs)
ascending_taken R zero xs h = tt
ascending_taken R (suc n) [] h = tt
ascending_taken R (suc n) (x ∷ xs) h = (all_taken (R x) n xs h.0, ascending_taken R n xs h.1)

pub map_same_on : {A B : Type 0} (f g : A → B) (xs : List A) → AllByRecursion (λ x. f x ≡ g x) xs →
    map f xs ≡ map g xs
map_same_on f g [] all = refl
map_same_on f g (x ∷ xs) all = λ i. all.0 i ∷ map_same_on f g xs all.1 i

pub unmoved : {A : Type 0} (f : A → A) (xs : List A) →
    ((k : ℕ) (x : A) → slice_get xs k ≡ Some x → f x ≡ x) → xs ≡ map f xs
unmoved f [] h = refl
unmoved f (x ∷ xs) h = λ i. sym (h 0 x refl) i ∷ unmoved f xs (λ k y e. h (suc k) y e) i

-- no element comes after the end
pub none_after : {A : Type 0} (xs : List A) (j k : ℕ) (x : A) → j < k → slice_get xs j ≡ None →
    slice_get xs k ≡ Some x → ⊥
none_after [] j k x less none some = none_is x some
none_after (y ∷ xs) zero k x less none some = none_is y (sym none)
none_after (y ∷ xs) (suc j) zero x less none some = omega arith
none_after (y ∷ xs) (suc j) (suc k) x less none some = none_after xs j k x (omega arith) none some

pub rises_at : (ns : List ℕ) → Rise ns → (j k m n : ℕ) → j < k → slice_get ns j ≡ Some m →
    slice_get ns k ≡ Some n → m < n
rises_at [] r j k m n less a b = absurd (none_is m a)
rises_at (x ∷ ns) r zero zero m n less a b = absurd (omega arith)
rises_at (x ∷ ns) r zero (suc k) m n less a b =
    subst (λ y. y < n) (same_some x m a) (all-slice_get (λ y. x < y) ns k n b r.0)
rises_at (x ∷ ns) r (suc j) zero m n less a b = absurd (omega arith)
rises_at (x ∷ ns) r (suc j) (suc k) m n less a b = rises_at ns r.1 j k m n (omega arith) a b

-- ---- f at one place

-- f at the one place where it changes anything
pub map_at_place : {A : Type 0} (f : A → A) (xs : List A) (place : ℕ) →
    ((k : ℕ) (x : A) → k ≢ place → slice_get xs k ≡ Some x → f x ≡ x) →
    at_place f xs place ≡ map f xs
map_at_place f [] place h = refl
map_at_place f (x ∷ xs) zero h = ap (λ l. f x ∷ l)
    (unmoved f xs (λ k y e. h (suc k) y (λ same. omega arith) e))
map_at_place f (x ∷ xs) (suc place) h = λ i. sym (h 0 x (λ same. omega arith) refl) i
    ∷ map_at_place f xs place (λ k y apart e. h (suc k) y (λ same. apart (omega arith)) e) i

pub set_at_place : {A : Type 0} (f : A → A) (xs : List A) (place : ℕ) (x : A) →
    slice_get xs place ≡ Some x → set xs place (f x) ≡ at_place f xs place
set_at_place f [] place x h = refl
set_at_place f (y ∷ xs) zero x h = ap (λ z. f z ∷ xs) (sym (same_some y x h))
set_at_place f (y ∷ xs) (suc place) x h = ap (λ l. y ∷ l) (set_at_place f xs place x h)

pub at_no_place : {A : Type 0} (f : A → A) (xs : List A) (place : ℕ) → length xs ≤ place →
    xs ≡ at_place f xs place
at_no_place f [] place h = refl
at_no_place f (x ∷ xs) zero h = absurd (omega arith)
at_no_place f (x ∷ xs) (suc place) h = ap (λ l. x ∷ l) (at_no_place f xs place (omega arith))

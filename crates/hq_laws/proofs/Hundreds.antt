-- After the customers that are asked come those from the next name on.
use Rattle.std.proofs.Common.{◌≡◌, ◌≢◌, ℕ, Bool, true, false, cond, List, [], ◌∷◌, ◌++◌}
use Rattle.std.proofs.Common.{refl, sym, ap, ◌∙◌, subst, Option, Some, None}
use Rattle.std.specs.Prelude.{take, not, ◌||◌}
use Rattle.std.specs.List.{list_any}
use Rattle.std.specs.Cmp.Lexicographic.{nat_list_cmp_total}
use Rattle.std.proofs.lemmas.Bool.{and_parts, false≢true}
use Rattle.std.proofs.lemmas.List.{take-append-drop, append_assoc}
use Rattle.std.proofs.lemmas.Map.Lookups.{exact_bytes}
use Rattle.hq_owned.proofs.Parts.{tied_true, tied_false}
use Rattle.hq_kept.specs.Customers.{has_name, names_apart, is_same_text}
use Rattle.hq_kept.specs.declared.account.Customer.{Customer}
use Rattle.hq_requests.specs.Spans.{From, asked_in, from_name, from_start, unasked_in}
use Rattle.hq_requests.specs.Directories.{name_of}
use Rattle.hq_requests.specs.declared.directory.Directory.{Directory}
use Rattle.hq_kept.specs.Customers.{keys_apart}

none_some : {A : Type 0} {x : A} → ◌≡◌ {A = Option A} (Some x) None → ⊥
none_some h = cc

some_same : {A : Type 0} (x y : A) → ◌≡◌ {A = Option A} (Some x) (Some y) → x ≡ y
some_same x y h = cc

-- ---- where nothing is behind

append_none : (xs : List Customer) → xs ++ [] ≡ xs
append_none [] = refl
append_none (x ∷ xs) = ap (λ ys. x ∷ ys) (append_none xs)

pub all_asked : (d : Directory) (start : Option (List ℕ)) → unasked_in d (From start) ≡ [] →
    asked_in d (From start) ≡ from_start start d.customers
all_asked d start h =
    let xs : List Customer = from_start start d.customers in
    sym (append_none (take 100 xs)) ∙ ap (λ ys. take 100 xs ++ ys) (sym h)
    ∙ take-append-drop 100 xs

-- ---- where some are

or_false : (a b : Bool) → (a || b) ≡ false → (a ≡ false) × (b ≡ false)
or_false true b e = absurd (false≢true (sym e))
or_false false b e = (refl, e)

not_true : (a : Bool) → not a ≡ true → a ≡ false
not_true true e = absurd (false≢true e)
not_true false e = refl

-- a test that none of some passes, one among them does not pass
not_among : (q : Customer → Bool) (xs ys : List Customer) (c : Customer) →
    list_any q (xs ++ c ∷ ys) ≡ false → q c ≡ false
not_among q [] ys c h = (or_false (q c) (list_any q ys) h).0
not_among q (x ∷ xs) ys c h =
    not_among q xs ys c (or_false (q x) (list_any q (xs ++ c ∷ ys)) h).1

-- from the name of one on are that one and those behind it
from_there : (xs ys : List Customer) (c : Customer) → names_apart (xs ++ c ∷ ys) ≡ true →
    from_name c.entry.name (xs ++ c ∷ ys) ≡ c ∷ ys
from_there [] ys c h = ap (λ b. cond b (c ∷ ys) (from_name c.entry.name ys))
    (tied_true nat_list_cmp_total c.entry.name)
from_there (x ∷ xs) ys c h =
    let parts = and_parts (not (list_any (has_name x.entry.name) (xs ++ c ∷ ys)))
    (names_apart (xs ++ c ∷ ys)) h in
    let other : is_same_text x.entry.name c.entry.name ≡ false =
    not_among (has_name x.entry.name) xs ys c
    (not_true (list_any (has_name x.entry.name) (xs ++ c ∷ ys)) parts.0) in
    let apart_names : c.entry.name ≢ x.entry.name =
    λ e. false≢true (sym other ∙ ap (is_same_text x.entry.name) e
    ∙ tied_true nat_list_cmp_total x.entry.name) in
    ap (λ b. cond b (x ∷ xs ++ c ∷ ys) (from_name c.entry.name (xs ++ c ∷ ys)))
    (tied_false exact_bytes c.entry.name x.entry.name apart_names) ∙ from_there xs ys c parts.1

-- some stand before those from a name on
before_name : (name : List ℕ) (cs : List Customer) →
    (front : List Customer) × (cs ≡ front ++ from_name name cs)
before_name name [] = ([], refl)
before_name name (c ∷ cs) = by (before_name name cs) (has_name name c) where
  by : (front : List Customer) × (cs ≡ front ++ from_name name cs) → (b : Bool) →
      (front : List Customer) × (c ∷ cs ≡ front ++ cond b (c ∷ cs) (from_name name cs))
  by rest true = ([], refl)
  by rest false = (c ∷ rest.0, ap (λ xs. c ∷ xs) rest.1)

before : (start : Option (List ℕ)) (cs : List Customer) →
    (front : List Customer) × (cs ≡ front ++ from_start start cs)
before None cs = ([], refl)
before (Some name) cs = before_name name cs

goes_from : (front xs ys cs : List Customer) (y : Customer) → names_apart cs ≡ true →
    cs ≡ front ++ (xs ++ y ∷ ys) → from_name y.entry.name cs ≡ y ∷ ys
goes_from front xs ys cs y apart is =
    let parts : cs ≡ (front ++ xs) ++ y ∷ ys = is ∙ sym (append_assoc front xs (y ∷ ys)) in
    ap (from_name y.entry.name) parts
    ∙ from_there (front ++ xs) ys y (subst (λ zs. names_apart zs ≡ true) parts apart)

pub goes_on : (d : Directory) (start : Option (List ℕ)) (c : Customer) (more : List Customer) →
    unasked_in d (From start) ≡ c ∷ more →
    asked_in d (From start) ++ from_start (Some (name_of c)) d.customers ≡
    from_start start d.customers
goes_on d start c more h =
    let cs : List Customer = d.customers in
    let here : List Customer = from_start start cs in
    let apart = (and_parts (names_apart cs) (keys_apart cs) d.apart).0 in
    let split : take 100 here ++ c ∷ more ≡ here =
    ap (λ ys. take 100 here ++ ys) (sym h) ∙ take-append-drop 100 here in
    let at = before start cs in
    ap (λ ys. take 100 here ++ ys) (goes_from at.0 (take 100 here) more cs c apart
    (at.1 ∙ ap (λ zs. at.0 ++ zs) (sym split))) ∙ split

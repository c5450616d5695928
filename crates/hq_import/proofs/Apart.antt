-- The customers of a directory have names and keys of their own.
use Rattle.std.proofs.Common.{◌≡◌, ℕ, Bool, true, false, not, ◌&&◌, List, [], ◌∷◌, ◌++◌, Result, Ok}
use Rattle.std.proofs.Common.{Err, IfOk, IsTrue, Vec, Global, refl, sym, subst}
use Rattle.std.specs.List.{list_any}
use Rattle.std.proofs.lemmas.Bool.{and_parts, or_parts}
use Rattle.std.proofs.lemmas.List.Recursion.{or_push}
use Rattle.hq_values.specs.Readers.{◌>>=◌, guard, seen_by}
use Rattle.hq_kept.specs.declared.account.Customer.{Customer}
use Rattle.hq_kept.specs.Customers.{is_same_text, names_apart, keys_apart, are_customers}
use Rattle.hq_import.specs.Directories.{is_name_taken, is_taken, next_customer, customers_under}
use Rattle.hq_import.specs.Refused.{ReadsDirectory}
use Rattle.hq_import.specs.declared.refused.DirectoryFail.{DirectoryFail}
use Rattle.hq_import.specs.declared.refused.DirectoryRefusal.{DirectoryRefusal}
use Rattle.hq_import.proofs.Seeing.{same_either_way}

pub err_ok : {A E : Type 0} (r : E) (a : A) → ◌≡◌ {A = Result A E} (Err r) (Ok a) → ⊥
err_ok r a e = cc

pub same_ok : {A : Type 0} (E : Type 0) (a b : A) → ◌≡◌ {A = Result A E} (Ok a) (Ok b) → a ≡ b
same_ok E a b e = cc

pub none : (a : Bool) → not a ≡ true → a ≡ false
none true h = sym h
none false h = refl

-- values no two of which are the same
abbrev pub apart : {A : Type 0} → (A → A → Bool) → List A → Bool
apart same [] = true
apart same (x ∷ xs) = not (list_any (same x) xs) && apart same xs

-- a value that is the same as none goes behind the others
pub apart_push : {A : Type 0} (same : A → A → Bool) → ((a b : A) → same a b ≡ same b a) →
    (xs : List A) (y : A) → apart same xs ≡ true → list_any (same y) xs ≡ false →
    apart same (xs ++ y ∷ []) ≡ true
apart_push same turned [] y h n = refl
apart_push same turned (x ∷ xs) y h n =
    let own = and_parts (not (list_any (same x) xs)) (apart same xs) h in
    let new = or_parts (same y x) (list_any (same y) xs) n in
    let pushed = or_push (list_any (same x)) (same x) refl (λ _ _. refl) xs y in
    rw (
      pushed,
      none (list_any (same x) xs) own.0,
      turned x y,
      new.0,
      apart_push same turned xs y own.1 new.1,
    ) refl

abbrev same_name : Customer → Customer → Bool
same_name c d = is_same_text c.entry.name d.entry.name

abbrev same_key : Customer → Customer → Bool
same_key c d = is_same_text c.key d.key

-- customers with names and keys of their own stay so with one whose name and key are new
customers_push : (cs : List Customer) (c : Customer) → are_customers cs ≡ true →
    is_name_taken cs c.entry.name ≡ false → is_taken cs c.key ≡ false →
    are_customers (cs ++ c ∷ []) ≡ true
customers_push cs c h named taken =
    let own = and_parts (names_apart cs) (keys_apart cs) h in
    rw (
      apart_push same_name (λ a b. same_either_way a.entry.name b.entry.name) cs c own.0 named,
      apart_push same_key (λ a b. same_either_way a.key b.key) cs c own.1 taken,
    ) refl

-- where both tests pass, neither name nor key is doubled
passed_both : (named taken : Bool) (two three : DirectoryRefusal) (customer c : Customer) →
    (guard (not named) two >>= (λ _. guard (not taken) three >>= (λ _. Ok customer))) ≡ Ok c →
    (named ≡ false) × (taken ≡ false) × (customer ≡ c)
passed_both true taken two three customer c h = absurd (err_ok two c h)
passed_both false true two three customer c h = absurd (err_ok three c h)
passed_both false false two three customer c h = (refl, refl, same_ok DirectoryRefusal customer c h)

accepted : (earlier : List Customer) (few : Bool) (one two three : DirectoryRefusal)
    (read : Result Customer DirectoryRefusal) (c : Customer)
    → (guard few one >>= (λ _. read >>=
    (λ customer. guard (not (is_name_taken earlier customer.entry.name)) two >>=
    (λ _. guard (not (is_taken earlier customer.key)) three >>= (λ _. Ok customer))))) ≡ Ok c
    → (is_name_taken earlier c.entry.name ≡ false) × (is_taken earlier c.key ≡ false)
accepted earlier false one two three read c h = absurd (err_ok one c h)
accepted earlier true one two three (Err e) c h = absurd (err_ok e c h)
accepted earlier true one two three (Ok customer) c h =
    let told = passed_both (is_name_taken earlier customer.entry.name)
    (is_taken earlier customer.key)
    two three customer c h in (
      subst (λ x. is_name_taken earlier x.entry.name ≡ false) told.2 told.0,
      subst (λ x. is_taken earlier x.key ≡ false) told.2 told.1,
    )

new_customer : (columns : ℕ) (earlier : List Customer) (row : List (List ℕ)) (c : Customer) →
    next_customer columns earlier row ≡ Ok c → (is_name_taken earlier c.entry.name ≡ false)
    × (is_taken earlier c.key ≡ false)
unfolding next_customer
new_customer columns earlier row c h = accepted earlier _ _ _ _ _ c h

-- what the rows of a directory hold
pub under_apart : (columns : ℕ) (rows : List (List (List ℕ))) (earlier cs : List Customer) →
    are_customers earlier ≡ true → customers_under columns earlier rows ≡ Ok cs →
    are_customers cs ≡ true
unfolding customers_under
under_apart columns [] earlier cs h read =
    subst (λ xs. are_customers xs ≡ true) (same_ok DirectoryRefusal earlier cs read) h
under_apart columns (row ∷ rows) earlier cs h read =
    by (λ c. under_apart columns rows (earlier ++ c ∷ []) cs)
    (next_customer columns earlier row) refl read where
      by : ((c : Customer) → are_customers (earlier ++ c ∷ []) ≡ true →
          customers_under columns (earlier ++ c ∷ []) rows ≡ Ok cs → are_customers cs ≡ true)
          → (o : Result Customer DirectoryRefusal) → next_customer columns earlier row ≡ o →
          (o >>= (λ customer. customers_under columns (earlier ++ customer ∷ []) rows)) ≡ Ok cs →
          are_customers cs ≡ true
      by further (Err e) f g = absurd (err_ok e cs g)
      by further (Ok c) f g =
          let new = new_customer columns earlier row c f in
          further c (customers_push earlier c h new.0 new.1) g

-- what was read of them
pub read_apart : (refused : Type 0) (columns : ℕ)
    (result : Result (Vec Customer Global) DirectoryFail) (rows : List (List (List ℕ))) →
    ReadsDirectory refused (seen_by (λ v. v.items) result) (customers_under columns [] rows) →
    IfOk result (λ v. IsTrue (are_customers v.items))
read_apart refused columns (Ok v) rows read = under_apart columns rows [] v.items refl read
read_apart refused columns (Err e) rows read = tt

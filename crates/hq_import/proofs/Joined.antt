-- The keys of a file are keys of the customers, each apart from all others.
use Rattle.std.proofs.Common.{◌≡◌, ℕ, Bool, true, false, not, ap, ◌∙◌, ◌&&◌, List, [], ◌∷◌, ◌++◌}
use Rattle.std.proofs.Common.{Result, Ok, Err, IfOk, IsTrue, Vec, Global, refl, sym, subst}
use Rattle.std.specs.List.{list_any}
use Rattle.std.proofs.lemmas.Bool.{and_parts}
use Rattle.std.proofs.lemmas.List.{append-nil, append_assoc}
use Rattle.hq_values.specs.Readers.{◌>>=◌, guard, seen_by}
use Rattle.hq_kept.specs.Customers.{has_name}
use Rattle.hq_kept.specs.declared.account.Customer.{Customer}
use Rattle.hq_import.specs.Keys.{all_join, are_keys, is_key_taken, is_namesake, joins, keys_under}
use Rattle.hq_import.specs.Keys.{next_key}
use Rattle.hq_import.specs.Refused.{ReadsDirectory}
use Rattle.hq_import.specs.declared.keys.NamedKey.{NamedKey}
use Rattle.hq_import.specs.declared.refused.DirectoryFail.{DirectoryFail}
use Rattle.hq_import.specs.declared.refused.DirectoryRefusal.{DirectoryRefusal}
use Rattle.hq_import.proofs.Apart.{err_ok, same_ok}

-- a key that joins all goes behind them
push : (customers : List Customer) (earlier ks : List NamedKey) (k : NamedKey) →
    all_join customers earlier ks ≡ true → joins customers (earlier ++ ks) k ≡ true →
    all_join customers earlier (ks ++ k ∷ []) ≡ true
push customers earlier [] k all new =
    ap (λ b. b && true) (ap (λ all. joins customers all k) (sym (append-nil earlier)) ∙ new)
push customers earlier (x ∷ ks) k all new =
    let own = and_parts (joins customers earlier x) (all_join customers (earlier ++ x ∷ []) ks) all
    in
    rw (
      own.0,
      push customers (earlier ++ x ∷ []) ks k own.1
          (subst (λ all. joins customers all k ≡ true)
          (sym (append_assoc earlier (x ∷ []) ks)) new),
    ) refl

-- where all three tests pass, the key joins
passed : (known named taken : Bool) (one two three : DirectoryRefusal) (key k : NamedKey)
    → (guard known one >>= (λ _. guard (not named) two >>=
    (λ _. guard (not taken) three >>= (λ _. Ok key)))) ≡ Ok k
    → (known && not named && not taken ≡ true) × (key ≡ k)
passed false named taken one two three key k h = absurd (err_ok one k h)
passed true true taken one two three key k h = absurd (err_ok two k h)
passed true false true one two three key k h = absurd (err_ok three k h)
passed true false false one two three key k h = (refl, same_ok DirectoryRefusal key k h)

accepted : (customers : List Customer) (earlier : List NamedKey) (few : Bool)
    (four one two three : DirectoryRefusal) (read : Result NamedKey DirectoryRefusal) (k : NamedKey)
    → (guard few four >>= (λ _. read >>=
    (λ key. guard (list_any (has_name key.customer) customers) one >>=
    (λ _. guard (not (list_any (is_namesake key) earlier)) two >>=
    (λ _. guard (not (is_key_taken customers earlier key.key)) three >>= (λ _. Ok key)))))) ≡ Ok k
    → joins customers earlier k ≡ true
accepted customers earlier false four one two three read k h = absurd (err_ok four k h)
accepted customers earlier true four one two three (Err e) k h = absurd (err_ok e k h)
accepted customers earlier true four one two three (Ok key) k h =
    let told = passed (list_any (has_name key.customer) customers)
    (list_any (is_namesake key) earlier) (is_key_taken customers earlier key.key)
    one two three key k h in
    subst (λ x. joins customers earlier x ≡ true) told.1 told.0

new_key : (customers : List Customer) (earlier : List NamedKey) (row : List (List ℕ))
    (k : NamedKey) → next_key customers earlier row ≡ Ok k → joins customers earlier k ≡ true
unfolding next_key
new_key customers earlier row k h = accepted customers earlier _ _ _ _ _ _ k h

-- what the rows of a file of keys hold
under_joined : (customers : List Customer) (rows : List (List (List ℕ)))
    (earlier ks : List NamedKey) → are_keys customers earlier ≡ true →
    keys_under customers earlier rows ≡ Ok ks → are_keys customers ks ≡ true
unfolding keys_under
under_joined customers [] earlier ks h read =
    subst (λ xs. are_keys customers xs ≡ true) (same_ok DirectoryRefusal earlier ks read) h
under_joined customers (row ∷ rows) earlier ks h read =
    by (λ k. under_joined customers rows (earlier ++ k ∷ []) ks)
    (next_key customers earlier row) refl read where
      by : ((k : NamedKey) → are_keys customers (earlier ++ k ∷ []) ≡ true →
          keys_under customers (earlier ++ k ∷ []) rows ≡ Ok ks → are_keys customers ks ≡ true)
          → (o : Result NamedKey DirectoryRefusal) → next_key customers earlier row ≡ o →
          (o >>= (λ k. keys_under customers (earlier ++ k ∷ []) rows)) ≡ Ok ks →
          are_keys customers ks ≡ true
      by further (Err e) f g = absurd (err_ok e ks g)
      by further (Ok k) f g = further k
          (push customers [] earlier k h (new_key customers earlier row k f)) g

-- what was read of them
pub read_joined : (refused : Type 0) (customers : List Customer)
    (result : Result (Vec NamedKey Global) DirectoryFail) (rows : List (List (List ℕ))) →
    ReadsDirectory refused (seen_by (λ v. v.items) result) (keys_under customers [] rows) →
    IfOk result (λ v. IsTrue (are_keys customers v.items))
read_joined refused customers (Ok v) rows read = under_joined customers rows [] v.items refl read
read_joined refused customers (Err e) rows read = tt

-- Terms of WHERE and keys of ORDER BY as tests of typed keys, and values as they are cast.
use Rattle.std.proofs.Common.{◌≡◌, ◌||◌, ℕ, ℤ, pos, negsuc, true, false, List, refl, ◌∙◌, arith}
use Rattle.std.proofs.Common.{nat_cmp, int_cmp, int_eq, is_eq}
use Rattle.std.specs.Prelude.{int_lt, nat_lt, nat_le}
use Rattle.std.specs.Ordering.{eq_by_cmp}
use Rattle.std.proofs.lemmas.Int.{ints}
use Rattle.std.proofs.lemmas.Cmp.{nat_list_cmp_total}
use Rattle.std.proofs.lemmas.Bool.Decides.{nat_tests}
use Rattle.sqlite.specs.declared.types.Value.TheVariants.{Int, Text}
use Rattle.sqlite_sql.specs.declared.ops.BinaryOp.TheVariants.{Compare, Or}
use Rattle.sqlite.specs.Collation.TheVariants.{Binary}
use Rattle.sqlite_sql.specs.Ops.{binary}
use Rattle.sqlite_sql.specs.declared.ops.CompareOp.TheVariants.{Eq, Gt, Ge, Lt, Le}
use Rattle.sqlite_value.specs.Order.{value_cmp}
use Rattle.sqlite_value.proofs.OrderLemmas.{value_cmp-Int}
use Rattle.sqlite_typed.proofs.TestLemmas.{at_texts, at_ints, at_or, turn_eq, truth_or}
use Rattle.hq_owned.specs.Owned.{text_cmp}
use Rattle.hq_keyed.specs.Values.{number}

-- column = parameter, for texts and for numbers: the test of the parameter with the column
pub text_is : (x c : List ℕ) → truth_or false (binary (Compare Eq Binary) (Text x) (Text c)) ≡
    eq_by_cmp text_cmp c x
text_is x c = at_texts false Eq x c ∙ turn_eq text_cmp nat_list_cmp_total x c

same_numbers : (x n : ℕ) → int_eq (pos x) (pos n) ≡ is_eq (nat_cmp n x)
same_numbers x n = grind (arith, nat_tests)

pub number_is : (x n : ℕ) → truth_or false (binary (Compare Eq Binary) (number x) (number n)) ≡
    eq_by_cmp nat_cmp n x
number_is x n = at_ints false Eq (pos x) (pos n) ∙ same_numbers x n

-- column > parameter
pub number_above : (x : ℕ) (n : ℤ) →
    truth_or false (binary (Compare Gt Binary) (number x) (Int n)) ≡ int_lt n (pos x)
number_above x n = at_ints false Gt (pos x) n

-- column >= parameter, and column <= parameter
pub number_from : (x n : ℕ) → truth_or false (binary (Compare Ge Binary) (number x) (number n)) ≡
    nat_le n x
number_from x n = at_ints false Ge (pos x) (pos n)

pub number_to : (x n : ℕ) → truth_or false (binary (Compare Le Binary) (number x) (number n)) ≡
    nat_le x n
number_to x n = at_ints false Le (pos x) (pos n)

-- column < parameter
pub number_below : (x n : ℕ) → truth_or false (binary (Compare Lt Binary) (number x) (number n)) ≡
    nat_lt x n
number_below x n = at_ints false Lt (pos x) (pos n)

same_order : (a b : ℕ) → int_cmp (pos a) (pos b) ≡ nat_cmp a b
same_order a b = grind (arith, ints)

-- the order of numbers
pub number_order : (a b : ℕ) → value_cmp (number a) (number b) ≡ nat_cmp a b
number_order a b = value_cmp-Int (pos a) (pos b) ∙ same_order a b

pub above_none : (x : ℕ) → int_lt (negsuc 0) (pos x) ≡ true
above_none x = refl

pub above_some : (n x : ℕ) → int_lt (pos n) (pos x) ≡ nat_lt n x
above_some n x = refl

-- a place that is none of 1 to n
pub number_beside : (x n : ℕ) → truth_or false
    (binary Or (binary (Compare Lt Binary) (number x) (number 1))
    (binary (Compare Gt Binary) (number x) (number n))) ≡ (nat_lt x 1 || nat_lt n x)
number_beside x n = at_or false _ _ (at_ints false Lt (pos x) (pos 1))
    (at_ints false Gt (pos x) (pos n))

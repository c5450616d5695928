-- Messages that pass a test, found page by page, until there are more than a page of them.
use Rattle.std.proofs.Common.{◌≡◌, ℕ, ◌≤◌, Bool, true, false, List, ◌++◌, length, take, drop}
use Rattle.std.proofs.Common.{filter, Some, None, refl, sym, ap, ◌∙◌, arith}
use Rattle.std.specs.Prelude.{nat_lt, if◌then◌else◌}
use Rattle.std.proofs.lemmas.Bool.Decides.{nat_tests}
use Rattle.std.proofs.lemmas.List.{append_assoc, take-append-drop, take-append-le, take_all}
use Rattle.std.proofs.lemmas.List.{length-take}
use Rattle.std.proofs.lemmas.List.Elements.{filter-append}
use Rattle.hq_kept.specs.declared.message.Message.{Message}
use Rattle.hq_owned.proofs.Cases.{none_some}
use Rattle.hq_rules.specs.Messages.{page}
use Rattle.hq_reads.specs.Reports.{last_serial, next_serial}
use Rattle.hq_reads.proofs.Pages.{page_of_more}
use Rattle.hq_reads.proofs.Paged.{no_page}

-- what is found in a page and what is found behind it are all
pub found_on : (p : Message → Bool) (n : ℕ) (before xs : List Message) →
    (before ++ filter p (take n xs)) ++ filter p (drop n xs) ≡ before ++ filter p xs
found_on p n before xs = append_assoc before (filter p (take n xs)) (filter p (drop n xs))
    ∙ ap (λ ys. before ++ ys) (sym (filter-append p (take n xs) (drop n xs))
    ∙ ap (filter p) (take-append-drop n xs))

pub goes_on : (p : Message → Bool) (before found first xs left : List Message) →
    found ≡ before ++ filter p first → first ≡ take 101 xs → left ≡ drop 101 xs →
    found ++ filter p left ≡ before ++ filter p xs
goes_on p before found first xs left is page behind =
    ap (λ ys. ys ++ filter p left) is
    ∙ (λ i. (before ++ filter p (page i)) ++ filter p (behind i)) ∙ found_on p 101 before xs

-- a page that is all
pub last_page : (p : Message → Bool) (before found first xs : List Message) →
    found ≡ before ++ filter p first → first ≡ xs →
    take 101 found ≡ take 101 (before ++ filter p xs)
last_page p before found first xs is all =
    ap (take 101) (is ∙ ap (λ ys. before ++ filter p ys) all)

-- what is behind as many as are wanted is not looked at
pub enough : (p : Message → Bool) (before found first xs : List Message) →
    found ≡ before ++ filter p first → first ≡ take 101 xs → 101 ≤ length found →
    take 101 found ≡ take 101 (before ++ filter p xs)
enough p before found first xs is page many =
    sym (take-append-le 101 found (filter p (drop 101 xs)) many)
    ∙ ap (take 101) (goes_on p before found first xs (drop 101 xs) is page refl)

few_taken : (xs : List Message) → nat_lt 100 (length (take 101 xs)) ≡ false → length xs ≤ 101
few_taken xs e = let cut = length-take 101 xs in grind (arith, nat_tests)

-- where a page says that there is none behind it, it is all
pub no_next : (xs : List Message) → next_serial (take 101 xs) ≡ None → take 101 xs ≡ xs
no_next xs e = by (nat_lt 100 (length (take 101 xs))) refl e where
  by : (b : Bool) → nat_lt 100 (length (take 101 xs)) ≡ b →
      (if b then last_serial (take 101 xs) else None) ≡ None → take 101 xs ≡ xs
  by true is none = let all = no_page 100 xs none in ap (take 101) all ∙ sym all
  by false is none = take_all 101 xs (few_taken xs is)

-- else it goes on behind its last
pub some_next : (xs : List Message) (k : ℕ) → next_serial xs ≡ Some k → last_serial xs ≡ Some k
some_next xs k e = by (nat_lt 100 (length xs)) e where
  by : (b : Bool) → (if b then last_serial xs else None) ≡ Some k → last_serial xs ≡ Some k
  by true some = some
  by false some = absurd (none_some k some)

-- the page of what is found is that of its first hundred and one
pub page_of_found : (found xs : List Message) → take 101 found ≡ take 101 xs →
    page found ≡ page xs
page_of_found found xs e = sym (page_of_more found (take 101 found) refl) ∙ page_of_more xs
    (take 101 found) e

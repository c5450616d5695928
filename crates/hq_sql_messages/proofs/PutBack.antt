-- Rows that are put back under their numbers in any order.
use Rattle.std.proofs.Common.{◌≡◌, ℤ, ◌<ℤ◌, false, List, [], ◌∷◌, map, fold, refl}
use Rattle.std.proofs.Common.{sym, ap, ◌∙◌, arith, IsPermutation, int_cmp, int_eq}
use Rattle.std.specs.declared.cmp.Ordering.{Ordering}
use Rattle.std.specs.declared.cmp.Ordering.TheVariants.{Less, Equal, Greater}
use Rattle.std.specs.List.{AllByRecursion}
use Rattle.std.proofs.lemmas.Int.{ints}
use Rattle.std.proofs.lemmas.List.Sorted.{IsPermutation-refl, IsPermutation-cons}
use Rattle.std.proofs.lemmas.List.Sorted.{IsPermutation-trans, IsPermutation-insert}
use Rattle.sqlite.specs.Tree.{IsAscending}
use Rattle.sqlite_keyed.specs.Keyed.{IsKeyedBy, insert_by}
use Rattle.sqlite_keyed.proofs.KeyedLemmas.{Less-from_lt, lt_from_Less}
use Rattle.sqlite_keyed.proofs.ListLemmas.{along_permutation, ascending_weaker}

-- ---- an order of mapped values is one of the values

-- the list is one of values of f, and each way to write it as that leads to one of the other
abbrev Unmapped : {A B : Type 0} → (A → B) → List B → List B → Type 0
Unmapped {A} f l m = (xs : List A) → l ≡ map f xs → (ys : List A) × IsPermutation xs ys
    × (m ≡ map f ys)

module _ {A B : Type 0} (f : A → B) where
  kept_first : (b : B) (l m : List B) → Unmapped f l m → Unmapped f (b ∷ l) (b ∷ m)
  kept_first b l m h [] e = cc
  kept_first b l m h (x ∷ xs) e =
      let head : b ≡ f x = cc in
      let tail : l ≡ map f xs = cc in
      let it = h xs tail in
      (x ∷ it.0, IsPermutation-cons x xs it.0 it.1, (λ i. head i ∷ it.2 i))

  turned : (b c : B) (l : List B) → Unmapped f (b ∷ c ∷ l) (c ∷ b ∷ l)
  turned b c l [] e = cc
  turned b c l (x ∷ []) e = cc
  turned b c l (x ∷ y ∷ xs) e =
      let one : b ≡ f x = cc in
      let two : c ≡ f y = cc in
      let tail : l ≡ map f xs = cc in
      (y ∷ x ∷ xs, two_turned x y xs, (λ i. two i ∷ one i ∷ tail i))
    where
      two_turned : (x y : A) (xs : List A) → IsPermutation (x ∷ y ∷ xs) (y ∷ x ∷ xs)
      two_turned x y xs = IsPermutation-insert (y ∷ xs) 1 x

  chained : (k l m : List B) → Unmapped f k l → Unmapped f l m → Unmapped f k m
  chained k l m h g xs e =
      let one = h xs e in
      let two = g one.0 one.2 in
      (two.0, IsPermutation-trans xs one.0 two.0 one.1 two.1, two.2)

  pub unmapped : (xs : List A) (l : List B) → IsPermutation (map f xs) l →
      (ys : List A) × IsPermutation xs ys × (l ≡ map f ys)
  unmapped xs l same = along_permutation (Unmapped f) (λ l xs e. (xs, IsPermutation-refl xs, e))
      kept_first turned chained (map f xs) l same xs refl

-- ---- rows of different numbers

module _ {X : Type 0} (key : X → ℤ) where
  -- of two rows the one of the smaller number may come first or last
  rising_two : (xs : List X) (a b : X) → key a <ℤ key b →
      insert_by key (insert_by key xs a) b ≡ insert_by key (insert_by key xs b) a
  rising_two [] a b lt =
      let over : int_cmp (key b) (key a) ≡ Greater = grind (arith, ints) in
      rw (Less-from_lt (key a) (key b) lt, over) refl
  rising_two (x ∷ xs) a b lt =
      go (int_cmp (key x) (key a)) (int_cmp (key x) (key b)) refl refl
      (rising_two xs a b lt)
    where
      over : int_cmp (key b) (key a) ≡ Greater
      over = grind (arith, ints)

      go : (o p : Ordering) → int_cmp (key x) (key a) ≡ o → int_cmp (key x) (key b) ≡ p →
          insert_by key (insert_by key xs a) b ≡ insert_by key (insert_by key xs b) a →
          insert_by key (insert_by key (x ∷ xs) a) b ≡ insert_by key (insert_by key (x ∷ xs) b) a
      go Less Less e f more = rw (e, f, e) (ap (λ l. x ∷ l) more)
      go Less Equal e f more = absurd (grind (arith, ints))
      go Less Greater e f more = absurd (grind (arith, ints))
      go Equal Less e f more = rw (e, f, Less-from_lt (key a) (key b) lt, e) refl
      go Equal Equal e f more = absurd (grind (arith, ints))
      go Equal Greater e f more = absurd (grind (arith, ints))
      go Greater Less e f more = rw (e, f, Less-from_lt (key a) (key b) lt, e) refl
      go Greater Equal e f more = rw (e, f, Less-from_lt (key a) (key b) lt, over) refl
      go Greater Greater e f more = rw (e, f, Less-from_lt (key a) (key b) lt, over) refl

  -- so may two of different numbers
  two : (xs : List X) (a b : X) → int_eq (key a) (key b) ≡ false →
      insert_by key (insert_by key xs a) b ≡ insert_by key (insert_by key xs b) a
  two xs a b apart = go (int_cmp (key a) (key b)) refl
    where
      go : (o : Ordering) → int_cmp (key a) (key b) ≡ o →
          insert_by key (insert_by key xs a) b ≡ insert_by key (insert_by key xs b) a
      go Less e = rising_two xs a b (lt_from_Less (key a) (key b) e)
      go Equal e = absurd (grind (arith, ints))
      go Greater e = let under : key b <ℤ key a = grind (arith, ints) in
          sym (rising_two xs b a under)

  abbrev IsAside : ℤ → List X → Type 0
  IsAside k xs = AllByRecursion (λ x. int_eq k (key x) ≡ false) xs

  abbrev AreAside : List X → Type 0
  AreAside = IsAscending (λ a b. int_eq (key a) (key b) ≡ false)

  -- rows of different numbers, put in either order, are the same
  abbrev AreSame : List X → List X → Type 0
  AreSame xs ys = AreAside xs → AreAside ys × (((k : ℤ) → IsAside k xs → IsAside k ys)
      × ((l : List X) → fold (insert_by key) l xs ≡ fold (insert_by key) l ys))

  same_first : (x : X) (xs ys : List X) → AreSame xs ys → AreSame (x ∷ xs) (x ∷ ys)
  same_first x xs ys h u =
      let it = h u.1 in (
        (it.1.0 (key x) u.0, it.0),
        (λ k m. (m.0, it.1.0 k m.1), λ l. it.1.1 (insert_by key l x)),
      )

  same_turned : (x y : X) (xs : List X) → AreSame (x ∷ y ∷ xs) (y ∷ x ∷ xs)
  same_turned x y xs u =
      let back : int_eq (key y) (key x) ≡ false = let apart = u.0.0 in grind (arith, ints) in (
        ((back, u.1.0), (u.0.1, u.1.1)),
        (
          λ k m. (m.1.0, (m.0, m.1.1)),
          λ l. ap (λ m. fold (insert_by key) m xs) (two l x y u.0.0),
        ),
      )

  same_then : (xs ys zs : List X) → AreSame xs ys → AreSame ys zs → AreSame xs zs
  same_then xs ys zs h g u =
      let one = h u in
      let two = g one.0 in
      (two.0, (λ k m. two.1.0 k (one.1.0 k m), λ l. one.1.1 l ∙ two.1.1 l))

  -- rows whose numbers rise, put in any order, are the same
  pub put_in_any_order : (xs ys l : List X) → IsKeyedBy key xs → IsPermutation xs ys →
      fold (insert_by key) l xs ≡ fold (insert_by key) l ys
  put_in_any_order xs ys l up same =
      (along_permutation AreSame (λ xs u. (u, (λ k m. m, λ l. refl))) same_first same_turned
      same_then xs ys same
      (ascending_weaker (λ a b. key a <ℤ key b) (λ a b. int_eq (key a) (key b) ≡ false)
      (λ a b h. grind (arith, ints)) xs up)).1.1 l

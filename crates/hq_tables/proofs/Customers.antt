-- Tables whose keys begin with the customer's name: what one customer has of them, through each
-- read and change. The general lemmas at names, so that a further table needs only the laws of the
-- rest of its key.
use Rattle.std.proofs.Common.{◌≡◌, ◌≢◌, ◌⊎◌, inl, inr, ℕ, Bool, true, false, not, ◌&&◌, List, sym}
use Rattle.std.proofs.Common.{refl, ap, ◌∙◌}
use Rattle.std.proofs.lemmas.Bool.{both_ways}
use Rattle.std.specs.declared.cmp.Ordering.{Ordering}
use Rattle.std.specs.Ordering.{eq_by_cmp}
use Rattle.std.specs.Cmp.{IsTotalOrder}
use Rattle.std.specs.Cmp.Lexicographic.{nat_list_cmp_total}
use Rattle.std.specs.FinMap.{FinMap, empty, entries, get, insert, remove, retain_keys, get-empty}
use Rattle.std.specs.FinMap.{same_map}
use Rattle.std.proofs.lemmas.Map.Lookups.{CmpEqualImpliesEq, exact_bytes}
use Rattle.std.proofs.lemmas.Map.Views.{tells_apart}
use Rattle.hq_owned.specs.Owned.{by_both, part_of, rows_of}
use Rattle.hq_owned.proofs.Parts.{get_part, entries_part, part_insert, part_insert_other}
use Rattle.hq_owned.proofs.Parts.{part_remove, part_remove_other, part_retain, part_retain_all}
use Rattle.hq_owned.proofs.Parts.{tied_true, tied_false}
use Rattle.hq_tables.specs.Tables.{text_cmp, left_of}

pub cases_name : (d c : List ℕ) → (d ≡ c) ⊎ (d ≢ c)
cases_name d c = elim (eq_by_cmp text_cmp d c) as (λ b. eq_by_cmp text_cmp d c ≡ b → (d ≡ c)
    ⊎ (d ≢ c)) [
      | true ↦ λ h. inl (tells_apart exact_bytes d c h)
      | false ↦ λ h. inr (λ e. both_ways _ h (ap (eq_by_cmp text_cmp d) (sym e)
          ∙ tied_true nat_list_cmp_total d))
    ] refl

module _ {K X : Type 0} {R : K → K → Ordering} (r : IsTotalOrder R) (re : CmpEqualImpliesEq R) where
  pub read_own : (c : List ℕ) (m : FinMap (by_both text_cmp R) X) (k : K) →
      get (part_of text_cmp c m) k ≡ get m (c, k)
  read_own = get_part R nat_list_cmp_total

  pub rows_own : (c : List ℕ) (m : FinMap (by_both text_cmp R) X) →
      entries (part_of text_cmp c m) ≡ rows_of text_cmp c (entries m)
  rows_own = entries_part R nat_list_cmp_total

  pub put_own : (c : List ℕ) (m : FinMap (by_both text_cmp R) X) (k : K) (v : X) →
      part_of text_cmp c (insert m (c, k) v) ≡ insert (part_of text_cmp c m) k v
  put_own = part_insert nat_list_cmp_total r exact_bytes re

  pub put_other : (c d : List ℕ) (m : FinMap (by_both text_cmp R) X) (k : K) (v : X) → d ≢ c →
      part_of text_cmp d (insert m (c, k) v) ≡ part_of text_cmp d m
  put_other = part_insert_other nat_list_cmp_total r exact_bytes re

  pub drop_own : (c : List ℕ) (m : FinMap (by_both text_cmp R) X) (k : K) →
      part_of text_cmp c (remove m (c, k)) ≡ remove (part_of text_cmp c m) k
  drop_own = part_remove nat_list_cmp_total r exact_bytes re

  pub drop_other : (c d : List ℕ) (m : FinMap (by_both text_cmp R) X) (k : K) → d ≢ c →
      part_of text_cmp d (remove m (c, k)) ≡ part_of text_cmp d m
  drop_other = part_remove_other nat_list_cmp_total r exact_bytes re

  pub sweep_own : (c : List ℕ) (m : FinMap (by_both text_cmp R) X) (p : K → Bool) →
      part_of text_cmp c (retain_keys m (left_of c p)) ≡ retain_keys (part_of text_cmp c m) p
  sweep_own c m p =
      part_retain nat_list_cmp_total r exact_bytes re c m (left_of c p)
      ∙ ap (retain_keys (part_of text_cmp c m)) (λ i k.
      (ap (λ b. not (b && not (p k))) (tied_true nat_list_cmp_total c) ∙ twice (p k)) i) where
        twice : (b : Bool) → not (not b) ≡ b
        twice true = refl
        twice false = refl

  pub sweep_other : (c d : List ℕ) (m : FinMap (by_both text_cmp R) X) (p : K → Bool) → d ≢ c →
      part_of text_cmp d (retain_keys m (left_of c p)) ≡ part_of text_cmp d m
  sweep_other c d m p apart = part_retain_all nat_list_cmp_total r exact_bytes re d m (left_of c p)
      (λ k. ap (λ b. not (b && not (p k))) (tied_false exact_bytes c d (λ e. apart (sym e))))

  pub none_own : (c : List ℕ) → part_of text_cmp c (empty {X = X} {R = by_both text_cmp R}) ≡ empty
  none_own c = same_map r re _ _ (λ k. get_part R nat_list_cmp_total c empty k
      ∙ get-empty (by_both text_cmp R) (c, k) ∙ sym (get-empty R k))

-- The orders of the tables' keys: each tells keys apart. Lines go by the name of the class, then by
-- the pattern.
use Rattle.std.proofs.Common.{◌≡◌, refl, sym, Ordering, Less, List, [], ◌∷◌, T}
use Rattle.std.specs.List.{AllByRecursion}
use Rattle.std.specs.Cmp.{IsTotalOrder, on_total, back_total, nat_cmp_total}
use Rattle.std.specs.Cmp.Lexicographic.{nat_list_cmp_total}
use Rattle.std.proofs.lemmas.Map.Lookups.{CmpEqualImpliesEq, exact_bytes, exact_unsigned}
use Rattle.hq_owned.proofs.Parts.{both_total, both_exact}
use Rattle.hq_kept.specs.declared.pattern.Class.TheVariants.{SenderSide, RecipientSide}
use Rattle.hq_kept.specs.Patterns.{class_name}
use Rattle.hq_tables.specs.Tables.{class_cmp, line_cmp, message_cmp, lines_cmp, mark_cmp}
use Rattle.hq_tables.specs.Tables.{newest_cmp}
use Rattle.hq_tables.specs.Tables.{end_cmp}
use Rattle.std.specs.FinMap.{is_sorted}
use Rattle.std.specs.FinMap.Entries.{below_all}
use Rattle.sqlite_trees.specs.Tree.{IsAscending}
use Rattle.hq_owned.proofs.Cases.{first, second, less}

class_exact : CmpEqualImpliesEq class_cmp
class_exact RecipientSide RecipientSide e = refl
class_exact RecipientSide SenderSide e = cc
class_exact SenderSide RecipientSide e = cc
class_exact SenderSide SenderSide e = refl

pub line_total : IsTotalOrder line_cmp
line_total = both_total (on_total class_name nat_list_cmp_total) nat_list_cmp_total

pub line_exact : CmpEqualImpliesEq line_cmp
line_exact = both_exact class_exact exact_bytes

pub message_total : IsTotalOrder message_cmp
message_total = both_total nat_list_cmp_total nat_cmp_total

pub message_exact : CmpEqualImpliesEq message_cmp
message_exact = both_exact exact_bytes exact_unsigned

pub newest_total : IsTotalOrder newest_cmp
newest_total = back_total nat_cmp_total

pub newest_exact : CmpEqualImpliesEq newest_cmp
newest_exact a b e = sym (exact_unsigned b a e)

pub end_total : IsTotalOrder end_cmp
end_total = both_total nat_list_cmp_total newest_total

pub end_exact : CmpEqualImpliesEq end_cmp
end_exact = both_exact exact_bytes newest_exact

pub lines_total : IsTotalOrder lines_cmp
lines_total = both_total nat_list_cmp_total line_total

pub lines_exact : CmpEqualImpliesEq lines_cmp
lines_exact = both_exact exact_bytes line_exact

pub mark_total : IsTotalOrder mark_cmp
mark_total = both_total nat_list_cmp_total nat_list_cmp_total

pub mark_exact : CmpEqualImpliesEq mark_cmp
mark_exact = both_exact exact_bytes exact_bytes

-- the entries of a map ascend
module _ {K X : Type 0} (R : K → K → Ordering) where
  pub below : (k : K) (es : List (K × X)) → T (below_all R k es) →
      AllByRecursion (λ (b : K × X). R k b.0 ≡ Less) es
  below k [] h = tt
  below k (e ∷ es) h = (less _ (first _ _ h), below k es (second _ _ h))

  pub ascending : (es : List (K × X)) → T (is_sorted R es) →
      IsAscending (λ (a b : K × X). R a.0 b.0 ≡ Less) es
  ascending [] h = tt
  ascending (e ∷ es) h = (below e.0 es (first _ _ h), ascending es (second _ _ h))

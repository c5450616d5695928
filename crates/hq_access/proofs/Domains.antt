-- The labels of a domain, and what stands after its dots: the code goes from dot to dot, the
-- definition over labels.
use Rattle.std.proofs.Common.{◌≡◌, ℕ, ◌+◌, ◌<◌, Bool, true, false, cond, not, List, [], ◌∷◌, ◌++◌}
use Rattle.std.proofs.Common.{length, refl, sym, ap, ◌∙◌, arith, append_assoc, append-nil}
use Rattle.std.specs.List.{after_first, before_first, join_with_byte, onto_first, position_or_len}
use Rattle.std.specs.List.{slice_split}
use Rattle.std.proofs.lemmas.List.Splits.{join_with_byte-slice_split, length-slice_split}
use Rattle.std.proofs.lemmas.List.Splits.{slice_split_first}
use Rattle.hq_values.specs.Addresses.{is_dot}
use Rattle.hq_kept.specs.Keys.{parents}

-- the labels of a domain
abbrev pub labels_of : List ℕ → List (List ℕ)
labels_of domain = slice_split is_dot domain

-- a label before others has a parent
one_parent : (label : List ℕ) (labels : List (List ℕ)) → 0 < length labels →
    parents (label ∷ labels) ≡ (46 ∷ join_with_byte 46 labels) ∷ parents labels
one_parent label [] some = let no : ⊥ = omega arith in absurd no
one_parent label (next ∷ labels) some = refl

-- a domain with a dot has what stands after it as its first parent
pub parents_at_dot : (domain : List ℕ) → position_or_len is_dot domain < length domain →
    parents (labels_of domain) ≡ (46 ∷ after_first is_dot domain)
    ∷ parents (labels_of (after_first is_dot domain))
parents_at_dot domain dotted =
    let above : List ℕ = after_first is_dot domain in
    let some : 0 < length (labels_of above) = omega (arith, length-slice_split is_dot above) in
    ap parents (slice_split_first is_dot domain 0 dotted)
    ∙ one_parent (before_first is_dot domain) (labels_of above) some
    ∙ ap (λ t. (46 ∷ t) ∷ parents (labels_of above)) (join_with_byte-slice_split 46 above)

-- a domain without a dot is one label
one_label : (domain : List ℕ) → position_or_len is_dot domain ≡ length domain →
    labels_of domain ≡ domain ∷ []
one_label [] none = refl
one_label (b ∷ bytes) none = by (is_dot b) none (one_label bytes) where
  by : (t : Bool) → cond (not t) (1 + position_or_len is_dot bytes) 0 ≡ length (b ∷ bytes) →
      (position_or_len is_dot bytes ≡ length bytes → labels_of bytes ≡ bytes ∷ []) →
      cond t ([] ∷ labels_of bytes) (onto_first b (labels_of bytes)) ≡ (b ∷ bytes) ∷ []
  by true e further = let no : ⊥ = omega (arith, e) in absurd no
  by false e further = ap (onto_first b) (further (omega (arith, e)))

pub parents_without_dot : (domain : List ℕ) → position_or_len is_dot domain ≡ length domain →
    parents (labels_of domain) ≡ []
parents_without_dot domain none = ap parents (one_label domain none)

-- one more key: that of the first dot of what is left
pub one_more_parent : (keys more all : List (List ℕ)) (rest above key : List ℕ) →
    position_or_len is_dot rest < length rest → above ≡ after_first is_dot rest → key ≡ 46 ∷ above →
    more ≡ keys ++ key ∷ [] → keys ++ parents (labels_of rest) ≡ all → more
    ++ parents (labels_of above) ≡ all
one_more_parent keys more all rest above key dotted is_above is_key is_more so_far =
    ap (λ ks. ks ++ parents (labels_of above)) is_more
    ∙ append_assoc keys (key ∷ []) (parents (labels_of above))
    ∙ ap (λ k. keys ++ k ∷ parents (labels_of above)) is_key
    ∙ ap (λ t. keys ++ (46 ∷ t) ∷ parents (labels_of t)) is_above
    ∙ sym (ap (λ ks. keys ++ ks) (parents_at_dot rest dotted))
    ∙ so_far

-- no more keys, where no dot is left
pub no_more_parents : (keys all : List (List ℕ)) (rest : List ℕ) →
    position_or_len is_dot rest ≡ length rest → keys ++ parents (labels_of rest) ≡ all → keys ≡ all
no_more_parents keys all rest none so_far = sym (append-nil keys)
    ∙ sym (ap (λ ks. keys ++ ks) (parents_without_dot rest none)) ∙ so_far

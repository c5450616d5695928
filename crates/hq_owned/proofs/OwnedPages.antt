-- One customer's rows: a test of the owner and of the rest, over the whole table, is a test of the
-- owner's part.
use Rattle.std.proofs.Common.{◌≡◌, Bool, true, false, cond, ◌&&◌, List, [], ◌∷◌, map, filter, refl}
use Rattle.std.proofs.Common.{ap}
use Rattle.std.specs.declared.cmp.Ordering.{Ordering}
use Rattle.std.specs.Ordering.{eq_by_cmp}
use Rattle.hq_owned.specs.Owned.{rows_of}

module _ {N K X : Type 0} (S : N → N → Ordering) (p : K × X → Bool) where
  pub owned : (c : N) (es : List ((N × K) × X)) →
      map (λ (e : (N × K) × X). (e.0.1, e.1))
      (filter (λ e. eq_by_cmp S c e.0.0 && p (e.0.1, e.1)) es) ≡ filter p (rows_of S c es)
  owned c [] = refl
  owned c (e ∷ es) =
      let rest = owned c es in
      let left = filter (λ (e : (N × K) × X). eq_by_cmp S c e.0.0 && p (e.0.1, e.1)) es in
      elim (eq_by_cmp S c e.0.0) as (λ b. map (λ (e : (N × K) × X). (e.0.1, e.1))
      (cond (b && p (e.0.1, e.1)) (e ∷ left) left) ≡ filter p
      (cond b ((e.0.1, e.1) ∷ rows_of S c es) (rows_of S c es))) [
        | true ↦ elim (p (e.0.1, e.1)) as (λ b. map (λ (e : (N × K) × X). (e.0.1, e.1))
            (cond b (e ∷ left) left) ≡ cond b ((e.0.1, e.1) ∷ filter p (rows_of S c es))
            (filter p (rows_of S c es))) [
              | true ↦ ap (λ xs. (e.0.1, e.1) ∷ xs) rest
              | false ↦ rest
            ]
        | false ↦ rest
      ]

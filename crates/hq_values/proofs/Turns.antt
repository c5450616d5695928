-- Steps that follow steps.
use Rattle.std.proofs.Common.{List, [], ◌∷◌, ◌++◌, subst, refl}
use Rattle.hq_values.specs.Turns.{InTurn}

module _ {S A R : Type 0} (step : S → A → R → S → Type 0) where
  -- steps, and then further ones
  pub turns_on : (old mid new : S) (asks more : List A) (replies others : List R) →
      InTurn step old asks replies mid → InTurn step mid more others new →
      InTurn step old (asks ++ more) (replies ++ others) new
  turns_on old mid new [] more [] others p q = subst (λ s. InTurn step s more others new) p q
  turns_on old mid new [] more (reply ∷ replies) others p q = absurd p
  turns_on old mid new (ask ∷ asks) more [] others p q = absurd p
  turns_on old mid new (ask ∷ asks) more (reply ∷ replies) others p q =
      (p.0, p.1, turns_on p.0 mid new asks more replies others p.2 q)

  -- one step
  pub one_turn : (old new : S) (ask : A) (reply : R) → step old ask reply new →
      InTurn step old (ask ∷ []) (reply ∷ []) new
  one_turn old new ask reply p = (new, p, refl)

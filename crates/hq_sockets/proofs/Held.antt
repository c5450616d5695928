-- Slots, and what they hold.
use Rattle.std.proofs.Common.{◌≡◌, ℕ, zero, suc, List, [], ◌∷◌, ◌++◌, Option, None, Some}
use Rattle.std.proofs.Common.{refl, sym, ap, ◌∙◌}
use Rattle.hq_sockets.specs.Held.{Swaps, client_at, with_client}
use Rattle.hq_sockets.specs.declared.clients.Client.{Client}

module _ {C : Type 0} where
  -- one free slot more
  pub none_more : (held : List (Option (Client C))) → ((n : ℕ) → client_at held n ≡ None) →
      (n : ℕ) → client_at (held ++ None ∷ []) n ≡ None
  none_more [] h zero = refl
  none_more [] h (suc n) = refl
  none_more (slot ∷ held) h zero = h 0
  none_more (slot ∷ held) h (suc n) = none_more held (λ m. h (suc m)) n

  -- a client is swapped that was taken out
  pub swapped : (old mid new : List (Option (Client C))) (number : ℕ) (client other : Client C)
      (it : Option (Client C)) → it ≡ client_at old number → it ≡ Some client →
      mid ≡ with_client old number None → new ≡ with_client mid number (Some other) →
      Swaps old new number client other
  swapped old mid new number client other it there is taken put =
      (sym there ∙ is, put ∙ ap (λ h. with_client h number (Some other)) taken)

-- What the client of a slot asked is taken, or it is replied to, or it has more time.
use Rattle.std.proofs.Common.{◌≡◌, ◌∷◌, ◌++◌, ℕ, List, [], Option, None, Some, inl, inr, refl, sym}
use Rattle.std.proofs.Common.{subst}
use Rattle.std.proofs.lemmas.Option.{none-some}
use Rattle.std.specs.Option.{IfSome}
use Rattle.hq_serve.specs.Coming.{came, sent}
use Rattle.hq_serve.specs.declared.coming.Asked.{Asked}
use Rattle.hq_sockets.specs.Clients.{IsAt, IsIn}
use Rattle.hq_sockets.specs.Held.{HasResponse, IsLater, HasTaken, LeadsOn}
use Rattle.hq_sockets.specs.Slots.{Slot, free, sends, takes}
use Rattle.hq_sockets.specs.Talks.{Listening, SocketEvent, Talking}
use Rattle.hq_sockets.specs.declared.clients.Client.{Client}
use Rattle.hq_sockets.proofs.History.{lacks_so, swaps_so}
use Rattle.hq_sockets.proofs.Steps.{replies_so, takes_so}
use Rattle.std.specs.declared.alloc.Global.{Global}
use Rattle.std.specs.declared.vec.Vec.{Vec}

module _ {L C : Type 0} (no_memory : Type 0) (talks : Talking C) (ends : C → Type 0) (does :
    Listening L C)
    (none : (state : L) → does state [] state)
    (on : (old mid new : L) (events more : List (SocketEvent C)) → does old events mid →
    does mid more new → does old (events ++ more) new)
    (now : L) (old new : List (Option (Client C))) (number : ℕ) where
  -- a client that is there as it was goes on so
  stays_so : (client other : Client C) → other.phase ≡ client.phase →
      other.stream ≡ client.stream → (slot : Slot C) → IsIn no_memory talks ends slot client →
      IsIn no_memory talks ends slot other
  stays_so client other same_phase same_stream slot h =
      subst (λ s. IsAt no_memory talks ends slot s other.phase) (sym same_stream)
      (subst (IsAt no_memory talks ends slot client.stream) (sym same_phase) h)

  -- a client may have more time
  pub later_so : IsLater old new number → LeadsOn no_memory talks ends does now old [] now new
  later_so (inl lacks) =
      lacks_so no_memory talks ends does none on now now old new number [] (none now) lacks refl
  later_so (inr (client, other, swaps, same_phase, same_stream)) =
      swaps_so no_memory talks ends does none on now now old new number client other [] (none now)
      swaps
      (λ slot holds. (slot, refl, stays_so client other same_phase same_stream slot holds))

  -- nothing was asked
  pub unasked_so : HasTaken old new number None → LeadsOn no_memory talks ends does now old [] now
      new
  unasked_so (inl lacks) =
      lacks_so no_memory talks ends does none on now now old new number [] (none now) lacks.0 refl
  unasked_so (inr (client, other, swaps, same_phase, same_stream)) =
      swaps_so no_memory talks ends does none on now now old new number client other [] (none now)
      swaps
      (λ slot holds. (slot, refl, stays_so client other same_phase same_stream slot holds))

  -- this was asked
  pub asked_so : (at : ℕ) (it : Asked) → HasTaken old new number (Some it) →
      LeadsOn no_memory talks ends does now old
      (came (record { client = number; at = at; asked = it }) ∷ []) now new
  asked_so at it (inl lacks) = absurd (none-some it (sym lacks.1))
  asked_so at it (inr (client, other, swaps, taken, same_stream)) =
      swaps_so no_memory talks ends does none on now now old new number client other
      (takes (record { client = number; at = at; asked = it }) ∷ []) (none now) swaps
      (λ slot holds.
      let next = takes_so no_memory talks ends number slot client.stream at it
      (subst (IsAt no_memory talks ends slot client.stream) taken.0 holds) in (
        next.0,
        next.1,
        subst (λ s. IsAt no_memory talks ends next.0 s other.phase) (sym same_stream)
            (subst (IsAt no_memory talks ends next.0 client.stream) (sym taken.1) next.2),
      ))

  -- it is replied to
  pub answered_so : (response : Option (Vec ℕ Global)) (bytes : List ℕ) →
      IfSome response (λ r. r.items ≡ bytes) → HasResponse old new number response →
      LeadsOn no_memory talks ends does now old
      (sent (record { client = number; response = bytes }) ∷ []) now new
  answered_so response bytes so (inl lacks) =
      lacks_so no_memory talks ends does none on now now old new number
      (sends (record { client = number; response = bytes }) ∷ []) (none now) lacks
      (free, (refl, refl), refl)
  answered_so response bytes so (inr (client, other, swaps, replies, same_stream)) =
      swaps_so no_memory talks ends does none on now now old new number client other
      (sends (record { client = number; response = bytes }) ∷ []) (none now) swaps
      (λ slot holds.
      let next = replies_so no_memory talks ends number slot client.stream client.phase other.phase
      response bytes so holds replies in (
        next.0,
        next.1,
        subst (λ s. IsAt no_memory talks ends next.0 s other.phase) (sym same_stream) next.2,
      ))

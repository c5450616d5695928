-- What happens next to the client of one slot.
use Rattle.std.proofs.Common.{◌≡◌, ℕ, List, [], ◌∷◌, Option, None, Some, refl, sym, subst, arith}
use Rattle.std.specs.Option.{IfSome}
use Rattle.hq_serve.specs.declared.coming.Asked.{Asked}
use Rattle.hq_serve.specs.declared.coming.Came.{Came}
use Rattle.hq_sockets.specs.Clients.{IsAt}
use Rattle.hq_sockets.specs.Held.{Replies}
use Rattle.hq_sockets.specs.Slots.{AllHappen, Happens, MayClose, Slot, asking, closes, free}
use Rattle.hq_sockets.specs.Slots.{sends, taken, takes, told}
use Rattle.hq_sockets.specs.Talks.{Talking}
use Rattle.hq_sockets.specs.declared.clients.Phase.{Phase}
use Rattle.hq_sockets.specs.declared.clients.Phase.TheVariants as phase
use Rattle.std.specs.declared.alloc.Global.{Global}
use Rattle.std.specs.declared.vec.Vec.{Vec}

module _ {C : Type 0} (no_memory : Type 0) (talks : Talking C) (ends : C → Type 0) (number : ℕ)
  where
    -- one that is served so far is closed
    pub closes_so : (slot : Slot C) (now : C) → MayClose no_memory talks ends slot now →
        AllHappen no_memory talks ends number slot (closes now ∷ []) free
    closes_so free now h = absurd h
    closes_so (asking first) now h = (free, (h, refl), refl)
    closes_so (taken first one) now h = absurd h
    closes_so (told first one response) now h = (free, (h, refl), refl)

    -- what it asked is taken
    pub takes_so : (slot : Slot C) (stream : C) (at : ℕ) (it : Asked) →
        IsAt no_memory talks ends slot stream (phase.Asked it) → (next : Slot C)
        × AllHappen no_memory talks ends number slot
        (takes (record { client = number; at = at; asked = it }) ∷ []) next
        × IsAt no_memory talks ends next stream phase.InRound
    takes_so free stream at it h = absurd h
    takes_so (asking first) stream at it h =
        let one : Came = record { client = number; at = at; asked = it } in
        (taken first one, (taken first one, (refl, refl), refl), h)
    takes_so (taken first one) stream at it h = absurd h
    takes_so (told first one response) stream at it h = absurd h

    -- a response is none where nobody waits for one
    nobody : (slot : Slot C) (bytes : List ℕ) → Happens no_memory talks ends number slot
        (sends (record { client = number; response = bytes })) slot → (stream : C) (p q : Phase) →
        IsAt no_memory talks ends slot stream p → q ≡ p → (next : Slot C)
        × AllHappen no_memory talks ends number slot
        (sends (record { client = number; response = bytes }) ∷ []) next
        × IsAt no_memory talks ends next stream q
    nobody slot bytes void stream p q h same =
        (slot, (slot, void, refl), subst (IsAt no_memory talks ends slot stream) (sym same) h)

    -- it has its response, or none of it
    pub replies_so : (slot : Slot C) (stream : C) (p q : Phase) (response : Option (Vec ℕ Global))
        (bytes : List ℕ) → IfSome response (λ r. r.items ≡ bytes) →
        IsAt no_memory talks ends slot stream p → Replies response p q → (next : Slot C)
        × AllHappen no_memory talks ends number slot
        (sends (record { client = number; response = bytes }) ∷ []) next
        × IsAt no_memory talks ends next stream q
    replies_so free stream p q response bytes so h is = absurd h
    replies_so (asking first) stream (phase.Asking gathering) q None bytes so h is =
        nobody (asking first) bytes (refl, refl) stream (phase.Asking gathering) q h is
    replies_so (asking first) stream (phase.Asking gathering) q (Some r) bytes so h is =
        nobody (asking first) bytes (refl, refl) stream (phase.Asking gathering) q h is
    replies_so (asking first) stream (phase.Asked it) q None bytes so h is =
        nobody (asking first) bytes (refl, refl) stream (phase.Asked it) q h is
    replies_so (asking first) stream (phase.Asked it) q (Some r) bytes so h is =
        nobody (asking first) bytes (refl, refl) stream (phase.Asked it) q h is
    replies_so (asking first) stream phase.InRound q response bytes so h is = absurd h
    replies_so (asking first) stream (phase.Answered xs n) q response bytes so h is = absurd h
    replies_so (asking first) stream phase.Unsent q response bytes so h is = absurd h
    replies_so (asking first) stream (phase.Leaving left) q response bytes so h is = absurd h
    replies_so (taken first one) stream (phase.Asking gathering) q response bytes so h is = absurd h
    replies_so (taken first one) stream (phase.Asked it) q response bytes so h is = absurd h
    replies_so (taken first one) stream phase.InRound q None bytes so h is = (
      told first one bytes,
      (told first one bytes, (refl, refl), refl),
      subst (IsAt no_memory talks ends (told first one bytes) stream) (sym is) h,
    )
    replies_so (taken first one) stream phase.InRound q (Some r) bytes so h is = (
      told first one bytes,
      (told first one bytes, (refl, refl), refl),
      subst (IsAt no_memory talks ends (told first one bytes) stream) (sym is)
          (h.0, h.1, h.2, so, omega arith),
    )
    replies_so (taken first one) stream (phase.Answered xs n) q response bytes so h is = absurd h
    replies_so (taken first one) stream phase.Unsent q response bytes so h is = absurd h
    replies_so (taken first one) stream (phase.Leaving left) q response bytes so h is = absurd h
    replies_so (told first one r') stream (phase.Asking gathering) q response bytes so h is =
        absurd h
    replies_so (told first one r') stream (phase.Asked it) q response bytes so h is = absurd h
    replies_so (told first one r') stream phase.InRound q response bytes so h is = absurd h
    replies_so (told first one r') stream (phase.Answered xs n) q None bytes so h is =
        nobody (told first one r') bytes (refl, refl) stream (phase.Answered xs n) q h is
    replies_so (told first one r') stream (phase.Answered xs n) q (Some r) bytes so h is =
        nobody (told first one r') bytes (refl, refl) stream (phase.Answered xs n) q h is
    replies_so (told first one r') stream phase.Unsent q None bytes so h is =
        nobody (told first one r') bytes (refl, refl) stream phase.Unsent q h is
    replies_so (told first one r') stream phase.Unsent q (Some r) bytes so h is =
        nobody (told first one r') bytes (refl, refl) stream phase.Unsent q h is
    replies_so (told first one r') stream (phase.Leaving left) q None bytes so h is =
        nobody (told first one r') bytes (refl, refl) stream (phase.Leaving left) q h is
    replies_so (told first one r') stream (phase.Leaving left) q (Some r) bytes so h is =
        nobody (told first one r') bytes (refl, refl) stream (phase.Leaving left) q h is

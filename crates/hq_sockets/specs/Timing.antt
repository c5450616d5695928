-- Requests that are taken one after another.
-- Inner: it serves proofs alone, and no promise rests on it.
use Rattle.std.proofs.Common.{◌≡◌, ◌++◌, ℕ, List, [], ◌∷◌, ◌∙◌, refl, subst, sym}
use Rattle.hq_serve.specs.Coming.{ClientEvent, came, sent}
use Rattle.hq_sockets.specs.Times.{AreTimed, ClockState, Clocking, StaysTimed}

timed_both : (told : ℕ → Type 0) (events more : List ClientEvent) → AreTimed told events →
    AreTimed told more → AreTimed told (events ++ more)
timed_both told [] more h k = k
timed_both told (came one ∷ events) more h k = (h.0, timed_both told events more h.1 k)
timed_both told (sent it ∷ events) more h k = timed_both told events more h k

module _ {T : Type 0} (tells : Clocking T) where
  pub timed_none : (state : ClockState T) → StaysTimed tells state [] state
  timed_none state = (refl, λ h. (tt, h))

  pub timed_on : (old mid new : ClockState T) (events more : List ClientEvent) →
      StaysTimed tells old events mid → StaysTimed tells mid more new →
      StaysTimed tells old (events ++ more) new
  timed_on old mid new events more p q = (
    q.0 ∙ p.0,
    λ h.
        let first = p.1 h in
        let second = q.1 first.1 in (
          timed_both (tells old.clock) events more first.0
              (subst (λ c. AreTimed (tells c) more) p.0 second.0),
          second.1,
        ),
  )

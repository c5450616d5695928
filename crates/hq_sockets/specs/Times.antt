-- The moments at which requests are taken: those that a clock told.
use Rattle.std.specs.Prelude.{◌≡◌, ⊤, ℕ, List, [], ◌∷◌, Option, IfSome}
use Rattle.hq_serve.specs.Coming.{ClientEvent, came, sent}

-- each request came at a moment that was told
abbrev pub AreTimed : (ℕ → Type 0) → List ClientEvent → Type 0
AreTimed told [] = ⊤
AreTimed told (came one ∷ events) = told one.at × AreTimed told events
AreTimed told (sent it ∷ events) = AreTimed told events

-- what a clock tells
abbrev pub Clocking : Type 0 → Type 1
Clocking T = T → ℕ → Type 0

-- A clock, and the moment that it told last.
pub record ClockState (T : Type 0) : Type 0 where
  pub clock : T
  pub at : Option ℕ

abbrev pub clock_state : {T : Type 0} → T → Option ℕ → ClockState T
clock_state clock at = record { clock = clock; at = at }

-- the moment, if there is one, was told
abbrev pub IsTimed : {T : Type 0} → Clocking T → ClockState T → Type 0
IsTimed tells state = IfSome state.at (tells state.clock)

-- It is the same clock. If its last moment was told, requests came at moments that were told, and
-- so was the last one then.
abbrev pub StaysTimed : {T : Type 0} → Clocking T → ClockState T → List ClientEvent → ClockState T →
    Type 0
StaysTimed tells old events new = (new.clock ≡ old.clock)
    × (IsTimed tells old → AreTimed (tells old.clock) events × IsTimed tells new)

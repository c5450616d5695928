-- One step after another.
use Rattle.std.specs.Prelude.{◌≡◌, List, [], ◌∷◌}

-- One step for each thing that is asked, in order, and the reply of each: from the state before the
-- first to that after the last.
abbrev pub InTurn : {S A R : Type 0} → (S → A → R → S → Type 0) → S → List A → List R → S → Type 0
InTurn step old [] [] new = new ≡ old
InTurn step old [] (reply ∷ replies) new = ⊥
InTurn step old (ask ∷ asks) [] new = ⊥
InTurn {S} step old (ask ∷ asks) (reply ∷ replies) new = (next : S) × step old ask reply next
    × InTurn step next asks replies new

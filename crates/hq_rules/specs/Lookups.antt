-- Lookup in an access table: the first key that has a line. (access(5), EMAIL ADDRESS PATTERNS:
-- they are tried in order; DUNNO ends the trying.)
use Rattle.std.specs.Prelude.{◌≡◌, ℕ, List, [], ◌∷◌, Option, Some, None, ◌⊎◌, Result, Ok, Err}
use Rattle.hq_values.specs.declared.failure.Fault.{Fault}
use Rattle.hq_values.specs.Refusals.{no_memory}
use Rattle.hq_kept.specs.declared.action.Action.{Action}
use Rattle.hq_kept.specs.declared.pattern.Class.{Class}

-- what is found: the key that has a line, and the action of that line
abbrev pub Found : Type 0
Found = Option (List ℕ × Action)

-- what is found at a key where its line is this, and what at the keys after it otherwise
abbrev pub or_next : List ℕ → Option Action → Found → Found
or_next key None next = next
or_next key (Some action) next = Some (key, action)

-- the first key that has a line, among the lines of one class; DUNNO is found like any other
abbrev pub first_match : (List ℕ → Option Action) → List (List ℕ) → Found
first_match line [] = None
first_match line (key ∷ keys) = or_next key (line key) (first_match line keys)

-- ---- over lines that are asked, one key at a time

-- What asking for a key may do: the lines before, the class, the key, the answer, the lines after.
abbrev pub Gets : Type 0 → Type 1
Gets S = S → Class → List ℕ → Result (Option Action) Fault → S → Type 0

-- what is done after an answer: a line or a fault ends the lookup
abbrev pub AsksOn : {S : Type 0} → (S → Result Found Fault → S → Type 0) → List ℕ →
    Result (Option Action) Fault → S → Result Found Fault → S → Type 0
AsksOn next key (Ok None) mid result new = next mid result new
AsksOn next key (Ok (Some action)) mid result new = (result ≡ Ok (Some (key, action))) × (new ≡ mid)
AsksOn next key (Err fault) mid result new = (result ≡ Err fault) × (new ≡ mid)

-- The keys are asked for in order, each once, and none after the first that has a line or ends in a
-- fault.
abbrev pub LooksUp : {S : Type 0} → Gets S → Class → List (List ℕ) → S → Result Found Fault → S →
    Type 0
LooksUp gets class [] old result new = (result ≡ Ok None) × (new ≡ old)
LooksUp {S} gets class (key ∷ keys) old result new = (answer : Result (Option Action) Fault)
    × (mid : S) × gets old class key answer mid
    × AsksOn (LooksUp gets class keys) key answer mid result new

-- a lookup asks for its keys, or there was want of memory before the first, for this reason
abbrev pub Looks : {S : Type 0} → Type 0 → Gets S → Class → List (List ℕ) → S →
    Result Found Fault → S → Type 0
Looks refused gets class keys old result new =
    ((result ≡ Err no_memory) × refused × (new ≡ old)) ⊎ LooksUp gets class keys old result new

-- asking tells what these lines are, and leaves them
abbrev pub TellsLines : {S : Type 0} → Gets S → (S → Class → List ℕ → Option Action) → Type 0
TellsLines {S} gets lines = (old new : S) (class : Class) (key : List ℕ) (answer : Option Action) →
    gets old class key (Ok answer) new → (answer ≡ lines old class key) × (lines new ≡ lines old)

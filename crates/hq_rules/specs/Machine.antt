-- The machine that knows one customer, and the step on the tables of all. Neither mentions the
-- other.
use Rattle.std.specs.Prelude.{ℕ, List, [], ◌∷◌}
use Rattle.hq_kept.specs.declared.account.Entry.{Entry}
use Rattle.hq_tables.specs.Readings.{read_state, read_tables}
use Rattle.hq_tables.specs.Tables.{State, Tables, change_all, write_all}
use Rattle.hq_rules.specs.declared.answer.Answer.{Answer}
use Rattle.hq_rules.specs.declared.call.Call.{Call}
use Rattle.hq_rules.specs.Decision.{decide}

-- a customer who is alone on the desk: its answer, and its state afterwards
abbrev pub step : List ℕ → Entry → State → ℕ → Call → Answer × State
step host entry s at call = let decision = decide host entry (read_state s) at call in
    (decision.answer, change_all decision.changes s)

-- a call on the tables of all customers, found by keys with the customer's name: the answer, and
-- the tables afterwards
abbrev pub shared : List ℕ → Entry → Tables → ℕ → Call → Answer × Tables
shared host entry t at call = let decision = decide host entry (read_tables entry.name t) at call in
    (decision.answer, write_all entry.name decision.changes t)

-- ---- that machine, over calls with their moments

-- what it answers to them, in order
abbrev pub answers : List ℕ → Entry → State → List (ℕ × Call) → List Answer
answers host entry s [] = []
answers host entry s (ask ∷ asks) = (step host entry s ask.0 ask.1).0
    ∷ answers host entry (step host entry s ask.0 ask.1).1 asks

-- the state that it is left in
abbrev pub state_after : List ℕ → Entry → State → List (ℕ × Call) → State
state_after host entry s [] = s
state_after host entry s (ask ∷ asks) =
    state_after host entry (step host entry s ask.0 ask.1).1 asks

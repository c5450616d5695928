-- Calls of a customer over the starts of a desk, between which its row of the directory and the
-- relay's name may change.
use Rattle.std.specs.Prelude.{ℕ, List, [], ◌∷◌}
use Rattle.hq_kept.specs.declared.account.Entry.{Entry}
use Rattle.hq_tables.specs.Tables.{State}
use Rattle.hq_rules.specs.Machine.{step}
use Rattle.hq_rules.specs.declared.call.Call.{Call}

-- A call, with the relay's name and the customer's entry of its time.
pub record TimedCall : Type 0 where
  pub host : List ℕ
  pub entry : Entry
  pub at : ℕ
  pub call : Call

-- the state that these calls leave
abbrev pub state_over : State → List TimedCall → State
state_over s [] = s
state_over s (it ∷ more) = state_over (step it.host it.entry s it.at it.call).1 more

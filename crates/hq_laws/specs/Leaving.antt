-- What became of a recipient that was pending.
use Rattle.std.specs.Prelude.{Bool, true, false, ℕ, ◌≡◌, ◌<◌, List, Some}
use Rattle.std.specs.FinMap.{get}
use Rattle.std.specs.List.{Contains}
use Rattle.hq_kept.specs.Tallies.{all_gone}
use Rattle.hq_kept.specs.declared.message.Message.{Message}
use Rattle.hq_kept.specs.declared.message.Pending.{Pending}
use Rattle.hq_tables.specs.Tables.{State, Past}
use Rattle.hq_rules.specs.declared.call.Call.{Call}
use Rattle.hq_rules.specs.declared.call.Call.TheVariants as call

-- it is pending still, under the same queue ID
abbrev pub IsPending : State → ℕ → List ℕ → Type 0
IsPending s serial address = (m : Message) × (get s.messages serial ≡ Some m)
    × ((p : Pending) × Contains m.pending p × (p.address ≡ address))

-- a number that was given then has its end, with the moment
abbrev pub IsRecorded : State → State → ℕ → ℕ → List ℕ → Type 0
IsRecorded old new at serial address = (number : ℕ) × (past : Past)
    × (all_gone old.head.tally < number) × (get new.ends number ≡ Some past) × (past.at ≡ at)
    × (past.ended.serial ≡ serial) × (past.ended.recipient ≡ address)

-- recipients may leave in it
abbrev pub lets_go : Call → Bool
lets_go (call.Delete serial) = true
lets_go (call.DeleteAll which) = true
lets_go (call.Outcome report) = true
lets_go call.Sweep = true
lets_go _ = false

-- One call over a shelf.
use Rattle.std.specs.Prelude.{◌≡◌, ⊤, Result, IfOk, OnOk}
use Rattle.hq_values.specs.declared.failure.Fault.{Fault}
use Rattle.hq_tables.specs.Shelves.{Sight, KeepsOnErr, OnSound, StopLeavesWhole}
use Rattle.hq_rules.specs.Desks.{IsRendered, or_memory, stepped}
use Rattle.hq_rules.specs.declared.render.Rendered.{Rendered}
use Rattle.hq_desk.specs.Desks.{host_of, on, shelf_of}
use Rattle.hq_desk.specs.declared.desk.Desk.{Desk}
use Rattle.hq_admin.specs.Printed.{printed}
use Rattle.hq_admin.specs.declared.performing.AdminCall.{AdminCall}

-- The call is done by a desk over this shelf, and `left` is the shelf after it: it answers what the
-- shared step does, as it is printed, and leaves its tables; or it ends in a fault, and the tables
-- are as before, unless the store is closed then. A stop in it leaves the one or the other.
pub record Performs {S : Type 0} (sight : Sight S) (shelf left : S) (asked : AdminCall)
    (result : Result Rendered Fault) : Type 0 where
  pub old : Desk S
  pub host_is : host_of old ≡ asked.host
  pub shelf_is : shelf_of old ≡ shelf
  pub new : Desk S
  pub left_is : shelf_of new ≡ left
  pub answer : OnSound (on sight).store old new
      (IfOk result (IsRendered printed (stepped (on sight) old asked.entry asked.at asked.call).0))
  pub tables : OnSound (on sight).store old new
      (OnOk result ((on sight).store.tables new ≡
      (stepped (on sight) old asked.entry asked.at asked.call).1))
  pub stops : OnSound (on sight).store old new (StopLeavesWhole (on sight).store old new
      (stepped (on sight) old asked.entry asked.at asked.call).1)
  pub kept : KeepsOnErr (or_memory ⊤ (on sight).store) old new result

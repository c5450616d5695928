-- Calls that can be asked of every customer at once.
use Rattle.std.specs.Prelude.{None}
use Rattle.hq_rules.specs.declared.call.Call.{Call}
use Rattle.hq_rules.specs.declared.call.Call.TheVariants as call
use Rattle.hq_rules.specs.declared.each.EachCall.{EachCall}
use Rattle.hq_rules.specs.declared.each.EachCall.TheVariants as each

-- the call of each customer
abbrev pub each_call : EachCall → Call
each_call each.Sweep = call.Sweep
each_call each.Usage = call.Usage
each_call each.Due = call.Due None

-- What a sweep makes of one message, by its age (qmgr(8): maximal_queue_lifetime and
-- delay_warning_time).
use Rattle.std.specs.Prelude.{ℕ, not, ◌&&◌, nat_le, nat_lt, true, if◌then◌else◌}
use Rattle.hq_rules.specs.Backoff.{age}
use Rattle.hq_kept.specs.Limits.{expiry}
use Rattle.hq_kept.specs.Messages.{is_on_hold}
use Rattle.hq_kept.specs.declared.message.Message.{Message}
use Rattle.hq_rules.specs.declared.swept.Swept.{Swept}
use Rattle.hq_rules.specs.declared.swept.Swept.TheVariants.{Expired, Warned, Untouched}

-- Mail on hold is left alone. A message as old as that expires; before, its sender is warned once,
-- where the customer has a delay, which is in seconds, and the message is as old as the delay.
abbrev pub swept : ℕ → ℕ → Message → Swept
swept at delay m =
    if is_on_hold m.state then Untouched else
    (if nat_le expiry (age m.arrival at) then Expired else
    (if nat_lt 0 delay && nat_le delay (age m.arrival at) && not m.warned then Warned else
    Untouched))

-- the message after it; an expired one is for the caller to remove
abbrev pub after_sweep : Swept → Message → Message
after_sweep Expired m = m
after_sweep Warned m = record m { warned = true }
after_sweep Untouched m = m

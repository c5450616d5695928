use Rattle.std.proofs.Common.{◌≡◌, take}
use Rattle.hq_tables.specs.Readings.{saturated}
use Rattle.hq_tables.specs.Sound.{pending_count}
use Rattle.hq_decisions.proofs.queues.all_pending.Given as goal

-- those of the messages so far
abbrev pub invariant-loop-message : goal.invariant-loop-message
invariant-loop-message l = l.count ≡ saturated (pending_count (take l.message-index l.messages))

use Rattle.std.proofs.Common.{◌≡◌, take}
use Rattle.std.specs.List.{flat_map}
use Rattle.hq_rules.specs.Leaving.{all_ended}
use Rattle.hq_kept.specs.declared.outcome.Fate.TheVariants.{Deleted}
use Rattle.hq_decisions.proofs.queues.ended_of.Given as goal

-- the recipients of the messages so far
abbrev pub invariant-loop-message : goal.invariant-loop-message
invariant-loop-message g l = l.ended.items ≡ flat_map (all_ended Deleted)
    (take l.message-index l.messages)

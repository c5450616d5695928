use Rattle.std.proofs.Common.{◌≡◌, List, ◌++◌, take}
use Rattle.hq_kept.specs.declared.message.Message.{Message}
use Rattle.hq_rules.specs.QueueReports.{written}
use Rattle.hq_text.proofs.queue_report.Report.add_all.Given as goal

-- those so far stand behind what was written before
abbrev pub invariant-loop-message : goal.invariant-loop-message
invariant-loop-message g l = (before : List Message) → l.initial.self ≡ written before →
    l.self ≡ written (before ++ take l.message-index l.messages)

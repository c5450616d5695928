use Rattle.std.proofs.Common.{◌≡◌, ◌++◌, take, string_bytes}
use Rattle.std.specs.List.{flat_map}
use Rattle.hq_rules.specs.TextLines.{lf, text_of}
use Rattle.hq_rules.specs.QueueReports.{top_lines, recipient_lines}
use Rattle.hq_text.proofs.queue_report.message_text.Given as goal

abbrev pub invariant-loop-pending : goal.invariant-loop-pending
invariant-loop-pending g l = string_bytes l.text ≡ text_of lf (top_lines l.message
    ++ flat_map recipient_lines (take l.pending-index l.message.pending))

-- Calls that change nothing: by what they ask, and by what is told of them.
use Rattle.std.specs.Prelude.{◌==◌, ◌&&◌, Bool, true, false}
use Rattle.hq_rules.specs.declared.answer.Answer.{Answer}
use Rattle.hq_rules.specs.declared.answer.Answer.TheVariants as answer
use Rattle.hq_rules.specs.declared.answer.LinePut.TheVariants.{Same}
use Rattle.hq_rules.specs.declared.call.Call.{Call}
use Rattle.hq_rules.specs.declared.call.Call.TheVariants as call

-- asks for what is kept
abbrev pub only_reads : Call → Bool
only_reads (call.Admit envelope) = true
only_reads (call.List after which) = true
only_reads (call.Show serial) = true
only_reads (call.Lines after) = true
only_reads (call.Check class who) = true
only_reads (call.Due after) = true
only_reads (call.Notices after) = true
only_reads (call.Notice number) = true
only_reads (call.History before) = true
only_reads (call.FindHistory pattern before) = true
only_reads call.Usage = true
only_reads call.Limits = true
only_reads (call.Report which) = true
only_reads _ = false

-- tells that nothing was changed
abbrev pub tells_no_change : Answer → Bool
tells_no_change (answer.Refused refusal) = true
tells_no_change (answer.Repeated serial) = true
tells_no_change (answer.Rejected refused) = true
tells_no_change (answer.Discarded refused) = true
tells_no_change (answer.Changed count) = count == 0
tells_no_change (answer.LinePut Same) = true
tells_no_change (answer.AttemptRepeated attempts) = true
tells_no_change (answer.Swept counts) = counts.expired == 0 && counts.warned == 0
tells_no_change _ = false

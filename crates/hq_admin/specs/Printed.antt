-- What an administrator reads of an answer.
use Rattle.std.specs.Prelude.{ℕ, ◌++◌, List, [], codes, decimal}
use Rattle.hq_values.specs.Refusals.{refusal_shown}
use Rattle.hq_rules.specs.declared.answer.Answer.{Answer}
use Rattle.hq_rules.specs.declared.answer.Answer.TheVariants.{Refused, Reported, Imported, Swept}
use Rattle.hq_rules.specs.declared.answer.Answer.TheVariants.{Used, Changed, HistoryListed}
use Rattle.hq_rules.specs.declared.answer.Answer.TheVariants.{HistoryFound}
use Rattle.hq_rules.specs.declared.answer.ImportCounts.{ImportCounts}
use Rattle.hq_rules.specs.declared.answer.SweepCounts.{SweepCounts}
use Rattle.hq_rules.specs.declared.answer.Usage.{Usage}
use Rattle.hq_kept.specs.declared.account.Counts.{Counts}
use Rattle.hq_kept.specs.declared.account.Tally.{Tally}
use Rattle.hq_admin.specs.Lines.{history_lines, more_from}

-- what an import set, on a line
unfoldable pub import_line : ImportCounts → List ℕ
import_line counts = codes "added " ++ decimal counts.added ++ codes ", changed "
    ++ decimal counts.changed ++ codes ", same " ++ decimal counts.same ++ codes "\n"

-- what a sweep did, on a line
unfoldable pub sweep_line : SweepCounts → List ℕ
sweep_line counts = codes "expired " ++ decimal counts.expired ++ codes ", warned "
    ++ decimal counts.warned ++ codes ", notices " ++ decimal counts.notices ++ codes "\n"

-- how much a customer keeps
unfoldable pub kept_text : Counts → List ℕ
kept_text counts = codes "messages " ++ decimal counts.messages ++ codes ", bytes "
    ++ decimal counts.bytes ++ codes ", lines " ++ decimal counts.lines

-- how many of its recipients were accepted, and are pending
unfoldable pub left_text : ℕ → ℕ → List ℕ
left_text accepted pending = codes ", accepted " ++ decimal accepted ++ codes ", pending "
    ++ decimal pending

-- what became of the others
unfoldable pub gone_text : Tally → List ℕ
gone_text tally = codes ", delivered " ++ decimal tally.delivered ++ codes ", failed "
    ++ decimal tally.failed ++ codes ", deleted " ++ decimal tally.deleted ++ codes ", expired "
    ++ decimal tally.expired

-- what a customer uses, on a line
abbrev pub usage_line : Usage → List ℕ
usage_line usage = kept_text usage.counts ++ left_text usage.tally.accepted usage.pending
    ++ gone_text usage.tally
    ++ codes "\n"

-- how many messages were changed, on a line
unfoldable pub changed_line : ℕ → List ℕ
changed_line count = codes "changed " ++ decimal count ++ codes "\n"

-- the queue report as it is, the counts of a move, of an import, of a sweep and of a usage, the
-- lines of a history, a refusal as it is shown, and nothing of all else
abbrev pub printed : Answer → List ℕ
printed (Refused refusal) = refusal_shown refusal
printed (Reported report) = report
printed (Imported counts) = import_line counts
printed (Swept counts) = sweep_line counts
printed (Used usage) = usage_line usage
printed (Changed count) = changed_line count
printed (HistoryListed es more) = history_lines es (more_from es more)
printed (HistoryFound es next) = history_lines es next
printed _ = []

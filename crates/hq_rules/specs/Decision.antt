-- What the desk answers to each kind of call, and what it changes: by what can be read of the
-- customer. A decision reads and writes nothing. Refusals come in the order in which they are
-- tested here.
use Rattle.std.specs.Prelude.{ℕ, List, filter}
use Rattle.hq_kept.specs.Messages.{is_due}
use Rattle.hq_kept.specs.declared.account.Entry.{Entry}
use Rattle.hq_tables.specs.Readings.{Readings, after_pattern, after_serial, after_number}
use Rattle.hq_tables.specs.Readings.{before_end}
use Rattle.hq_rules.specs.AccessLines.{line_page, put_line, drop_line, check}
use Rattle.hq_rules.specs.Histories.{history_page, find_history}
use Rattle.hq_rules.specs.Imports.{import}
use Rattle.hq_rules.specs.Messages.{page, show, hold, release, requeue, delete}
use Rattle.hq_rules.specs.Notices.{show_notice, notice_page}
use Rattle.hq_rules.specs.Outcomes.{outcome, due_page}
use Rattle.hq_rules.specs.Queues.{move_all, delete_all, usage, limits, report}
use Rattle.hq_rules.specs.Selections.{is_selected}
use Rattle.hq_rules.specs.Submissions.{dry_run, submit}
use Rattle.hq_rules.specs.Sweeps.{sweep}
use Rattle.hq_rules.specs.declared.call.Call.{Call}
use Rattle.hq_rules.specs.declared.call.Call.TheVariants as call
use Rattle.hq_rules.specs.declared.decision.Decision.{Decision}
use Rattle.hq_rules.specs.declared.call.Move.TheVariants as move

unfoldable pub decide : List ℕ → Entry → Readings → ℕ → Call → Decision
decide host entry readings at (call.Submit sub) =
    submit entry readings at sub (readings.by_spool sub.spool)
decide host entry readings at (call.Admit envelope) = dry_run entry readings envelope
decide host entry readings at (call.List after which) =
    page (filter (is_selected which) (after_serial after readings.messages))
decide host entry readings at (call.Show serial) = show (readings.message serial)
decide host entry readings at (call.Hold serial) = hold (readings.message serial)
decide host entry readings at (call.Release serial) = release at (readings.message serial)
decide host entry readings at (call.Requeue serial) =
    requeue readings.head at (readings.message serial)
decide host entry readings at (call.Delete serial) =
    delete entry at readings.head (readings.message serial)
decide host entry readings at (call.HoldAll which) =
    move_all move.Hold (filter (is_selected which) readings.messages)
decide host entry readings at (call.ReleaseAll which) =
    move_all (move.Release at) (filter (is_selected which) readings.messages)
decide host entry readings at (call.DeleteAll which) =
    delete_all entry at readings.head (filter (is_selected which) readings.messages)
decide host entry readings at (call.Lines after) = line_page (after_pattern after readings.lines)
decide host entry readings at (call.PutLine line) =
    put_line entry.quota.lines readings.counts.lines line
    (readings.line line.pattern.0 line.pattern.1)
decide host entry readings at (call.DropLine pattern) =
    drop_line pattern (readings.line pattern.0 pattern.1)
decide host entry readings at (call.Check class who) = check readings class who
decide host entry readings at (call.Import label file) =
    import entry.quota.lines readings label file (readings.mark label)
decide host entry readings at (call.Outcome report) =
    outcome host entry at readings.head report (readings.message report.serial)
decide host entry readings at (call.Due after) =
    due_page (filter (is_due at) (after_serial after readings.messages))
decide host entry readings at call.Sweep = sweep host entry at readings.head readings.messages
decide host entry readings at (call.Notices after) =
    notice_page (after_number after readings.notices)
decide host entry readings at (call.Notice number) = show_notice (readings.notice number)
decide host entry readings at (call.History before) =
    history_page (before_end before readings.ends)
decide host entry readings at (call.FindHistory pattern before) =
    find_history pattern (before_end before readings.ends)
decide host entry readings at call.Limits = limits entry
decide host entry readings at call.Usage = usage readings.head readings.counts readings.messages
decide host entry readings at (call.Report which) =
    report (filter (is_selected which) readings.messages)

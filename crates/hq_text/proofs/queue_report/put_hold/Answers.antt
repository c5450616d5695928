use Rattle.std.proofs.Common.{◌≡◌, ℕ, List, ◌++◌, ◌⊎◌, inl, inr, ap}
use Rattle.hq_kept.specs.declared.message.Message.{Message}
use Rattle.hq_kept.specs.declared.message.QueueState.TheVariants.{Incoming, Deferred}
use Rattle.hq_text.proofs.Joined.{line_then, no_line}
use Rattle.hq_rules.specs.TextLines.{lf, text_of}
use Rattle.hq_rules.specs.QueueReports.{hold_line, hold_lines}
use Rattle.hq_text.proofs.queue_report.put_hold.Goals as goal

pub returns-in_ok-put_hold_line-in-Hold : goal.returns-in_ok-put_hold_line-in-Hold
unfolding hold_lines
returns-in_ok-put_hold_line-in-Hold g c = rw c.in-Hold.is (line_then lf _ _ _ _ _ _
    c.in_ok-put_hold_line-in-Hold.ensures (ap hold_line c.as_str.ensures) (no_line lf _))

-- a message that is not on hold has no such line
not_held : (m : Message) (old : List ℕ) → (m.state ≡ Incoming) ⊎ (m.state ≡ Deferred) → old ≡ old
    ++ text_of lf (hold_lines m)
unfolding hold_lines
not_held m old (inl is) = rw is (no_line lf old)
not_held m old (inr is) = rw is (no_line lf old)

pub returns-in-Incoming : goal.returns-in-Incoming
returns-in-Incoming g c = not_held c.args.message.now _ c.in-Incoming.is

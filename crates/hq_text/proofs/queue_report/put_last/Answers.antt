use Rattle.std.proofs.Common.{◌≡◌, ◌==◌, true, codes, refl, eq-eqb}
use Rattle.hq_text.proofs.Joined.{line_then, no_line}
use Rattle.hq_text.proofs.Writing.{not_none}
use Rattle.hq_rules.specs.TextLines.{lf}
use Rattle.hq_text.proofs.queue_report.put_last.Goals as goal

pub returns-in_ok-append : goal.returns-in_ok-append
returns-in_ok-append g c =
    let none : (c.args.queued == 0) ≡ true = eq-eqb c.args.queued 0 c.if-queued-eq0.true in
    rw none (line_then lf _ _ _ (codes "Mail queue is empty") _ _ c.in_ok-append.ensures.bytes
    refl (no_line lf _))

pub returns-in_ok-put_summary : goal.returns-in_ok-put_summary
returns-in_ok-put_summary g c =
    rw (not_none c.args.queued c.if-queued-eq0.false) (line_then lf _ _ _ _ _ _
    c.in_ok-put_summary.ensures refl (no_line lf _))

use Rattle.std.proofs.Common.{arith}
use Rattle.hq_text.proofs.Joined.{one_line_more}
use Rattle.hq_rules.specs.TextLines.{crlf}
use Rattle.hq_rules.specs.NoticeTexts.{told_line}
use Rattle.hq_text.proofs.notices.human_text.Goals as goal

pub loop-one-preserved : goal.loop-one-preserved
loop-one-preserved g c =
    one_line_more crlf _ _ _ told_line c.args.told.now c.loop-one.one-index c.one-item.result
    (omega arith) c.one-item.is c.loop-one.invariant c.in_ok-put_told.ensures

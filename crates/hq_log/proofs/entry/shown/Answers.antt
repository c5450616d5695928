use Rattle.std.proofs.Common.{arith, ◌∙◌}
use Rattle.hq_log.proofs.Shown.{shown_whole, shown_cut}
use Rattle.hq_log.proofs.entry.shown.Goals as goal

pub returns-then-text-le-MOST_SHOWN : goal.returns-then-text-le-MOST_SHOWN
returns-then-text-le-MOST_SHOWN c = shown_whole c.args.text.now (omega arith)

pub returns : goal.returns
returns c = let floor = c.floor_char_boundary in c.split_at.ensures.front
    ∙ shown_cut c.args.text.now floor.result (omega arith)
    (floor.ensures.bound, floor.ensures.boundary, floor.ensures.nearest)

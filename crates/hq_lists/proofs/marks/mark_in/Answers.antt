use Rattle.std.proofs.Common.{Some, option_map, ap, ◌∙◌}
use Rattle.hq_rows.specs.Listed.{mark_value}
use Rattle.hq_lists.proofs.Keys.{mark_found}
use Rattle.hq_lists.proofs.marks.mark_in.Goals as goal

pub returns-in_ok-copy-in-Some : goal.returns-in_ok-copy-in-Some
returns-in_ok-copy-in-Some g c = ap Some c.in_ok-copy-in-Some.ensures
    ∙ ap (option_map mark_value) c.in-Some.ensures
    ∙ mark_found c.args.rows.now c.args.customer.now c.args.label.now

pub returns-in-None : goal.returns-in-None
returns-in-None g c = ap (option_map mark_value) c.in-None.ensures
    ∙ mark_found c.args.rows.now c.args.customer.now c.args.label.now

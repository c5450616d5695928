use Rattle.std.proofs.Common.{ap, ◌∙◌}
use Rattle.hq_rows.specs.Listed.{holds_of}
use Rattle.hq_tables.specs.Tables.{give_reason}
use Rattle.hq_lists.proofs.Keys.{hold_drop}
use Rattle.hq_lists.proofs.holds.drop_hold.Goals as goal

pub returns : goal.returns
unfolding give_reason
returns c = ap holds_of c.drop_row.ensures
    ∙ hold_drop c.args.rows.now.items c.args.customer.now c.args.serial

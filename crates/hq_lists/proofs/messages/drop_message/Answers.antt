use Rattle.std.proofs.Common.{ap, ◌∙◌, subst, sym}
use Rattle.hq_rows.specs.Listed.{messages_of}
use Rattle.hq_rows.specs.Lookups.{AreUnique}
use Rattle.hq_lists.proofs.Keys.{message_drop, unique_drop}
use Rattle.hq_lists.proofs.messages.drop_message.Goals as goal

pub returns-clause-table : goal.returns-clause-table
returns-clause-table c = ap messages_of c.drop_row.ensures
    ∙ message_drop c.args.rows.now.items c.args.customer.now c.args.serial

pub returns-clause-unique : goal.returns-clause-unique
returns-clause-unique c u =
    subst AreUnique (sym c.drop_row.ensures)
    (unique_drop c.args.rows.now.items c.args.customer.now c.args.serial u)

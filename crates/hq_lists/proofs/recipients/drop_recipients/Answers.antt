use Rattle.std.proofs.Common.{[], ap, ◌∙◌, subst, sym, append-nil}
use Rattle.hq_rows.specs.Listed.{recipients_of}
use Rattle.hq_rows.specs.Lookups.{AreDealt}
use Rattle.hq_lists.proofs.DealtRows.{dealt_table, dealt_rows}
use Rattle.hq_lists.proofs.recipients.drop_recipients.Goals as goal

pub returns-clause-table : goal.returns-clause-table
returns-clause-table c = ap recipients_of (c.drop_rows.ensures ∙ sym (append-nil _))
    ∙ dealt_table c.args.customer.now c.args.serial [] c.args.rows.now.items

pub returns-clause-dealt : goal.returns-clause-dealt
returns-clause-dealt c all = subst AreDealt (sym (c.drop_rows.ensures ∙ sym (append-nil _)))
    (dealt_rows c.args.customer.now c.args.serial [] c.args.rows.now.items all)

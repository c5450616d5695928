use Rattle.std.proofs.Common.{◌++◌, ap, ◌∙◌, subst, sym}
use Rattle.hq_rows.specs.Listed.{recipients_of}
use Rattle.hq_rows.specs.Lookups.{recipient_rows, AreDealt}
use Rattle.hq_lists.proofs.DealtRows.{dealt_table, dealt_rows}
use Rattle.hq_lists.proofs.recipients.put_recipients.Goals as goal

pub returns-clause-table : goal.returns-clause-table
returns-clause-table g c =
    ap recipients_of (c.in_ok-add_rows.ensures ∙ ap (λ rows. rows
    ++ recipient_rows c.args.customer.now c.args.serial 1 c.args.pending.now)
    c.drop_rows.ensures)
    ∙ dealt_table c.args.customer.now c.args.serial c.args.pending.now c.args.rows.now.items

pub returns-clause-dealt : goal.returns-clause-dealt
returns-clause-dealt g c all =
    subst AreDealt (sym (c.in_ok-add_rows.ensures ∙ ap (λ rows. rows
    ++ recipient_rows c.args.customer.now c.args.serial 1 c.args.pending.now)
    c.drop_rows.ensures))
    (dealt_rows c.args.customer.now c.args.serial c.args.pending.now c.args.rows.now.items all)

use Rattle.std.proofs.Common.{◌++◌, ◌∷◌, [], ap, ◌∙◌, subst, sym}
use Rattle.hq_rows.specs.Listed.{messages_of}
use Rattle.hq_rows.specs.Lookups.{AreUnique, message_row}
use Rattle.hq_lists.proofs.Keys.{message_put, unique_message}
use Rattle.hq_lists.proofs.messages.put_message.Goals as goal

pub returns-clause-table : goal.returns-clause-table
returns-clause-table g c =
    ap messages_of (c.in_ok-push.ensures.items ∙ (λ i. c.drop_row.ensures i ++ c.in_ok-row.ensures i
    ∷ [])) ∙ message_put c.args.rows.now.items
    (message_row c.args.customer.now c.args.message.now)

pub returns-clause-unique : goal.returns-clause-unique
returns-clause-unique g c u =
    subst AreUnique (sym (c.in_ok-push.ensures.items ∙ (λ i. c.drop_row.ensures i
    ++ c.in_ok-row.ensures i ∷ [])))
    (unique_message c.args.rows.now.items (message_row c.args.customer.now c.args.message.now)
    u)

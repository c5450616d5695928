use Rattle.std.proofs.Common.{option_map, Some, ap, ◌∙◌}
use Rattle.hq_kept.specs.declared.message.Message.{Message}
use Rattle.hq_tables.specs.Tables.{Row, message_of, reason_of, pending_of}
use Rattle.hq_rows.specs.Listed.{message_value, recipients_of, holds_of}
use Rattle.hq_lists.proofs.Keys.{message_found}
use Rattle.hq_lists.proofs.DealtRows.{dealt_is}
use Rattle.hq_lists.proofs.messages.message_in.Goals as goal

pub returns-in_ok-joined-in-Some : goal.returns-in_ok-joined-in-Some
returns-in_ok-joined-in-Some g c all =
    let whole : Row → Message =
    λ r. message_of c.args.serial r
    (reason_of c.args.customer.now c.args.serial (holds_of c.args.rows.holds.now))
    (pending_of c.args.customer.now c.args.serial (recipients_of c.args.rows.recipients.now)) in
    ap Some (c.in_ok-joined-in-Some.ensures ∙ ap
    (message_of c.args.serial (message_value c.in-Some.row.now)
    (reason_of c.args.customer.now c.args.serial (holds_of c.args.rows.holds.now)))
    (dealt_is c.args.rows.recipients.now all c.args.customer.now c.args.serial))
    ∙ ap (λ o. option_map whole (option_map message_value o)) c.in-Some.ensures
    ∙ ap (option_map whole)
    (message_found c.args.rows.messages.now c.args.customer.now c.args.serial)

pub returns-in-None : goal.returns-in-None
returns-in-None g c all =
    let whole : Row → Message =
    λ r. message_of c.args.serial r
    (reason_of c.args.customer.now c.args.serial (holds_of c.args.rows.holds.now))
    (pending_of c.args.customer.now c.args.serial (recipients_of c.args.rows.recipients.now)) in
    ap (λ o. option_map whole (option_map message_value o)) c.in-None.ensures
    ∙ ap (option_map whole)
    (message_found c.args.rows.messages.now c.args.customer.now c.args.serial)

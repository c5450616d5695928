use Rattle.std.proofs.Common.{ap, ◌∙◌, sym, ◌++◌, ◌∷◌, [], take}
use Rattle.std.specs.List.{filter_map, cons_option}
use Rattle.std.proofs.lemmas.List.{take_more}
use Rattle.std.proofs.lemmas.List.Elements.{filter_map-append}
use Rattle.hq_rows.specs.Lookups.{message_at}
use Rattle.hq_lists.proofs.messages.messages_at.Goals as goal

pub loop-serial-preserved : goal.loop-serial-preserved
loop-serial-preserved g c all =
    let at =
    message_at c.args.customer.now c.args.rows.messages.now c.args.rows.recipients.now
    c.args.rows.holds.now in
    let xs = c.args.serials.now in
    let k = c.loop-serial.serial-index in
    let x = c.serial-item.result in
    c.in_ok-push_found.ensures ∙ (λ i. c.loop-serial.invariant all i
    ++ cons_option (c.in_ok-found.ensures all i) [])
    ∙ sym (ap (filter_map at) (take_more xs k x c.loop-serial-test.true
    ∙ ap (λ y. take k xs ++ y ∷ []) (sym c.serial-item.is))
    ∙ filter_map-append at (take k xs) (x ∷ []))

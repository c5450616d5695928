use Rattle.std.proofs.Common.{◌≡◌, take}
use Rattle.std.specs.List.{filter_map}
use Rattle.hq_rows.specs.Lookups.{AreDealt, message_at}
use Rattle.hq_lists.proofs.messages.messages_at.Given as goal

abbrev pub invariant-loop-serial : goal.invariant-loop-serial
invariant-loop-serial g l = AreDealt l.rows.recipients.now →
    l.page.items ≡ filter_map
    (message_at l.customer l.rows.messages.now l.rows.recipients.now l.rows.holds.now)
    (take l.serial-index l.serials)

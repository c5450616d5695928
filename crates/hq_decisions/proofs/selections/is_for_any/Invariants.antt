use Rattle.std.proofs.Common.{◌≡◌, false, take}
use Rattle.std.specs.List.{list_any}
use Rattle.hq_kept.specs.Keys.{is_key_of}
use Rattle.hq_values.specs.declared.address.Sender.TheVariants.{From}
use Rattle.hq_kept.specs.declared.message.Pending.{Pending}
use Rattle.hq_decisions.proofs.selections.is_for_any.Given as goal

-- it is for none of the recipients so far
abbrev pub invariant-loop-recipient : goal.invariant-loop-recipient
invariant-loop-recipient g l = list_any (λ (p : Pending). is_key_of l.pattern.1 (From p.address))
    (take l.recipient-index l.recipients) ≡ false

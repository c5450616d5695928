-- States of a message, and when it may be tried.
use Rattle.std.specs.Prelude.{ℕ, Bool, true, false, not, ◌&&◌, nat_le}
use Rattle.hq_kept.specs.declared.message.Message.{Message}
use Rattle.hq_kept.specs.declared.message.QueueState.{QueueState}
use Rattle.hq_kept.specs.declared.message.QueueState.TheVariants.{Incoming, Deferred, Hold}

abbrev pub is_on_hold : QueueState → Bool
is_on_hold Incoming = false
is_on_hold Deferred = false
is_on_hold Hold = true

-- incoming or deferred, and to be tried by that moment
abbrev pub is_due : ℕ → Message → Bool
is_due at m = not (is_on_hold m.state) && nat_le m.next_try at

-- The moves of a message (postsuper(1)): each gives the message after it, or nothing where it does
-- not apply.
use Rattle.std.specs.Prelude.{ℕ, ◌≡◌, Bool, true, false, List, [], map, Option}
use Rattle.std.specs.Prelude.{Some, None, if◌then◌else◌}
use Rattle.hq_kept.specs.Messages.{is_on_hold}
use Rattle.hq_kept.specs.declared.message.Message.{Message}
use Rattle.hq_kept.specs.declared.message.Pending.{Pending}
use Rattle.hq_kept.specs.declared.message.QueueState.TheVariants.{Incoming, Deferred, Hold}

-- hold (-h): a message that is incoming or deferred goes on hold, for a reason
abbrev pub held : List ℕ → Message → Option Message
held reason m = if is_on_hold m.state then None else
    Some (record m { state = Hold; reason = reason })

-- release (-H): a message on hold is deferred, and may be tried from that moment on
abbrev pub released : ℕ → Message → Option Message
released at m = if is_on_hold m.state then Some
    (record m { state = Deferred; reason = []; next_try = at }) else None

-- a recipient as before any attempt
abbrev pub cleared : Pending → Pending
cleared p = record p { status = None; text = [] }

-- requeue (-r): as if it were submitted at that moment, under another serial
abbrev pub requeued : ℕ → ℕ → Message → Message
requeued at serial m = record m {
  serial = serial;
  arrival = at;
  state = Incoming;
  reason = [];
  next_try = at;
  attempts = 0;
  warned = false;
  pending = map cleared m.pending;
}

-- What a call makes of a message, by a move: true, and the message is the move's; or false where
-- the move does not apply, and the message is as it was.
abbrev pub MovesBy : Option Message → Message → Message → Bool → Type 0
MovesBy move old new true = move ≡ Some new
MovesBy move old new false = (move ≡ None) × (new ≡ old)

-- A message can be read back from its columns.
use Rattle.std.proofs.Common.{◌≡◌, ℤ, Bool, true, false, refl}
use Rattle.hq_kept.specs.declared.message.QueueState.{QueueState}
use Rattle.hq_kept.specs.declared.message.QueueState.TheVariants as state
use Rattle.hq_rows.specs.declared.rows.MessageRow.{MessageRow}
use Rattle.hq_values.specs.Senders.{sender_text}
use Rattle.hq_sql.specs.Rows.{sender_of, state_of, state_code, truth, truth_in, message_stored}
use Rattle.hq_sql.specs.Rows.{message_read}

state_back : (s : QueueState) → state_of (state_code s) ≡ s
state_back state.Incoming = refl
state_back state.Deferred = refl
state_back state.Hold = refl

truth_back : (b : Bool) → truth_in (truth b) ≡ b
truth_back true = refl
truth_back false = refl

-- the sender can be read from its text
abbrev pub IsReadable : MessageRow → Type 0
IsReadable r = sender_of (sender_text r.sender) ≡ r.sender

pub message_back : (r : MessageRow) (n : ℤ) → IsReadable r →
    message_read (message_stored (n, r)) ≡ r
message_back r n sender = λ i. record {
  customer = r.customer;
  serial = r.serial;
  sender = sender i;
  spool = r.spool;
  size = r.size;
  arrival = r.arrival;
  state = state_back r.state i;
  next_try = r.next_try;
  attempts = r.attempts;
  warned = truth_back r.warned i;
}

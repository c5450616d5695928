-- Whom an end tells of: a recipient that was pending.
use Rattle.std.specs.Prelude.{◌≡◌, Some}
use Rattle.std.specs.FinMap.{get}
use Rattle.std.specs.List.{Contains}
use Rattle.hq_kept.specs.declared.message.Message.{Message}
use Rattle.hq_kept.specs.declared.message.Pending.{Pending}
use Rattle.hq_kept.specs.declared.outcome.Ended.{Ended}
use Rattle.hq_tables.specs.Tables.{State}

-- a message of that queue ID was in the queue, of this sender, and this recipient was pending in it
pub record WasQueued (s : State) (e : Ended) : Type 0 where
  pub message : Message
  pub recipient : Pending
  pub queued : get s.messages e.serial ≡ Some message
  pub pending : Contains message.pending recipient
  pub sender : e.sender ≡ message.sender
  pub address : e.recipient ≡ recipient.address

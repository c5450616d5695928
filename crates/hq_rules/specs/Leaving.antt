-- Recipients that left the queue with their message: how one is told of that no outcome names.
use Rattle.std.specs.Prelude.{List, map}
use Rattle.hq_kept.specs.declared.message.Message.{Message}
use Rattle.hq_kept.specs.declared.message.Pending.{Pending}
use Rattle.hq_kept.specs.declared.outcome.Ended.{Ended}
use Rattle.hq_kept.specs.declared.outcome.Fate.{Fate}

-- a recipient of a message that leaves with it, with what was said of it last
abbrev pub ended_as : Fate → Message → Pending → Ended
ended_as fate m p = record {
  serial = m.serial;
  sender = m.sender;
  recipient = p.address;
  fate = fate;
  status = p.status;
  text = p.text;
}

-- all recipients that a message has
abbrev pub all_ended : Fate → Message → List Ended
all_ended fate m = map (ended_as fate m) m.pending

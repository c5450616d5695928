use Rattle.hq_json.specs.Replies.{message_json}
use Rattle.hq_json.proofs.message_replies.put_message.Goals as goal

pub returns-clause-bytes : goal.returns-clause-bytes
unfolding message_json
returns-clause-bytes g c = rw (
  ← c.get.ensures.value,
  ← c.from.ensures,
  ← c.get-2.ensures.value,
  ← c.as_slice.ensures,
  ← c.as_str.ensures,
  ← c.as_str-2.ensures,
  ← c.from-2.ensures,
  ← c.as_str-3.ensures,
  ← c.state_name.ensures,
) c.put_object.ensures.bytes

use Rattle.hq_json.specs.HistoryReplies.{end_entry}
use Rattle.hq_json.proofs.history_replies.AsEntryFormEnd.put.Goals as goal

pub returns-clause-bytes : goal.returns-clause-bytes
unfolding end_entry
returns-clause-bytes g c = rw (
  ← c.get.ensures.value,
  ← c.as_str.ensures,
  ← c.fate_name.ensures,
  ← c.as_str-2.ensures,
  ← c.status_str.ensures,
  ← c.as_str-3.ensures,
) c.put_object.ensures.bytes

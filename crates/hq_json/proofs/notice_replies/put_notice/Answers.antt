use Rattle.hq_json.specs.NoticeReplies.{notice_json}
use Rattle.hq_json.proofs.notice_replies.put_notice.Goals as goal

pub returns-clause-bytes : goal.returns-clause-bytes
unfolding notice_json
returns-clause-bytes g c = rw (
  ← c.get.ensures.value,
  ← c.as_str.ensures,
  ← c.kind_name.ensures,
  ← c.as_str-2.ensures,
  ← c.subject.ensures,
  ← c.as_str-3.ensures,
) c.put_object.ensures.bytes

use Rattle.hq_json.specs.NoticeReplies.{notice_entry}
use Rattle.hq_json.proofs.notice_replies.AsEntryFormNotice.put.Goals as goal

pub returns-clause-bytes : goal.returns-clause-bytes
unfolding notice_entry
returns-clause-bytes g c = cc

use Rattle.hq_json.specs.Replies.{queued}
use Rattle.hq_json.proofs.message_replies.put_queued.Goals as goal

pub returns-clause-bytes : goal.returns-clause-bytes
unfolding queued
returns-clause-bytes g c = cc

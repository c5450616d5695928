use Rattle.hq_json.specs.Replies.{entry}
use Rattle.hq_json.proofs.message_replies.AsEntryFormMessage.put.Goals as goal

pub returns-clause-bytes : goal.returns-clause-bytes
unfolding entry
returns-clause-bytes g c = cc

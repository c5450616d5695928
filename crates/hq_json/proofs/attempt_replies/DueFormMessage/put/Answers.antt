use Rattle.hq_json.specs.AttemptReplies.{due_entry}
use Rattle.hq_json.proofs.attempt_replies.DueFormMessage.put.Goals as goal

pub returns-clause-bytes : goal.returns-clause-bytes
unfolding due_entry
returns-clause-bytes g c = cc

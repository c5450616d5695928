use Rattle.hq_json.specs.Replies.{admissible}
use Rattle.hq_json.proofs.message_replies.put_admissible.Goals as goal

pub returns-clause-bytes : goal.returns-clause-bytes
unfolding admissible
returns-clause-bytes g c = cc

use Rattle.hq_json.specs.HistoryReplies.{history_found}
use Rattle.hq_json.proofs.history_replies.put_found.Goals as goal

pub returns-clause-bytes : goal.returns-clause-bytes
unfolding history_found
returns-clause-bytes g c = cc

use Rattle.hq_json.proofs.attempt_replies.put_repeated_attempt.Goals as goal

pub returns-clause-bytes : goal.returns-clause-bytes
returns-clause-bytes g c = cc

use Rattle.hq_json.proofs.refusals.put_with_attempts.Goals as goal

pub returns-clause-bytes : goal.returns-clause-bytes
returns-clause-bytes g c = cc

use Rattle.hq_json.proofs.table_replies.put_line.Goals as goal

pub returns-clause-bytes : goal.returns-clause-bytes
returns-clause-bytes g c = cc
